-- where the shorter of two fields ends
use Rattle.std.proofs.Common.{◌≡◌, ◌+◌, ℕ, ◌≤◌, Bool, true, false, if◌then◌else◌, min, Option, Some, None, ap, arith, sym}
use Rattle.core_store.specs.Storage.{Storage, field_length}
use Rattle.core_store.specs.Operands.{is_within, least_of, near_length, shared_length, sought_near}
use Rattle.moves.specs.Moved.{move_length}

least_near : (first second : Option ℕ) (m n count : ℕ) → m ≡ sought_near first → n ≡ sought_near second → count ≡ min m n → count ≤ 16 → least_of first second ≡ Some count
least_near None None m n count m_is n_is is near = absurd (omega arith)
least_near None (Some k) m n count m_is n_is is near = let same : k ≡ count = omega arith in ap Some same
least_near (Some j) None m n count m_is n_is is near = let same : j ≡ count = omega arith in ap Some same
least_near (Some j) (Some k) m n count m_is n_is is near = let same : min j k ≡ count = omega arith in ap Some same

pub near_shared : (s : Storage) (a b m n count : ℕ) → m ≡ near_length s a → n ≡ near_length s b → count ≡ min m n → count ≤ 16 → move_length s a b ≡ Some count
unfolding near_length move_length
near_shared s a b m n count m_is n_is is near = least_near (field_length s a) (field_length s b) m n count m_is n_is is near

only_within : (is : Bool) (found : Option ℕ) (count : ℕ) → Some count ≡ (if is then found else None) → found ≡ Some count
only_within true found count e = sym e
only_within false found count e = absurd (cc)

-- the length that two fields share is that of a move
pub far_shared : (s : Storage) (a b count : ℕ) → Some count ≡ shared_length s a b → move_length s a b ≡ Some count
unfolding shared_length move_length
far_shared s a b count is =
    only_within (is_within (least_of (field_length s a) (field_length s b)) (min a b + 1)) (least_of (field_length s a) (field_length s b)) count is
