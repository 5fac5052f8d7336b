-- at most sixteen characters that are moved at once
use Rattle.std.proofs.Common.{◌≡◌, ℕ, ◌+◌, ◌-◌, ◌<◌, ◌≤◌, true, false, Some, Ok, List, sym, ◌∙◌, ap, arith, length, drop}
use Rattle.std.proofs.lemmas.Bool.{le-leb}
use Rattle.core_store.specs.Storage.{Storage, put_codes, codes_ending}
use Rattle.core_store.specs.Operands.{are_inside, is_overlapping, lowered_by}
use Rattle.core_store.specs.declared.registers.Registers.{Registers}
use Rattle.core_store.proofs.NearCodes.{last_of_sixteen}
use Rattle.moves.specs.Moved.{moved_codes, moved, move_length}
use Rattle.moves.proofs.MovingLemmas.{moved_apart}

pub near_moved : (s : Storage) (a b count : ℕ) → a < length s → 15 ≤ a → count ≤ 16 → is_overlapping a b count ≡ false → (xs : List ℕ) → xs ≡ codes_ending s a 16 →
    (new : Storage) → new ≡ put_codes s (b + 1 - count) (drop (16 - count) xs) → new ≡ put_codes s (b + 1 - count) (moved_codes s a b count)
near_moved s a b count a_in room most apart xs xs_is new new_is =
    moved_apart s a b count a_in (omega arith) apart new
    (new_is ∙ ap (λ l. put_codes s (b + 1 - count) (drop (16 - count) l)) xs_is ∙ ap (put_codes s (b + 1 - count)) (last_of_sixteen s a count room a_in most))

-- a move that passes all checks
pub move_passes : (s : Storage) (r : Registers) (count : ℕ) → are_inside s r.a r.b ≡ true → move_length s r.a r.b ≡ Some count → count ≤ r.a + 1 → count ≤ r.b + 1 →
    (new : Storage) → new ≡ put_codes s (r.b + 1 - count) (moved_codes s r.a r.b count) → (after : Registers) → after ≡ lowered_by r count count → moved s r ≡ Ok (new, after)
unfolding moved
move_passes s r count inside found a_from b_from new new_is after after_is =
    rw (inside, found, le-leb count (r.a + 1) a_from, le-leb count (r.b + 1) b_from) (ap (λ t. Ok (t, lowered_by r count count)) (sym new_is) ∙ ap (λ x. Ok (new, x)) (sym after_is))
