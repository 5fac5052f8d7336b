-- the lengths of the fields that arithmetic reads
use Rattle.std.specs.Prelude.{ℕ, ◌+◌, ◌<◌, ◌≤◌, ◌≡◌, length, not, Some, Result, Ok}
use Rattle.core_store.specs.Storage.{Storage, field_length, field, codes_ending, largest_size}
use Rattle.core_store.specs.Operands.{are_inside, cut_length, cut, is_overlapping}
use Rattle.core_store.specs.Checked.{require, find_or, and_then}
use Rattle.core_store.specs.declared.checks.Check.{Check}
use Rattle.core_store.specs.declared.checks.Check.TheVariants.{Address, Overlap}
use Rattle.arith.specs.declared.operands.Counts.{Counts}

-- the lengths of the fields at a and at b, of which a's is cut to b's, or the check
unfoldable pub counts_at : Storage → ℕ → ℕ → Result Counts Check
counts_at s a b =
    require (are_inside s a b) Address
    (find_or (field_length s b) Address (λ b_count.
    find_or (cut_length s a b_count) Address (λ a_count.
    Ok (record { a = a_count; b = b_count }))))

-- these lengths for an operation that writes over the field at b while it reads the one at a, or
-- the check
unfoldable pub counts_apart : Storage → ℕ → ℕ → Result Counts Check
counts_apart s a b =
    and_then (counts_at s a b) (λ counts.
    require (not (is_overlapping a b counts.a)) Overlap (Ok counts))

-- the lengths are those of the whole field at b and of the field at a, cut to b's length
pub record AreOfFields (s : Storage) (a b : ℕ) (counts : Counts) : Type 0 where
  pub field : field s b ≡ Some (codes_ending s b counts.b)
  pub cut : cut s a counts.b ≡ Some (codes_ending s a counts.a)

-- the lengths of two fields that are in storage, of which the one at a is no longer than the one at
-- b
pub record AreCounts (s : Storage) (a b a_count b_count : ℕ) : Type 0 where
  pub a_in : a < length s
  pub b_in : b < length s
  pub a_below : a < largest_size
  pub b_below : b < largest_size
  pub a_some : 1 ≤ a_count
  pub b_some : 1 ≤ b_count
  pub a_from : a_count ≤ a + 1
  pub b_from : b_count ≤ b + 1
  pub cut : a_count ≤ b_count
