-- fields compared by the ranks of their characters
use Rattle.std.specs.Prelude.{ℕ, ◌≡◌, ◌<◌, nat_lt, List, [], ◌∷◌, length, slice_index, if◌then◌else◌, Result, Ok}
use Rattle.bcd.specs.Table.{rank_of}
use Rattle.core_store.specs.Storage.{Storage, codes_ending}
use Rattle.core_store.specs.Checked.{and_then}
use Rattle.core_store.specs.declared.registers.Registers.{Registers}
use Rattle.core_store.specs.declared.checks.Check.{Check}
use Rattle.core_store.specs.declared.registers.Compared.{Compared}
use Rattle.core_store.specs.declared.registers.Compared.TheVariants.{Equal, Low, High}
use Rattle.core_store.specs.Operands.{lowered}
use Rattle.arith.specs.Operands.{counts_at}

-- how the second of two lists of one length compares with the first, by the ranks at the first
-- place from the left where they differ
unfoldable pub order : List ℕ → List ℕ → Compared
order [] ys = Equal
order (x ∷ xs) [] = Equal
order (x ∷ xs) (y ∷ ys) =
    if nat_lt (rank_of y) (rank_of x) then Low
    else (if nat_lt (rank_of x) (rank_of y) then High else order xs ys)

-- the first place at which two lists may differ: the ranks at each place to its left are the same
pub record IsFirstDifference (a b : List ℕ) (place : ℕ) : Type 0 where
  pub inside : place < length a
  pub same : (k : ℕ) → k < place → rank_of (slice_index a k) ≡ rank_of (slice_index b k)

-- this is how the second of two lists compares with the first, by the ranks of their characters
abbrev pub IsOrder : List ℕ → List ℕ → Compared → Type 0
IsOrder a b Equal = (k : ℕ) → k < length a → rank_of (slice_index a k) ≡ rank_of (slice_index b k)
IsOrder a b Low = (place : ℕ) × IsFirstDifference a b place
    × (rank_of (slice_index b place) < rank_of (slice_index a place))
IsOrder a b High = (place : ℕ) × IsFirstDifference a b place
    × (rank_of (slice_index a place) < rank_of (slice_index b place))

-- the compare indicator for the fields A and B: a shorter A makes B high, whatever the characters
-- are
abbrev pub comparison : List ℕ → List ℕ → Compared
comparison a b = if nat_lt (length a) (length b) then High else order a b

-- the registers after Compare: the A field, cut to the length of the B field, is compared with the
-- B field
unfoldable pub compared : Storage → Registers → Result (Storage × Registers) Check
compared s r =
    and_then (counts_at s r.a r.b) (λ counts.
    Ok (
      s,
      record r {
        a = lowered r.a counts.a;
        b = lowered r.b counts.b;
        compare = comparison (codes_ending s r.a counts.a) (codes_ending s r.b counts.b);
      },
    ))
