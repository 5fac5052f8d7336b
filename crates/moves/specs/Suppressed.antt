-- the operation Move Characters and Suppress Zeros
use Rattle.std.specs.Prelude.{ℕ, zero, suc, ◌+◌, ◌-◌, nat_le, not, List, false, Result, Ok}
use Rattle.core_store.specs.Storage.{Storage, field_length, codes_ending, put_codes, with_mark}
use Rattle.core_store.specs.Operands.{are_inside, is_overlapping, lowered_by}
use Rattle.core_store.specs.Checked.{require, find_or}
use Rattle.core_store.specs.declared.registers.Registers.{Registers}
use Rattle.core_store.specs.declared.checks.Check.{Check}
use Rattle.core_store.specs.declared.checks.Check.TheVariants.{Address, Overlap}
use Rattle.moves.specs.declared.blanking.Stop.TheVariants.{Other}
use Rattle.moves.specs.Characters.{bare_units}
use Rattle.moves.specs.Blanked.{ends, leading, blanked}

-- the storage with the word marks of the count positions from the first on cleared
unfoldable pub unmarked : Storage → ℕ → ℕ → Storage
unmarked s first zero = s
unmarked s first (suc count) = with_mark (unmarked s (first + 1) count) first false

-- the characters with a blank for each `0` and comma before the first that is neither of these nor
-- a blank
unfoldable pub suppressed : List ℕ → List ℕ
suppressed codes = blanked (leading (ends Other) codes) codes

-- storage and registers after the field at A is moved to B without the zone of its units and
-- without leading zeros; word marks at B are cleared
unfoldable pub zeros_suppressed : Storage → Registers → Result (Storage × Registers) Check
zeros_suppressed s r =
    require (are_inside s r.a r.b) Address
    (find_or (field_length s r.a) Address (λ count.
    require (nat_le count (r.b + 1)) Address
    (require (not (is_overlapping r.a r.b count)) Overlap
    (Ok (
      put_codes (unmarked s (r.b + 1 - count) count) (r.b + 1 - count)
          (suppressed (bare_units (codes_ending s r.a count))),
      lowered_by r count count,
    )))))
