-- the operation Load Characters to A Word Mark
use Rattle.std.specs.Prelude.{ℕ, ◌≡◌, ◌<◌, ◌≤◌, ◌+◌, ◌-◌, nat_le, not, true, false, Result, Ok}
use Rattle.core_store.specs.Storage.{Storage, cell_at, code_at, is_marked, put_cells, cells_ending, field_length}
use Rattle.core_store.specs.Operands.{are_inside, is_overlapping, lowered_by}
use Rattle.core_store.specs.Checked.{require, find_or}
use Rattle.core_store.specs.declared.registers.Registers.{Registers}
use Rattle.core_store.specs.declared.checks.Check.{Check}
use Rattle.core_store.specs.declared.checks.Check.TheVariants.{Address}

-- storage and registers after the field at A is loaded at B with its word mark and no other; it
-- must not pass position 0, nor write over its mark before that is read
unfoldable pub field_loaded : Storage → Registers → Result (Storage × Registers) Check
field_loaded s r =
    require (are_inside s r.a r.b) Address
    (find_or (field_length s r.a) Address (λ count.
    require (nat_le count (r.b + 1)) Address
    (require (not (is_overlapping r.a r.b count)) Address
    (Ok (put_cells s (r.b + 1 - count) (cells_ending s r.a count), lowered_by r count count)))))

-- a storage in which so many characters of the field at a were loaded at b, position by position
pub record IsLoaded (s : Storage) (a b count : ℕ) (new : Storage) : Type 0 where
  pub codes : (i : ℕ) → i < count → code_at new (b - i) ≡ code_at s (a - i)
  pub first : is_marked new (b + 1 - count) ≡ true
  pub others : (i : ℕ) → i + 1 < count → is_marked new (b - i) ≡ false
  pub below : (p : ℕ) → p + count ≤ b → cell_at new p ≡ cell_at s p
  pub above : (p : ℕ) → b < p → cell_at new p ≡ cell_at s p
