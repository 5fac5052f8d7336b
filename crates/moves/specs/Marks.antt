-- the operations Set Word Mark, Clear Word Mark and Clear Storage
use Rattle.std.specs.Prelude.{ℕ, ◌+◌, ◌-◌, ◌*◌, ◌/◌, nat_lt, length, Bool, replicate, Result, Ok}
use Rattle.core_store.specs.Storage.{Storage, with_mark, put_cells, blank_cell}
use Rattle.core_store.specs.Operands.{are_inside, lowered, lowered_by}
use Rattle.core_store.specs.Checked.{require}
use Rattle.core_store.specs.declared.registers.Registers.{Registers}
use Rattle.core_store.specs.declared.checks.Check.{Check}
use Rattle.core_store.specs.declared.checks.Check.TheVariants.{Address}

-- storage and registers after word marks are set at A and B, or cleared
unfoldable pub marks_put : Bool → Storage → Registers → Result (Storage × Registers) Check
marks_put marked s r =
    require (are_inside s r.a r.b) Address
    (Ok (with_mark (with_mark s r.a marked) r.b marked, lowered_by r 1 1))

-- the nearest hundred at or below a position
abbrev pub hundred_of : ℕ → ℕ
hundred_of p = p / 100 * 100

-- storage and registers after Clear Storage: blanks without word marks from B down to the nearest
-- hundred
unfoldable pub storage_cleared : Storage → Registers → Result (Storage × Registers) Check
storage_cleared s r =
    require (nat_lt r.b (length s)) Address
    (Ok (
      put_cells s (hundred_of r.b) (replicate (r.b + 1 - hundred_of r.b) blank_cell),
      record r { b = lowered (hundred_of r.b) 1 },
    ))
