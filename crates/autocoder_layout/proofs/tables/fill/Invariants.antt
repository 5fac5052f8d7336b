use Rattle.std.proofs.Common.{◌≡◌, drop}
use Rattle.autocoder_layout.specs.Tables.{filled_table}
use Rattle.autocoder_layout.proofs.tables.fill.Given as goal

abbrev pub invariant-loop-cell : goal.invariant-loop-cell
invariant-loop-cell l = filled_table l.table (drop l.cell-index l.cells) ≡ filled_table l.fn.table l.cells
