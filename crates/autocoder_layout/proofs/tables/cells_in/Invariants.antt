use Rattle.std.proofs.Common.{◌≡◌, ◌++◌, drop}
use Rattle.autocoder_layout.specs.Tables.{cells_in}
use Rattle.autocoder_layout.proofs.tables.cells_in.Given as goal

abbrev pub invariant-loop-entry : goal.invariant-loop-entry
invariant-loop-entry l = l.cells.items ++ cells_in (drop l.entry-index l.table) ≡ cells_in l.table
