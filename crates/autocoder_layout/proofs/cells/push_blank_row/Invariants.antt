use Rattle.std.proofs.Common.{◌≡◌, ◌+◌, ◌-◌, ◌++◌, replicate}
use Rattle.autocoder_layout.specs.Cells.{row}
use Rattle.autocoder_layout.proofs.cells.push_blank_row.Given as goal

abbrev pub invariant-loop-offset : goal.invariant-loop-offset
invariant-loop-offset l = l.cells.items ++ row (l.place + l.offset) (replicate (l.count - l.offset) 0) ≡ l.fn.cells.items ++ row l.place (replicate l.count 0)
