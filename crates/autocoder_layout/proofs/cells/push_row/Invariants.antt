use Rattle.std.proofs.Common.{◌≡◌, ◌+◌, ◌++◌, drop}
use Rattle.autocoder_layout.specs.Cells.{row}
use Rattle.autocoder_layout.proofs.cells.push_row.Given as goal

abbrev pub invariant-loop-code : goal.invariant-loop-code
invariant-loop-code l = record {
  cells : l.cells.items ++ row l.position (drop l.code-index l.codes) ≡ l.fn.cells.items ++ row l.fn.place l.codes;
  position : l.position ≡ l.fn.place + l.code-index;
}
