use Rattle.std.proofs.Common.{◌≡◌, ◌+◌, ◌*◌, ◌≤◌, ◌++◌, drop}
use Rattle.autocoder_layout.specs.Cells.{literal_cells}
use Rattle.autocoder_layout.proofs.cells.push_literals.Given as goal

abbrev pub invariant-loop-literal : goal.invariant-loop-literal
invariant-loop-literal l = record {
  cells : l.cells.items ++ literal_cells l.here (drop l.literal-index l.literals) ≡ l.fn.cells.items ++ literal_cells l.fn.place l.literals;
  limit : l.here ≤ l.fn.place + 52 * l.literal-index;
}
