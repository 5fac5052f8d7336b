use Rattle.std.proofs.Common.{◌≡◌, ◌-◌, ◌++◌}
use Rattle.run_traces.specs.Rows.{follows_blank, rows_shown}
use Rattle.run_traces.proofs.rows.push_rows.Given as goal

abbrev pub invariant-loop-row : goal.invariant-loop-row
invariant-loop-row g l = record {
  text : l.text.items ≡ l.fn.text.items ++ rows_shown (g.C.Core.cells l.core) l.first (l.row - l.first);
  follows : l.follows ≡ follows_blank (g.C.Core.cells l.core) l.first (l.row - l.first);
}
