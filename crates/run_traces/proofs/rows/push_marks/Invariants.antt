use Rattle.std.proofs.Common.{◌≡◌, ◌++◌, map, take}
use Rattle.run_traces.specs.Rows.{mark_shown}
use Rattle.run_traces.proofs.rows.push_marks.Given as goal

abbrev pub invariant-loop-marked : goal.invariant-loop-marked
invariant-loop-marked l = l.line.items ≡ l.fn.line.items ++ map mark_shown (take l.marked-index l.marks)
