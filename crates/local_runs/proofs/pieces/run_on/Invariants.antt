use Rattle.std.proofs.Common.{◌-◌, ◌+◌, ◌<◌, ◌≤◌, ℕ, List}
use Rattle.std.specs.Prelude.{Option}
use Rattle.machine.specs.Ranges.{IsInRange}
use Rattle.machine.specs.Run.{State}
use Rattle.local_runs.specs.Pieces.{HasRun}
use Rattle.local_runs.proofs.pieces.run_on.Given as goal

abbrev pub invariant-loop-left : goal.invariant-loop-left
invariant-loop-left g l = record {
  run : (start : State) (steps : ℕ) (first : Option (List ℕ)) → IsInRange start
      → HasRun start steps first (g.W.Write.contents l.fn.output) l.fn.listing l.fn.machine
      → HasRun start (steps + (l.count - l.left)) first (g.W.Write.contents l.output) l.listing l.machine;
  within : l.left ≤ l.count;
  some : 0 < l.limit;
}

abbrev pub decreases-loop-left : goal.decreases-loop-left
decreases-loop-left g l = l.left
