use Rattle.std.proofs.Common.{◌≡◌, length}
use Rattle.workbench_arguments.specs.Values.{rises}
use Rattle.workbench_arguments.proofs.values.rises.Given as goal

abbrev pub invariant-loop-stop : goal.invariant-loop-stop
invariant-loop-stop l = rises 1 l.stops ≡ rises l.last l.rest

abbrev pub decreases-loop-stop : goal.decreases-loop-stop
decreases-loop-stop l = length l.rest
