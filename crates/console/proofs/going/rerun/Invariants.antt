use Rattle.std.proofs.Common.{◌≡◌, length}
use Rattle.machine.specs.Run.{loaded}
use Rattle.units.specs.declared.profiles.Profile.TheVariants.{Selecting}
use Rattle.console.specs.SessionStates.{machine_from, machine_of}
use Rattle.console.proofs.going.rerun.Given as goal

abbrev pub invariant-loop-start : goal.invariant-loop-start
invariant-loop-start l = machine_from l.machine l.done l.rest l.count ≡ machine_of (loaded l.deck l.fn.size l.fn.switches Selecting) l.starts l.count

abbrev pub decreases-loop-start : goal.decreases-loop-start
decreases-loop-start l = length l.rest
