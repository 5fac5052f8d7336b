use Rattle.std.proofs.Common.{◌≡◌, length}
use Rattle.command_line.specs.Misuses.{arguments_as, misuse, misuse_from, place_as}
use Rattle.command_line.specs.Plain.{texts}
use Rattle.command_line.proofs.misuses.place_behind.Given as goal

abbrev pub invariant-loop-argument : goal.invariant-loop-argument
invariant-loop-argument l = misuse_from (arguments_as l.all) (place_as l.place) (texts l.rest) ≡ misuse (arguments_as l.all) (texts l.arguments)

abbrev pub decreases-loop-argument : goal.decreases-loop-argument
decreases-loop-argument l = length l.rest
