use Rattle.std.proofs.Common.{◌≡◌, length}
use Rattle.command_line.specs.Plain.{texts}
use Rattle.command_line.specs.Programs.{has_help}
use Rattle.command_line.proofs.programs.has_help.Given as goal

abbrev pub invariant-loop-argument : goal.invariant-loop-argument
invariant-loop-argument l = has_help (texts l.rest) ≡ has_help (texts l.arguments)

abbrev pub decreases-loop-argument : goal.decreases-loop-argument
decreases-loop-argument l = length l.rest
