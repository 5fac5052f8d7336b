use Rattle.std.proofs.Common.{◌≡◌, length}
use Rattle.std.specs.Prelude.{find}
use Rattle.command_line.specs.Plain.{is_odd, texts}
use Rattle.command_line.proofs.plain.odd_argument.Given as goal

abbrev pub invariant-loop-argument : goal.invariant-loop-argument
invariant-loop-argument l = find is_odd (texts l.rest) ≡ find is_odd (texts l.arguments)

abbrev pub decreases-loop-argument : goal.decreases-loop-argument
decreases-loop-argument l = length l.rest
