use Rattle.std.proofs.Common.{◌≡◌, length}
use Rattle.texts.specs.Switches.{risen}
use Rattle.texts.proofs.switches.bits_of.Given as goal

abbrev pub invariant-loop-letter : goal.invariant-loop-letter
invariant-loop-letter l = risen l.bits l.rest ≡ risen 0 l.letters

abbrev pub decreases-loop-letter : goal.decreases-loop-letter
decreases-loop-letter l = length l.rest
