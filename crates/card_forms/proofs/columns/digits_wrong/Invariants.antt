use Rattle.std.proofs.Common.{◌≡◌, length}
use Rattle.card_forms.specs.ImageFaults.{digits_wrong}
use Rattle.card_forms.proofs.columns.digits_wrong.Given as goal

abbrev pub invariant-loop-byte : goal.invariant-loop-byte
invariant-loop-byte l = digits_wrong l.bytes ≡ digits_wrong l.rest

abbrev pub decreases-loop-byte : goal.decreases-loop-byte
decreases-loop-byte l = length l.rest
