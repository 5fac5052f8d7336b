use Rattle.std.proofs.Common.{◌≡◌, ◌<◌, ◌+◌, ◌*◌, ◌^◌, drop, length}
use Rattle.autocoder_statements.specs.Characters.{number_of}
use Rattle.autocoder_statements.proofs.characters.number_of.Given as goal

abbrev pub invariant-loop-digit : goal.invariant-loop-digit
invariant-loop-digit l = record {
  number : l.number * 10 ^ length (drop l.digit-index l.digits) + number_of (drop l.digit-index l.digits) ≡ number_of l.digits;
  below : l.number < 10 ^ l.digit-index;
}
