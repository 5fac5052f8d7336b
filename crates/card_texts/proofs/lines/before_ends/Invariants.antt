use Rattle.std.proofs.Common.{◌≡◌, ◌≤◌, length}
use Rattle.card_texts.specs.Lines.{without_ends}
use Rattle.card_texts.proofs.lines.before_ends.Given as goal

abbrev pub invariant-loop-byte : goal.invariant-loop-byte
invariant-loop-byte l = record {
  body : without_ends l.text ≡ without_ends l.rest;
  length : length l.rest ≤ length l.text;
}

abbrev pub decreases-loop-byte : goal.decreases-loop-byte
decreases-loop-byte l = length l.rest
