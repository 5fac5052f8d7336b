use Rattle.std.proofs.Common.{◌≡◌, ◌≤◌, length}
use Rattle.card_texts.specs.Faults.{without_bare}
use Rattle.card_texts.proofs.finding.without_bare.Given as goal

abbrev pub invariant-loop-byte : goal.invariant-loop-byte
invariant-loop-byte l = record {
  bytes : without_bare l.rules l.bytes ≡ without_bare l.rules l.rest;
  length : length l.rest ≤ length l.bytes;
}

abbrev pub decreases-loop-byte : goal.decreases-loop-byte
decreases-loop-byte l = length l.rest
