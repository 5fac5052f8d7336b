use Rattle.std.proofs.Common.{◌≡◌, ◌≤◌, ◌+◌, false, length}
use Rattle.card_texts.specs.Faults.{columns_behind}
use Rattle.card_texts.proofs.finding.columns_behind.Given as goal

abbrev pub invariant-loop-byte : goal.invariant-loop-byte
invariant-loop-byte l = record {
  columns : columns_behind l.rules l.filled l.inside l.rest
      ≡ columns_behind l.rules l.before false l.bytes;
  bound : l.filled + length l.rest ≤ l.before + length l.bytes + 255;
  left : length l.rest ≤ length l.bytes;
}

abbrev pub decreases-loop-byte : goal.decreases-loop-byte
decreases-loop-byte l = length l.rest
