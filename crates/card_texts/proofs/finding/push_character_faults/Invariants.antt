use Rattle.std.proofs.Common.{◌≡◌, ◌≤◌, ◌+◌, ◌++◌, length}
use Rattle.card_texts.specs.Faults.{faults_from, nothing_met}
use Rattle.card_texts.proofs.finding.push_character_faults.Given as goal

abbrev pub invariant-loop-byte : goal.invariant-loop-byte
invariant-loop-byte l = record {
  found : l.faults.items ++ faults_from l.rules l.number l.filled l.met l.rest
      ≡ l.fn.faults.items ++ faults_from l.rules l.number 0 nothing_met l.line;
  bound : l.filled + length l.rest ≤ length l.line + 255;
  left : length l.rest ≤ length l.line;
}

abbrev pub decreases-loop-byte : goal.decreases-loop-byte
decreases-loop-byte l = length l.rest
