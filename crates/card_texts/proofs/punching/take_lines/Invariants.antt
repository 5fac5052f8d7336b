use Rattle.std.proofs.Common.{◌≡◌, ◌≤◌, ◌+◌, ◌++◌, false, length}
use Rattle.card_texts.specs.Lines.{lines_from}
use Rattle.card_texts.specs.Punching.{cards_of_lines, deck_text_of, faults_of, faults_of_lines}
use Rattle.card_texts.proofs.punching.take_lines.Given as goal

abbrev pub invariant-loop-rest : goal.invariant-loop-rest
invariant-loop-rest l = record {
  faults : l.taken.faults.items
      ++ faults_of_lines l.rules l.number l.taken.cards (lines_from false l.rest)
      ≡ faults_of l.rules l.text;
  cards : l.taken.text.items ++ cards_of_lines l.rules l.number (lines_from false l.rest)
      ≡ deck_text_of l.rules l.text;
  room : l.taken.cards ≤ 2000;
  bound : l.number + length l.rest ≤ length l.text + 1;
}

abbrev pub decreases-loop-rest : goal.decreases-loop-rest
decreases-loop-rest l = length l.rest
