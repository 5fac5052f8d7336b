use Rattle.std.proofs.Common.{◌≡◌, ◌≤◌, ◌+◌, ◌++◌, false, length}
use Rattle.card_texts.specs.Lines.{lines_from}
use Rattle.card_texts.specs.Changes.{changes_of, changes_of_lines}
use Rattle.card_texts.proofs.changing.changes.Given as goal

abbrev pub invariant-loop-rest : goal.invariant-loop-rest
invariant-loop-rest l = record {
  changes : l.changes.items ++ changes_of_lines l.rules l.number (lines_from false l.rest)
      ≡ changes_of l.rules l.text;
  bound : l.number + length l.rest ≤ length l.text + 1;
}

abbrev pub decreases-loop-rest : goal.decreases-loop-rest
decreases-loop-rest l = length l.rest
