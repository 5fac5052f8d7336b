use Rattle.std.proofs.Common.{◌≡◌, ◌++◌, length}
use Rattle.std.specs.List.{flat_map}
use Rattle.std.specs.Str.Lines.{lines}
use Rattle.card_forms.specs.SimhTexts.{deck_line_of, deck_text_of}
use Rattle.card_forms.proofs.simh_texts.deck_text.Given as goal

abbrev pub invariant-loop-rest : goal.invariant-loop-rest
invariant-loop-rest l = l.deck.items ++ flat_map deck_line_of (lines l.rest) ≡ deck_text_of l.text

abbrev pub decreases-loop-rest : goal.decreases-loop-rest
decreases-loop-rest l = length l.rest
