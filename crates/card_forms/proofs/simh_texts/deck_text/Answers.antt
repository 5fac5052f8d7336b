use Rattle.std.proofs.Common.{◌∙◌}
use Rattle.std.specs.Str.Lines.{lines}
use Rattle.card_forms.proofs.SimhLines.{line_more}
use Rattle.card_forms.proofs.simh_texts.deck_text.Goals as goal

pub loop-rest-preserved : goal.loop-rest-preserved
loop-rest-preserved c =
    rw c.in_ok-push_deck_line.ensures
    (line_more c.loop-rest.deck.items c.split_line.result.0.now (lines c.loop-rest.rest.now) (lines c.split_line.result.1.now) c.split_line.ensures.line
    ∙ c.loop-rest.invariant)
