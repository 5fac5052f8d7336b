use Rattle.std.proofs.Common.{◌+◌, ◌∙◌, sym}
use Rattle.std.proofs.lemmas.List.{take_rest}
use Rattle.card_forms.proofs.SimhLines.{line_ended, line_open}
use Rattle.card_forms.proofs.simh_texts.split_line.Goals as goal

pub returns-in-Some-clause-line : goal.returns-in-Some-clause-line
returns-in-Some-clause-line c =
    rw (take_rest c.args.text.now (c.in-Some.place + 1), c.without_return.ensures)
    (line_ended c.args.text.now c.in-Some.place (sym c.feed_place.ensures ∙ c.in-Some.is))

pub returns-in-None-clause-line : goal.returns-in-None-clause-line
returns-in-None-clause-line c = line_open c.args.text.now c.requires (sym c.feed_place.ensures ∙ c.in-None.is)
