use Rattle.std.proofs.Common.{◌+◌, ◌∙◌, sym}
use Rattle.std.proofs.lemmas.List.{take_rest}
use Rattle.pictures.proofs.FormParts.{part_ended, part_open}
use Rattle.pictures.proofs.forms.split_form.Goals as goal

pub returns-in_err-place-clause-last : goal.returns-in_err-place-clause-last
returns-in_err-place-clause-last c _ = part_open c.args.text.now (sym c.feed_place.ensures ∙ c.in_err-place.was)

pub returns-clause-parts : goal.returns-clause-parts
returns-clause-parts c =
    rw (take_rest c.args.text.now (c.in_ok-place.place + 1))
    (part_ended c.args.text.now c.in_ok-place.place (sym c.feed_place.ensures ∙ c.in_ok-place.was))
