use Rattle.std.proofs.Common.{◌∙◌, sym}
use Rattle.card_forms.proofs.ImageCharacters.{odd_there}
use Rattle.card_forms.proofs.image_faults.first_odd.Goals as goal

pub returns-in_default-odd_column-clause-none : goal.returns-in_default-odd_column-clause-none
returns-in_default-odd_column-clause-none c = λ _.
    absurd (odd_there c.args.images.now c.in-Some.card _ (sym c.odd_card.ensures ∙ c.in-Some.is) (sym c.odd_column.ensures.first ∙ c.in_default-odd_column.is))
