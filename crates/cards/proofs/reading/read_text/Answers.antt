use Rattle.cards.specs.declared.forms.Form.TheVariants.{Text}
use Rattle.cards.proofs.ReadingLaw.{no_other_deck}
use Rattle.cards.proofs.reading.read_text.Goals as goal

pub returns-clause-only : goal.returns-clause-only
returns-clause-only c = no_other_deck Text c.args.text.now c.read.result c.read.ensures.deck c.read.ensures.fault
