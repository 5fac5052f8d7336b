use Rattle.cards.specs.declared.forms.Form.TheVariants.{Punched}
use Rattle.cards.proofs.ReadingLaw.{no_other_deck}
use Rattle.cards.proofs.reading.read_punched.Goals as goal

pub returns-clause-only : goal.returns-clause-only
returns-clause-only c = no_other_deck Punched c.args.file.now c.read.result c.read.ensures.deck c.read.ensures.fault
