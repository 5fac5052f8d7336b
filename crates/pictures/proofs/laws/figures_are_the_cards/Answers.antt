use Rattle.pictures.proofs.DeckLaw.{figures_show}
use Rattle.pictures.proofs.laws.figures_are_the_cards.Goals as goal

pub returns : goal.returns
returns c = figures_show
