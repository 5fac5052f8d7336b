use Rattle.pictures.proofs.CardLaw.{picture_punches}
use Rattle.pictures.proofs.laws.holes_are_the_punches.Goals as goal

pub returns : goal.returns
returns c = picture_punches
