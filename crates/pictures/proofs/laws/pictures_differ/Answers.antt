use Rattle.pictures.proofs.CardLaw.{one_card}
use Rattle.pictures.proofs.PatternLaw.{one_image}
use Rattle.pictures.proofs.laws.pictures_differ.Goals as goal

pub returns : goal.returns
returns c = record {
  images = one_image;
  characters = one_card;
}
