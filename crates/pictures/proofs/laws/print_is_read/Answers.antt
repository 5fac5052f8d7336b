use Rattle.pictures.proofs.CardLaw.{characters_print, picture_print}
use Rattle.pictures.proofs.laws.print_is_read.Goals as goal

pub returns : goal.returns
returns c = record {
  card = picture_print;
  characters = characters_print;
}
