use Rattle.std.proofs.Common.{refl}
use Rattle.card_forms.proofs.ImageDecks.{deck_has_file, read_as, written}
use Rattle.card_forms.proofs.ImageLaw.{images_once}
use Rattle.card_forms.proofs.PunchDigits.{images_stay}
use Rattle.card_forms.proofs.laws.images_agree.Goals as goal

pub returns : goal.returns
returns c = record {
  read = read_as;
  characters = deck_has_file;
  written = written;
  one = images_once;
  punched = λ images each. (each, images_stay images);
  binary = λ images each. (each, refl);
}
