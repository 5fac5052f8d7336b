use Rattle.card_tools.proofs.SameDecks.{same_decks, same_images}
use Rattle.card_tools.proofs.laws.same_decks_do_not_differ.Goals as goal

pub returns : goal.returns
returns c = record {
  images = same_images;
  decks = same_decks;
}
