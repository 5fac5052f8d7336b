use Rattle.card_tools.proofs.CharactersShown.{card_shown, digest_same}
use Rattle.card_tools.proofs.laws.characters_are_shown_by_glyphs.Goals as goal

pub returns : goal.returns
returns c = record {
  card = card_shown;
  digest = digest_same;
}
