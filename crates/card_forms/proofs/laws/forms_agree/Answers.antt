use Rattle.card_forms.proofs.BinaryColumns.{deck_told}
use Rattle.card_forms.proofs.FormLaw.{is_written, no_file, one_deck}
use Rattle.card_forms.proofs.laws.forms_agree.Goals as goal

pub returns : goal.returns
returns c = record {
  written = is_written;
  one_deck = one_deck;
  not_both = λ form bytes deck fault first is_deck same. no_file form bytes deck fault first is_deck same;
  binary = λ deck is_deck. deck_told deck is_deck.1;
}
