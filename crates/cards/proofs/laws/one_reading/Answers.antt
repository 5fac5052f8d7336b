use Rattle.cards.proofs.ReadingLaw.{deck_once, first_once, no_deck}
use Rattle.cards.proofs.laws.one_reading.Goals as goal

pub returns : goal.returns
returns c = record {
  one_deck = λ form one two is_one is_two same. deck_once form one two is_one.1 is_two.1 same;
  one_fault = first_once;
  not_both = λ form file fault deck first is_deck. no_deck form file fault first deck is_deck;
}
