use Rattle.std.proofs.Common.{◌≡◌, ◌++◌, take}
use Rattle.std.specs.List.{flat_map}
use Rattle.films.specs.Texts.{card_words}
use Rattle.films.proofs.items.push_cards.Given as goal

abbrev pub invariant-loop-card : goal.invariant-loop-card
invariant-loop-card l =
    l.out.items ≡ l.fn.out.items ++ flat_map card_words (take l.card-index l.cards)
