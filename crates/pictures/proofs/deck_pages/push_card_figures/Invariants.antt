use Rattle.std.proofs.Common.{◌≡◌, ◌+◌, ◌++◌, drop}
use Rattle.pictures.specs.Decks.{figures_from}
use Rattle.pictures.proofs.deck_pages.push_card_figures.Given as goal

abbrev pub invariant-loop-index : goal.invariant-loop-index
invariant-loop-index l =
    l.out.items ++ figures_from (l.index + 1) (drop l.index l.cards)
    ≡ l.fn.out.items ++ figures_from 1 l.cards
