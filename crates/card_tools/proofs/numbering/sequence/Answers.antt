use Rattle.card_tools.proofs.CardNumbers.{kept}
use Rattle.card_tools.proofs.numbering.sequence.Goals as goal

pub returns-clause-kept : goal.returns-clause-kept
returns-clause-kept c is_deck =
    kept c.deref.result.now c.args.step c.args.first c.cards.result.now c.args.deck.now c.number_cards.result is_deck.1 c.cards.ensures.cards c.number_cards.ensures.numbered
