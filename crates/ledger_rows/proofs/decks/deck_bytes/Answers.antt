use Rattle.std.proofs.Common.{◌∙◌, ◌++◌, ap, length, ◌<◌, ◌≡◌, get_or}
use Rattle.ledger_rows.proofs.DeckBytes.{bytes_more, cards_more}
use Rattle.ledger_rows.proofs.decks.deck_bytes.Goals as goal

pub loop-card-preserved : goal.loop-card-preserved
loop-card-preserved c =
    let deck = c.args.deck.now in
    let i = c.loop-card.card-index in
    let card = c.card-item.result in
    let loop = c.loop-card.invariant in
    let is : card ≡ get_or deck i card = rw loop.items at c.card-item.is in
    let within : i < length deck = rw loop.items at c.loop-card-test.true in
    record {
      bytes = bytes_more deck i card c.loop-card.bytes.items _ within is loop.bytes (c.in_ok-extend_from_slice.ensures.items ∙ ap (λ bytes. c.loop-card.bytes.items ++ bytes) c.card_bytes.ensures.bytes);
      cards = cards_more deck i card within is loop.cards c.card_bytes.ensures.card;
      items = loop.items;
    }
