use Rattle.std.proofs.Common.{◌≡◌, take}
use Rattle.std.specs.List.{All}
use Rattle.cards.specs.Decks.{IsCard}
use Rattle.ledger_rows.specs.Columns.{deck_bytes}
use Rattle.ledger_rows.proofs.decks.deck_bytes.Given as goal

abbrev pub invariant-loop-card : goal.invariant-loop-card
invariant-loop-card l = record {
  bytes : l.bytes.items ≡ deck_bytes (take l.card-index l.deck);
  cards : All IsCard (take l.card-index l.deck);
  items : l.card-items ≡ l.deck;
}
