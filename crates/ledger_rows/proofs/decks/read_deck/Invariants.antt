use Rattle.std.proofs.Common.{◌≡◌, ◌++◌, length}
use Rattle.cards.specs.Decks.{IsDeck}
use Rattle.ledger_rows.specs.Columns.{deck_bytes}
use Rattle.ledger_rows.proofs.decks.read_deck.Given as goal

abbrev pub invariant-loop-rest : goal.invariant-loop-rest
invariant-loop-rest l = record {
  deck : IsDeck l.deck;
  before : l.bytes ≡ deck_bytes l.deck ++ l.rest;
}

abbrev pub decreases-loop-rest : goal.decreases-loop-rest
decreases-loop-rest l = length l.rest
