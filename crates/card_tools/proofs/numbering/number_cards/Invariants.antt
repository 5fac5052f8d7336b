use Rattle.std.proofs.Common.{◌≡◌, ◌<◌, ◌+◌, ◌^◌, ◌++◌, drop}
use Rattle.card_tools.specs.Numbering.{fault_from, numbered_from}
use Rattle.card_tools.proofs.numbering.number_cards.Given as goal

abbrev pub invariant-loop-index : goal.invariant-loop-index
invariant-loop-index l = record {
  cards : l.deck ++ numbered_from l.ident l.step l.number (drop l.index l.cards)
      ≡ numbered_from l.ident l.step l.first l.cards;
  fault : fault_from l.ident l.step (l.index + 1) l.number (drop l.index l.cards)
      ≡ fault_from l.ident l.step 1 l.first l.cards;
  small : l.number < 2 ^ 40;
}
