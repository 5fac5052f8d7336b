use Rattle.std.proofs.Common.{◌≡◌, ◌+◌, ◌++◌, drop}
use Rattle.autocoder.specs.Listing.{card_lines}
use Rattle.autocoder.proofs.listings.push_cards.Given as goal

abbrev pub invariant-loop-i : goal.invariant-loop-i
invariant-loop-i l = l.text.items ++ card_lines (l.i + 1) (drop l.i l.cards) (drop l.i l.slots) ≡ l.fn.text.items ++ card_lines 1 l.cards l.slots
