use Rattle.std.proofs.Common.{◌≡◌, ◌++◌, ◌+◌, drop}
use Rattle.autocoder_layout.specs.Layout.{layout_in}
use Rattle.autocoder_listings.specs.Listing.{cards_in}
use Rattle.autocoder_listings.proofs.cards_shown.push_cards.Given as goal

abbrev pub invariant-loop-i : goal.invariant-loop-i
invariant-loop-i l = l.text.items ++ cards_in l.width (l.i + 1) (drop l.i l.source) (drop l.i (layout_in l.layout.source)) ≡ l.fn.text.items ++ cards_in l.width 1 l.source (layout_in l.layout.source)
