use Rattle.std.proofs.Common.{◌≡◌, ◌++◌, map, take}
use Rattle.card_tools.specs.Listing.{mark_of}
use Rattle.card_tools.proofs.listing.push_row.Given as goal

abbrev pub invariant-loop-pattern : goal.invariant-loop-pattern
invariant-loop-pattern l = l.out.items ≡ l.initial.out.items ++ map (mark_of l.bit) (take l.pattern-index l.pattern-items)
