use Rattle.std.proofs.Common.{◌≡◌, ◌+◌, ◌++◌, drop, length, map}
use Rattle.std.specs.List.{range_with_len, items_where_true}
use Rattle.autocoder_listings.specs.Names.{uses, users}
use Rattle.autocoder_listings.proofs.names.users.Given as goal

abbrev pub invariant-loop-i : goal.invariant-loop-i
invariant-loop-i l = l.cards.items ++ items_where_true (map (uses l.wanted) (drop l.i l.lines)) (range_with_len (l.i + 1) (length (drop l.i l.lines))) ≡ users l.wanted l.lines
