use Rattle.std.proofs.Common.{◌≡◌, ◌++◌, take}
use Rattle.std.specs.List.{flat_map}
use Rattle.card_tools.specs.Listing.{card_rows, row_line}
use Rattle.card_tools.proofs.listing.push_twelve_rows.Given as goal

abbrev pub invariant-loop-row : goal.invariant-loop-row
invariant-loop-row l = l.out.items ≡ l.fn.out.items ++ flat_map (row_line l.image) (take l.row-index card_rows)
