use Rattle.std.proofs.Common.{◌≡◌, ◌+◌, ◌++◌, drop}
use Rattle.card_tools.specs.Listing.{listing_from}
use Rattle.card_tools.proofs.listing.list_from.Given as goal

abbrev pub invariant-loop-index : goal.invariant-loop-index
invariant-loop-index l =
    l.out.items ++ listing_from l.options (l.first + l.index) (drop l.index l.images) ≡ listing_from l.options l.first l.images
