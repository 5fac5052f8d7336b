use Rattle.units.proofs.ListingLines.{IsFilled}
use Rattle.units.proofs.listing.push_line.Given as goal

abbrev pub invariant-loop-place : goal.invariant-loop-place
invariant-loop-place l = IsFilled l.codes l.place l.line
