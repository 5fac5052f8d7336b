use Rattle.std.proofs.Common.{take}
use Rattle.units.specs.Listing.{IsListedTo, IsRising}
use Rattle.units.proofs.listing.render.Given as goal

abbrev pub invariant-loop-line : goal.invariant-loop-line
invariant-loop-line l = IsRising l.lines → IsListedTo (take l.line-index l.lines) l.text.items l.form l.done
