use Rattle.std.proofs.Common.{◌≡◌, ◌∷◌, ◌++◌, take}
use Rattle.std.specs.List.{flat_map}
use Rattle.autocoder.specs.Listing.{position_field}
use Rattle.console.proofs.showing.push_positions.Given as goal

abbrev pub invariant-loop-position : goal.invariant-loop-position
invariant-loop-position l = l.text.items ≡ l.fn.text.items ++ flat_map (λ other. 32 ∷ position_field other) (take l.position-index l.positions)
