use Rattle.std.proofs.Common.{◌≡◌, ◌++◌, take}
use Rattle.std.specs.List.{flat_map}
use Rattle.pictures.specs.Cards.{hole_if_punched}
use Rattle.pictures.specs.declared.holes.TheConstants.{ROWS}
use Rattle.pictures.proofs.holes.push_column.Given as goal

abbrev pub invariant-loop-row : goal.invariant-loop-row
invariant-loop-row l =
    l.out.items ≡ l.fn.out.items ++ flat_map (hole_if_punched l.left l.pattern) (take l.row-index ROWS)
