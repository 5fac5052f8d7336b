use Rattle.std.proofs.Common.{◌≡◌, ◌+◌, ◌++◌, drop}
use Rattle.pictures.specs.Cards.{holes_from, outlines}
use Rattle.pictures.proofs.holes.push_columns.Given as goal

abbrev pub invariant-loop-index : goal.invariant-loop-index
invariant-loop-index l =
    l.out.items ++ outlines (holes_from (l.index + 1) (drop l.index l.patterns))
    ≡ l.fn.out.items ++ outlines (holes_from 1 l.patterns)
