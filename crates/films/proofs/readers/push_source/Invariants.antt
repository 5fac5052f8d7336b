use Rattle.std.proofs.Common.{◌≡◌, ◌++◌, drop}
use Rattle.films.specs.Films.{source_lines}
use Rattle.films.proofs.readers.push_source.Given as goal

abbrev pub invariant-loop-i : goal.invariant-loop-i
invariant-loop-i l =
    l.out.items ++ source_lines (drop l.i l.cards) (drop l.i l.slots) ≡ l.fn.out.items ++ source_lines l.cards l.slots
