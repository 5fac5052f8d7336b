use Rattle.std.proofs.Common.{◌≡◌, ◌+◌, ◌-◌, length}
use Rattle.moves.specs.Suppressed.{unmarked}
use Rattle.moves.proofs.near.clear_marks.Given as goal

abbrev pub invariant-loop-i : goal.invariant-loop-i
invariant-loop-i g l =
    let old = g.C.Core.cells l.fn.core in
    record {
      marks : g.C.Core.cells l.core ≡ unmarked old (l.b + 1 - l.i) l.i;
      size : length (g.C.Core.cells l.core) ≡ length old;
    }
