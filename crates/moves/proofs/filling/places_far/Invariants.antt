use Rattle.std.proofs.Common.{◌≡◌, ◌≤◌}
use Rattle.core_store.specs.Storage.{codes_ending}
use Rattle.moves.specs.Edited.{places}
use Rattle.moves.proofs.filling.places_far.Given as goal

abbrev pub invariant-loop-i : goal.invariant-loop-i
invariant-loop-i g l =
    record {
      count : l.places ≡ places (codes_ending (g.C.Core.cells l.core) l.b l.i);
      bound : l.places ≤ l.i;
    }
