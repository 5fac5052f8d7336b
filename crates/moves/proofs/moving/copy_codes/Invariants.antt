use Rattle.std.proofs.Common.{◌≡◌, ◌+◌, ◌-◌, length}
use Rattle.core_store.specs.Storage.{put_codes}
use Rattle.moves.specs.Moved.{moved_codes}
use Rattle.moves.proofs.moving.copy_codes.Given as goal

abbrev pub invariant-loop-i : goal.invariant-loop-i
invariant-loop-i g l =
    let old = g.C.Core.cells l.fn.core in
    record {
      codes : g.C.Core.cells l.core ≡ put_codes old (l.b + 1 - l.i) (moved_codes old l.a l.b l.i);
      size : length (g.C.Core.cells l.core) ≡ length old;
    }
