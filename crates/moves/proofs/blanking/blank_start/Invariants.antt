use Rattle.std.proofs.Common.{◌≡◌, ◌≤◌, length}
use Rattle.core_store.specs.Storage.{put_codes, codes_from}
use Rattle.moves.specs.Blanked.{ends}
use Rattle.moves.specs.Blanked.{leading, blanked}
use Rattle.moves.proofs.blanking.blank_start.Given as goal

abbrev pub invariant-loop-i : goal.invariant-loop-i
invariant-loop-i g l =
    let old = g.C.Core.cells l.fn.core in
    let field = codes_from old l.first l.count in
    record {
      codes : g.C.Core.cells l.core ≡ put_codes old l.first (blanked l.i field);
      none : l.i ≤ leading (ends l.stop) field;
      size : length (g.C.Core.cells l.core) ≡ length old;
    }
