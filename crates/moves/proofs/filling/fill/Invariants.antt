use Rattle.std.proofs.Common.{◌≡◌, ◌+◌, ◌-◌, ◌≤◌, length}
use Rattle.core_store.specs.Storage.{put_codes, codes_ending}
use Rattle.moves.specs.Characters.{bare_units}
use Rattle.moves.specs.Edited.{places, filled}
use Rattle.moves.proofs.FillingLemmas.{through_seen}
use Rattle.moves.proofs.filling.fill.Given as goal

abbrev pub invariant-loop-i : goal.invariant-loop-i
invariant-loop-i g l =
    let old = g.C.Core.cells l.fn.core in
    record {
      codes : g.C.Core.cells l.core ≡ put_codes old (l.b + 1 - l.i) (filled (codes_ending old l.b l.i) (bare_units (codes_ending old l.a l.a_count)) l.minus);
      right : l.right ≡ places (codes_ending old l.b l.i);
      through : l.through ≡ through_seen (codes_ending old l.b l.b_count) l.i;
      bound : l.right ≤ l.i;
      size : length (g.C.Core.cells l.core) ≡ length old;
    }
