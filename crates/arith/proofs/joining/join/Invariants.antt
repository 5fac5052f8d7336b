use Rattle.std.proofs.Common.{◌≡◌, ◌+◌, ◌-◌, ◌≤◌, ◌/◌, ◌^◌, min, length}
use Rattle.core_store.specs.Storage.{put_codes}
use Rattle.arith.specs.Decimal.{spelled}
use Rattle.arith.specs.Joining.{joined_total}
use Rattle.arith.proofs.joining.join.Given as goal

-- the digits so far spell the total of the digits so far, and the carry is what is above them
abbrev pub invariant-loop-i : goal.invariant-loop-i
invariant-loop-i g l =
    let old = g.C.Core.cells l.fn.core in
    let total = joined_total l.joined old l.a (min l.i l.counts.a) l.b l.i in
    record {
      codes : g.C.Core.cells l.core ≡ put_codes old (l.b + 1 - l.i) (spelled total l.i l.zone);
      carry : l.carry ≡ total / 10 ^ l.i;
      small : l.carry ≤ 1;
      size : length (g.C.Core.cells l.core) ≡ length old;
    }
