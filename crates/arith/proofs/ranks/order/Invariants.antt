use Rattle.std.proofs.Common.{◌≡◌, ◌≤◌}
use Rattle.core_store.specs.Storage.{codes_ending}
use Rattle.arith.specs.Order.{order}
use Rattle.arith.proofs.ranks.order.Given as goal

-- the characters that are left decide
abbrev pub invariant-loop-left : goal.invariant-loop-left
invariant-loop-left g l =
    let s = g.C.Core.cells l.core in
    record {
      rest : order (codes_ending s l.a l.count) (codes_ending s l.b l.count) ≡ order (codes_ending s l.a l.left) (codes_ending s l.b l.left);
      most : l.left ≤ l.count;
    }
