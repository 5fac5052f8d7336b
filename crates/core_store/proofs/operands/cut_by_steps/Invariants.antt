use Rattle.std.proofs.Common.{◌≤◌, ◌+◌}
use Rattle.core_store.proofs.OperandCuts.{Unmarked}
use Rattle.core_store.proofs.operands.cut_by_steps.Given as goal

abbrev pub invariant-loop-count : goal.invariant-loop-count
invariant-loop-count g l = record {
  unmarked : Unmarked (g.C.Core.cells l.core) l.position l.limit l.count;
  most : l.count ≤ l.position + 1;
}
