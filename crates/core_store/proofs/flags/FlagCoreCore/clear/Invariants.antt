use Rattle.std.proofs.Common.{◌≡◌, ◌+◌, ◌≤◌, length}
use Rattle.core_store.proofs.FlagCopies.{Cleared}
use Rattle.core_store.proofs.flags.FlagCoreCore.clear.Given as goal

abbrev pub invariant-loop-p : goal.invariant-loop-p
invariant-loop-p l = record {
  cleared : Cleared l.fn.self l.last l.p l.self-inside.cells.items;
  size : length l.self-inside.cells.items ≡ length l.fn.self;
  above : l.first ≤ l.p;
  below : l.p ≤ l.last + 1;
}
