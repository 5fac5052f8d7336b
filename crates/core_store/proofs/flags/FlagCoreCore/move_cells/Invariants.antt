use Rattle.std.proofs.Common.{◌≡◌, length}
use Rattle.core_store.proofs.FlagCopies.{CellsMoved}
use Rattle.core_store.proofs.flags.FlagCoreCore.move_cells.Given as goal

abbrev pub invariant-loop-i : goal.invariant-loop-i
invariant-loop-i l = record {
  moved : CellsMoved l.fn.self l.from l.to l.i l.self-inside.cells.items;
  size : length l.self-inside.cells.items ≡ length l.fn.self;
}
