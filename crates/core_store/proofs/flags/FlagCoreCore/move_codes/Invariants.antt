use Rattle.std.proofs.Common.{◌≡◌, length}
use Rattle.core_store.proofs.FlagCopies.{CodesMoved}
use Rattle.core_store.proofs.flags.FlagCoreCore.move_codes.Given as goal

abbrev pub invariant-loop-i : goal.invariant-loop-i
invariant-loop-i l = record {
  moved : CodesMoved l.fn.self l.from l.to l.i l.self;
  size : length l.self ≡ length l.fn.self;
}
