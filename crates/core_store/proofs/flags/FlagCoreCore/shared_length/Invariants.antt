use Rattle.std.proofs.Common.{◌≤◌, ◌+◌, min}
use Rattle.core_store.proofs.NearMarks.{Bare}
use Rattle.core_store.proofs.flags.FlagCoreCore.shared_length.Given as goal

abbrev pub invariant-loop-count : goal.invariant-loop-count
invariant-loop-count l = record {
  within : l.count ≤ min l.a l.b + 1;
  a : Bare l.self l.a l.count;
  b : Bare l.self l.b l.count;
}
