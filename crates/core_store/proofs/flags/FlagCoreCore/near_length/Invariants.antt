use Rattle.core_store.proofs.NearMarks.{Bare}
use Rattle.core_store.proofs.flags.FlagCoreCore.near_length.Given as goal

abbrev pub invariant-loop-count : goal.invariant-loop-count
invariant-loop-count l = Bare l.self l.position l.count
