use Rattle.std.proofs.Common.{◌∙◌, sym, arith}
use Rattle.core_store.proofs.NearMarks.{near_marked, near_unmarked}
use Rattle.core_store.proofs.flags.FlagCoreCore.near_length.Goals as goal

pub returns-then-is_marked-clause-length : goal.returns-then-is_marked-clause-length
returns-then-is_marked-clause-length c =
    near_marked c.args.self.now c.args.position c.loop-count.count (omega arith) c.requires.room (sym c.is_marked.ensures ∙ c.if-is_marked.true) c.loop-count.invariant

pub returns-clause-length : goal.returns-clause-length
returns-clause-length c = near_unmarked c.args.self.now c.args.position c.requires.room (λ k lt. c.loop-count.invariant k (omega arith))
