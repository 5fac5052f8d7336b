use Rattle.std.proofs.Common.{◌≡◌, ◌⊎◌, ◌-◌, ◌∙◌, true, sym, arith, inl, inr}
use Rattle.core_store.specs.Storage.{is_marked}
use Rattle.core_store.proofs.SharedMarks.{shared_here, shared_none}
use Rattle.core_store.proofs.flags.FlagCoreCore.shared_length.Goals as goal
use Rattle.core_store.proofs.flags.FlagCoreCore.shared_length.Goals.{then-is_marked-via-then-is_marked, then-is_marked-via-else-is_marked+then-is_marked-2}

pub returns-then-is_marked : goal.returns-then-is_marked
returns-then-is_marked c =
    let marked : (is_marked c.args.self.now (c.args.a - c.loop-count.count) ≡ true) ⊎ (is_marked c.args.self.now (c.args.b - c.loop-count.count) ≡ true) = elim c.then-is_marked.branch [
      | then-is_marked-via-then-is_marked w ↦ inl (sym c.is_marked.ensures ∙ w.if-is_marked.true)
      | then-is_marked-via-else-is_marked+then-is_marked-2 w ↦ inr (sym w.is_marked-else-is_marked.ensures ∙ w.if-is_marked-2.true)
    ] in
    record { length = shared_here c.args.self.now c.args.a c.args.b c.loop-count.count (omega arith) (omega arith) marked c.loop-count.invariant.a c.loop-count.invariant.b }

pub returns-then-count-min : goal.returns-then-count-min
returns-then-count-min c = record { length = shared_none c.args.self.now c.args.a c.args.b c.loop-count.count (omega arith) c.loop-count.invariant.a c.loop-count.invariant.b }

pub returns : goal.returns
returns c = record { length = shared_none c.args.self.now c.args.a c.args.b c.loop-count.count (omega arith) c.loop-count.invariant.a c.loop-count.invariant.b }
