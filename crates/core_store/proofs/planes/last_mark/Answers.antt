use Rattle.std.proofs.Common.{arith}
use Rattle.core_store.proofs.PlaneLanes.{passed_over}
use Rattle.core_store.proofs.planes.last_mark.Goals as goal

pub returns-then-run-lt32 : goal.returns-then-run-lt32
returns-then-run-lt32 c =
    let run = c.unmarked_before_32-run in
    record {
      marked = run.ensures.stops c.if-run-lt32.true;
      not_above = omega arith;
      none_between = λ k lt le. passed_over c.args.marks.now c.loop-end.end run.result c.args.place run.ensures.after c.loop-end.invariant.none k (omega arith) le;
    }
