use Rattle.std.proofs.Common.{arith}
use Rattle.core_store.proofs.PlaneLemmas.{bitmask_marks, none_of_eight, run_most, run_before, run_stops}
use Rattle.core_store.proofs.planes.unmarked_run.Goals as goal

pub returns-then-mask-eq0-clause-before : goal.returns-then-mask-eq0-clause-before
returns-then-mask-eq0-clause-before c =
    let marks = c.args.marks.now in
    let mask = bitmask_marks marks c.args.at 8 (omega arith) (omega arith) c.requires.bits in
    none_of_eight marks c.args.at _ (omega arith) mask (c.if-mask-eq0.true)

pub returns-else-mask-eq0-clause-most : goal.returns-else-mask-eq0-clause-most
returns-else-mask-eq0-clause-most c =
    let marks = c.args.marks.now in
    let mask = bitmask_marks marks c.args.at 8 (omega arith) (omega arith) c.requires.bits in
    run_most marks c.args.at _ (omega arith) mask (c.if-mask-eq0.false)

pub returns-else-mask-eq0-clause-before : goal.returns-else-mask-eq0-clause-before
returns-else-mask-eq0-clause-before c =
    let marks = c.args.marks.now in
    let mask = bitmask_marks marks c.args.at 8 (omega arith) (omega arith) c.requires.bits in
    run_before marks c.args.at _ (omega arith) mask (c.if-mask-eq0.false)

pub returns-else-mask-eq0-clause-stops : goal.returns-else-mask-eq0-clause-stops
returns-else-mask-eq0-clause-stops c =
    let marks = c.args.marks.now in
    let mask = bitmask_marks marks c.args.at 8 (omega arith) (omega arith) c.requires.bits in
    run_stops marks c.args.at _ (omega arith) mask (c.if-mask-eq0.false)
