use Rattle.std.proofs.Common.{◌-◌, arith}
use Rattle.core_store.proofs.PlaneLemmas.{bitmask_marks}
use Rattle.core_store.proofs.PlaneLanes.{none_before, top, none_nearer, top_marked}
use Rattle.core_store.proofs.planes.unmarked_before.Goals as goal

pub overflow_sub-result : goal.overflow_sub-result
overflow_sub-result c =
    let marks = c.args.marks.now in
    let first = c.args.place - 15 in
    let mask = bitmask_marks marks first 16 (omega arith) (omega arith) c.requires.bits in
    let t = top marks c.args.place first 16 _ c.requires.within (omega arith) (omega arith) mask c.if-mask-eq0.false in
    omega (arith, t.zeros, t.near)

pub returns-then-mask-eq0-clause-after : goal.returns-then-mask-eq0-clause-after
returns-then-mask-eq0-clause-after c =
    let marks = c.args.marks.now in
    let first = c.args.place - 15 in
    let mask = bitmask_marks marks first 16 (omega arith) (omega arith) c.requires.bits in
    none_before marks c.args.place first 16 _ c.requires.within (omega arith) (omega arith) mask c.if-mask-eq0.true

pub returns-else-mask-eq0-clause-most : goal.returns-else-mask-eq0-clause-most
returns-else-mask-eq0-clause-most c =
    let marks = c.args.marks.now in
    let first = c.args.place - 15 in
    let mask = bitmask_marks marks first 16 (omega arith) (omega arith) c.requires.bits in
    let t = top marks c.args.place first 16 _ c.requires.within (omega arith) (omega arith) mask c.if-mask-eq0.false in
    omega (arith, t.zeros)

pub returns-else-mask-eq0-clause-after : goal.returns-else-mask-eq0-clause-after
returns-else-mask-eq0-clause-after c k near =
    let marks = c.args.marks.now in
    let first = c.args.place - 15 in
    let mask = bitmask_marks marks first 16 (omega arith) (omega arith) c.requires.bits in
    let t = top marks c.args.place first 16 _ c.requires.within (omega arith) (omega arith) mask c.if-mask-eq0.false in
    none_nearer marks c.args.place first 16 _ c.requires.within (omega arith) (omega arith) mask t k (omega (arith, t.zeros, t.near))

pub returns-else-mask-eq0-clause-stops : goal.returns-else-mask-eq0-clause-stops
returns-else-mask-eq0-clause-stops c short =
    let marks = c.args.marks.now in
    let first = c.args.place - 15 in
    let mask = bitmask_marks marks first 16 (omega arith) (omega arith) c.requires.bits in
    let t = top marks c.args.place first 16 _ c.requires.within (omega arith) (omega arith) mask c.if-mask-eq0.false in
    top_marked marks c.args.place first 16 _ c.requires.within (omega arith) (omega arith) mask t _ (omega (arith, t.zeros, t.near))
