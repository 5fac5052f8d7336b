use Rattle.std.proofs.Common.{◌+◌, ◌<◌, arith, rules, sym}
use Rattle.std.proofs.Math.Decide.{dec_lt}
use Rattle.core_store.specs.Planes.{joined_planes}
use Rattle.core_store.proofs.PlaneLemmas.{next_mark, no_next_mark}
use Rattle.core_store.proofs.Marks.{least_is, none_among, past_end}
use Rattle.core_store.proofs.planes.PlaneCoreCore.mark_after.Goals as goal

pub returns-then-is_marked-clause-mark : goal.returns-then-is_marked-clause-mark
returns-then-is_marked-clause-mark c = sym (least_is (joined_planes c.args.self.now.codes.items c.args.self.now.marks.items) (c.args.position + 1) 8 c.loop-p.p (omega arith) (omega arith) (search rules) (λ k le lt. c.loop-p.invariant k (omega arith) lt))

pub returns-clause-mark : goal.returns-clause-mark
returns-clause-mark c = sym (none_among (joined_planes c.args.self.now.codes.items c.args.self.now.marks.items) (c.args.position + 1) 8 (λ k le lt. elim (dec_lt k c.min-end.result) [ yes early ↦ c.loop-p.invariant k (omega arith) (omega arith) | no late ↦ past_end (joined_planes c.args.self.now.codes.items c.args.self.now.marks.items) k (omega arith) ]))

pub returns-then-run-eq8-clause-mark : goal.returns-then-run-eq8-clause-mark
returns-then-run-eq8-clause-mark c =
    let core = c.args.self.now in
    let run = c.unmarked_run-run in
    sym (no_next_mark core.codes.items core.marks.items c.deref.result.now c.deref.ensures.value c.args.position run.result core.even run.ensures.before c.if-run-eq8.true)

pub returns-then-first-len-clause-mark : goal.returns-then-first-len-clause-mark
returns-then-first-len-clause-mark c =
    let core = c.args.self.now in
    let run = c.unmarked_run-run in
    let short : run.result < 8 = omega (arith, run.ensures.most, c.if-run-eq8.false) in
    sym (next_mark core.codes.items core.marks.items c.deref.result.now c.deref.ensures.value c.args.position run.result core.even run.ensures.before short (run.ensures.stops short))
