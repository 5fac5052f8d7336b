use Rattle.std.proofs.Common.{arith}
use Rattle.core_store.proofs.PlaneWords.{unmarked_word, long_word, short_word}
use Rattle.core_store.proofs.planes.PlaneCoreCore.word_end.Goals as goal

pub returns-then-mask-eq0-clause-end : goal.returns-then-mask-eq0-clause-end
returns-then-mask-eq0-clause-end c =
    let core = c.args.self.now in
    unmarked_word core.codes.items core.marks.items c.deref.result.now c.deref.ensures.value c.args.position c.marks_from-mask.result core.even (omega arith) c.marks_from-mask.ensures c.if-mask-eq0.true

pub returns-then-run-ge8-clause-end : goal.returns-then-run-ge8-clause-end
returns-then-run-ge8-clause-end c =
    let core = c.args.self.now in
    long_word core.codes.items core.marks.items c.deref.result.now c.deref.ensures.value c.args.position c.marks_from-mask.result core.even (omega arith) c.marks_from-mask.ensures c.if-mask-eq0.false c.if-run-ge8.true

pub returns-then-first-len-clause-end : goal.returns-then-first-len-clause-end
returns-then-first-len-clause-end c =
    let core = c.args.self.now in
    short_word core.codes.items core.marks.items c.deref.result.now c.deref.ensures.value c.args.position c.marks_from-mask.result core.even (omega arith) c.marks_from-mask.ensures c.if-mask-eq0.false (omega arith)
