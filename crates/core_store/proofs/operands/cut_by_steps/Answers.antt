use Rattle.std.proofs.Common.{◌∙◌, sym, arith}
use Rattle.core_store.proofs.OperandCuts.{cut_marked, cut_passed, cut_unmarked}
use Rattle.core_store.proofs.operands.cut_by_steps.Goals as goal

pub returns-then-count-position-clause-length : goal.returns-then-count-position-clause-length
returns-then-count-position-clause-length g c =
    sym (cut_passed (g.C.Core.cells c.args.core.now) c.args.position c.args.limit c.loop-count.count (omega arith) (omega arith) c.loop-count.invariant.unmarked)

pub returns-then-is_marked-clause-length : goal.returns-then-is_marked-clause-length
returns-then-is_marked-clause-length g c =
    sym (cut_marked (g.C.Core.cells c.args.core.now) c.args.position c.args.limit c.loop-count.count (omega arith) (omega arith) (sym c.is_marked.ensures ∙ c.if-is_marked.true) c.loop-count.invariant.unmarked)

pub returns-clause-length : goal.returns-clause-length
returns-clause-length g c =
    cut_unmarked (g.C.Core.cells c.args.core.now) c.args.position c.args.limit c.loop-count.count (omega arith) (omega arith) c.loop-count.invariant.unmarked
