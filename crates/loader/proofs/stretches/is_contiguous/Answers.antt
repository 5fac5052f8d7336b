use Rattle.std.proofs.Common.{◌∙◌, arith}
use Rattle.loader.proofs.StretchLemmas.{next_fails, next_holds, contiguous_past}
use Rattle.loader.proofs.stretches.is_contiguous.Goals as goal

pub returns-then-not-is_next : goal.returns-then-not-is_next
returns-then-not-is_next c =
    next_fails c.args.cells.now c.loop-index.index c.index-cells-index.result c.index-cells-index-in-loop-index.result c.is_next.result c.loop-index.invariant.behind (omega arith)
    c.index-cells-index.is c.index-cells-index-in-loop-index.is c.is_next.ensures c.if-not-is_next.true
    ∙ c.loop-index.invariant.same

pub loop-index-preserved : goal.loop-index-preserved
loop-index-preserved c = record {
  behind = omega arith;
  same =
      next_holds c.args.cells.now c.loop-index.index c.index-cells-index.result c.index-cells-index-in-loop-index.result c.is_next.result c.loop-index.invariant.behind (omega arith)
      c.index-cells-index.is c.index-cells-index-in-loop-index.is c.is_next.ensures c.if-not-is_next.false
      ∙ c.loop-index.invariant.same;
}

pub returns : goal.returns
returns c = contiguous_past c.args.cells.now c.loop-index.index (omega arith) ∙ c.loop-index.invariant.same
