use Rattle.std.proofs.Common.{◌∙◌, arith}
use Rattle.autocoder_layout.proofs.CellLemmas.{row_step, row_past}
use Rattle.autocoder_layout.proofs.cells.push_row.Goals as goal

pub loop-code-preserved : goal.loop-code-preserved
loop-code-preserved c = record {
  cells =
      row_step c.loop-code.cells.items c.push.new.self.items c.loop-code.position c.args.codes.now c.loop-code.code-index c.code-item.result _ c.loop-code-test.true c.code-item.is c.in_ok-push.ensures.items
      ∙ c.loop-code.invariant.cells;
  position = omega (arith, c.loop-code.invariant.position);
}

pub returns : goal.returns
returns c = row_past c.loop-code.cells.items c.loop-code.position c.args.codes.now c.loop-code.code-index c.loop-code-test.false ∙ c.loop-code.invariant.cells
