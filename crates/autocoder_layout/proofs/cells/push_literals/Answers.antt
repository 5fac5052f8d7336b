use Rattle.std.proofs.Common.{◌∙◌, arith}
use Rattle.autocoder_layout.proofs.CellLemmas.{literal_cells_step, literal_cells_past}
use Rattle.autocoder_layout.proofs.cells.push_literals.Goals as goal

pub loop-literal-preserved : goal.loop-literal-preserved
loop-literal-preserved c = record {
  cells =
      literal_cells_step c.loop-literal.cells.items c.push_field.new.cells.items c.loop-literal.here c.args.literals.now c.loop-literal.literal-index c.literal-item.result _ c.characters-codes.result.now
      c.loop-literal-test.true c.literal-item.is c.characters-codes.ensures.characters c.in_ok-push_field.ensures
      ∙ c.loop-literal.invariant.cells;
  limit = omega (arith, c.loop-literal.invariant.limit, c.characters-codes.ensures.limit);
}

pub returns : goal.returns
returns c = literal_cells_past c.loop-literal.cells.items c.loop-literal.here c.args.literals.now c.loop-literal.literal-index c.loop-literal-test.false ∙ c.loop-literal.invariant.cells
