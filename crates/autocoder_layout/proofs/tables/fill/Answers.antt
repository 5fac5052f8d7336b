use Rattle.std.proofs.Common.{◌+◌, ◌∙◌, sym, ap, drop}
use Rattle.autocoder_layout.specs.Tables.{filled_table, filled_with}
use Rattle.autocoder_layout.proofs.TableLemmas.{filled_table-at, filled_table-past}
use Rattle.autocoder_layout.proofs.tables.fill.Goals as goal

pub loop-cell-preserved : goal.loop-cell-preserved
loop-cell-preserved c =
    ap (λ t. filled_table t (drop (c.loop-cell.cell-index + 1) c.args.cells.now)) (c.fill_one.ensures ∙ ap (filled_with c.loop-cell.table) c.cell-item.is)
    ∙ sym (filled_table-at c.loop-cell.table c.args.cells.now c.loop-cell.cell-index _ c.loop-cell-test.true)
    ∙ c.loop-cell.invariant

pub returns : goal.returns
returns c = sym (filled_table-past c.loop-cell.table c.args.cells.now c.loop-cell.cell-index c.loop-cell-test.false) ∙ c.loop-cell.invariant
