use Rattle.std.proofs.Common.{◌∙◌, ◌+◌, ◌++◌, ◌∷◌, [], false, ap}
use Rattle.autocoder_layout.specs.Cells.{cell}
use Rattle.autocoder_layout.proofs.CellLemmas.{blank_row_step, blank_row_past}
use Rattle.autocoder_layout.proofs.cells.push_blank_row.Goals as goal

pub loop-offset-preserved : goal.loop-offset-preserved
loop-offset-preserved c =
    blank_row_step c.loop-offset.cells.items c.push.new.self.items c.args.place c.args.count c.loop-offset.offset c.loop-offset-test.true
    (c.in_ok-push.ensures.items ∙ ap (λ code. c.loop-offset.cells.items ++ cell (c.args.place + c.loop-offset.offset) code false ∷ []) c.blank.ensures)
    ∙ c.loop-offset.invariant

pub returns : goal.returns
returns c = blank_row_past c.loop-offset.cells.items (c.args.place + c.loop-offset.offset) c.args.count c.loop-offset.offset c.loop-offset-test.false ∙ c.loop-offset.invariant
