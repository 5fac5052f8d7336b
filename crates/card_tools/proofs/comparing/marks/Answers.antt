use Rattle.std.proofs.Common.{◌∙◌, arith, refl, length-set}
use Rattle.card_tools.specs.Comparing.{marks_of}
use Rattle.card_tools.proofs.CardMarks.{marks_step, marks_whole}
use Rattle.card_tools.proofs.comparing.marks.Goals as goal

pub loop-column-init : goal.loop-column-init
unfolding marks_of
loop-column-init c = record { width = refl; marks = refl }

pub loop-column-preserved : goal.loop-column-preserved
loop-column-preserved c = record {
  width = length-set _ _ _ ∙ c.loop-column.invariant.width;
  marks = marks_step c.loop-column.column c.loop-column.codes c.args.one.now c.args.two.now c.mark.result (omega arith) (omega arith) (omega arith) c.mark.ensures c.loop-column.invariant.marks;
}

pub returns : goal.returns
returns c =
    marks_whole c.loop-column.column c.loop-column.codes c.args.one.now c.args.two.now (omega arith) (omega arith) (omega arith) c.loop-column.invariant.marks
