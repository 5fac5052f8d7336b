use Rattle.std.proofs.Common.{◌∙◌, sym}
use Rattle.machine.proofs.ShapeDecoding.{shape_none, shape_some}
use Rattle.machine.proofs.decode.read_shape.Goals as goal

pub returns-in_default : goal.returns-in_default
returns-in_default g c = sym (shape_none (g.C.Core.cells c.args.core.now) c.args.i (sym c.word_length.ensures.length ∙ c.in_default.is))

pub returns : goal.returns
returns g c = c.shape_of.ensures.shape ∙ sym (shape_some (g.C.Core.cells c.args.core.now) c.args.i c.in-Some.count (sym c.in-Some.ensures.length))
