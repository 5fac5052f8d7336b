use Rattle.machine.proofs.KeptShapes.{few_marks, right_everywhere}
use Rattle.machine.proofs.cycle.keep.Goals as goal

pub of_shape-entry-requires-clause-shape : goal.of_shape-entry-requires-clause-shape
of_shape-entry-requires-clause-shape g c =
    right_everywhere (g.C.Core.cells c.args.core.now) c.args.i c.at.result.characters c.at.result.marks c.args.shape.now c.at.ensures c.requires.shape

pub of_shape-entry-requires-clause-nine : goal.of_shape-entry-requires-clause-nine
of_shape-entry-requires-clause-nine g c = few_marks (g.C.Core.cells c.args.core.now) c.args.i c.at.result.characters c.at.result.marks c.at.ensures
