use Rattle.moves.proofs.BroughtLanes.{brought_once}
use Rattle.moves.proofs.control.bring_1.Goals as goal

pub returns : goal.returns
returns c = brought_once c.args.amount c.args.far c.where_equal.result c.requires.sixteen c.requires.sixteen_far c.where_equal.ensures
