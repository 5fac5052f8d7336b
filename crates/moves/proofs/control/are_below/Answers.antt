use Rattle.moves.proofs.BroughtLanes.{all_below}
use Rattle.moves.proofs.control.are_below.Goals as goal

pub returns : goal.returns
returns c = all_below c.args.lanes c.args.limit c.requires
