use Rattle.arith.proofs.LaneCarries.{moved_left}
use Rattle.arith.proofs.lanes.one_left.Goals as goal

pub returns : goal.returns
returns c = moved_left c.args.lanes c.requires
