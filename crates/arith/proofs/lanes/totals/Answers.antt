use Rattle.arith.proofs.LaneLemmas.{sums_wrapped}
use Rattle.arith.proofs.lanes.totals.Goals as goal

pub returns : goal.returns
returns c = sums_wrapped c.args.a c.args.b c.requires.a c.requires.b
