use Rattle.units.proofs.InRange.{lines_rise}
use Rattle.units.proofs.laws.lines_in_range_rise.Goals as goal

pub returns : goal.returns
returns c = lines_rise
