use Rattle.units.proofs.InRange.{in_range_after, carriage_in_range}
use Rattle.units.proofs.laws.operating_stays_in_range.Goals as goal

pub returns : goal.returns
returns c = record { operation = in_range_after; carriage = carriage_in_range }
