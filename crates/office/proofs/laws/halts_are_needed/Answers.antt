use Rattle.office.proofs.NeededHaltLaw.{halts_are_needed}
use Rattle.office.proofs.laws.halts_are_needed.Goals as goal

pub returns : goal.returns
returns c = halts_are_needed
