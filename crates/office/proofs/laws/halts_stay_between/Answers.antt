use Rattle.office.proofs.GrantLaw.{new_between, sliced, started_between}
use Rattle.office.proofs.laws.halts_stay_between.Goals as goal

pub returns : goal.returns
returns c = record { new = new_between; sliced = sliced; flagged = λ job held collected between. between; started = started_between }
