use Rattle.office.proofs.GrantLaw.{has_run_whole}
use Rattle.office.proofs.laws.grants_are_whole_runs.Goals as goal

pub returns : goal.returns
returns c = has_run_whole c.whole_runs_end_alike.ensures
