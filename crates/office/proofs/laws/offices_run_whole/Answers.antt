use Rattle.office.proofs.SourceLaw.{all_run_whole}
use Rattle.office.proofs.laws.offices_run_whole.Goals as goal

pub returns : goal.returns
returns c = all_run_whole c.grants_are_whole_runs.ensures c.sources_run_as_programs.ensures
