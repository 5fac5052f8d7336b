use Rattle.job_checks.proofs.OwnerLaw.{all_are_owned}
use Rattle.job_checks.proofs.laws.rows_name_jobs.Goals as goal

pub returns : goal.returns
returns c = all_are_owned
