use Rattle.job_checks.proofs.NameLaw.{jobs_apart, none_later}
use Rattle.job_checks.proofs.laws.jobs_have_names_of_their_own.Goals as goal

pub returns-clause-apart : goal.returns-clause-apart
returns-clause-apart c = jobs_apart

pub returns-clause-later : goal.returns-clause-later
returns-clause-later c = none_later
