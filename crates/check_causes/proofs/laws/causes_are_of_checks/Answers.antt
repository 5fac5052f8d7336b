use Rattle.check_causes.proofs.CheckLaw.{cause_is_of, no_cause, without_check}
use Rattle.check_causes.proofs.laws.causes_are_of_checks.Goals as goal

pub returns-clause-told : goal.returns-clause-told
returns-clause-told g = cause_is_of

pub returns-clause-none : goal.returns-clause-none
returns-clause-none g w = (no_cause w, without_check w)
