use Rattle.std.proofs.Common.{[], ◌∙◌, rules}
use Rattle.office.proofs.JobMeters.{on_err}
use Rattle.job_checks.proofs.machines.check_state.Goals as goal

pub returns-in_err-rest-clause-other : goal.returns-in_err-rest-clause-other
returns-in_err-rest-clause-other c = on_err c.from_residual.result _ (λ all. c.in_err-rest.ensures.other [] (all ∙ (search rules)))
