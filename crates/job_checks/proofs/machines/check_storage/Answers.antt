use Rattle.std.proofs.Common.{sym, ap, ◌∙◌}
use Rattle.machine.specs.Run.{State}
use Rattle.job_checks.specs.Kept.{rows_of_pages}
use Rattle.job_checks.proofs.DifferLemmas.{on_err_then}
use Rattle.job_checks.proofs.machines.check_storage.Goals as goal

pub returns-clause-other : goal.returns-clause-other
returns-clause-other c = on_err_then c.check_pages.result _ _ (λ no all. no (all ∙ ap (λ (m : State). rows_of_pages c.args.name.customer.now c.args.name.number m.works.storage) (sym c.machine.view_is))) c.check_pages.ensures.other
