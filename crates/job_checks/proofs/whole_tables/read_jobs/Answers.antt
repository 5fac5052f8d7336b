use Rattle.std.proofs.Common.{refl}
use Rattle.ledger_tables.specs.Schema as schema
use Rattle.ledger_tables.proofs.Stepping.{if_ok_then}
use Rattle.job_checks.proofs.TableReads.{read_in_order, jobs_obeyed, jobs_required}
use Rattle.job_checks.proofs.TableTexts.{select_jobs, select_jobs_is}
use Rattle.job_checks.proofs.whole_tables.read_jobs.Goals as goal

pub returns-clause-read : goal.returns-clause-read
returns-clause-read g c clean =
    if_ok_then c.rows.result _ _
    (λ rows shown ours. let did = read_in_order 1 schema.jobs.columns jobs_required select_jobs _ select_jobs_is (λ db. refl) _ _ rows.items shown ours in (did.0, λ bureaus. did.1 bureaus.in_order.jobs (jobs_obeyed _ bureaus)))
    (c.rows.ensures.shown clean)
