use Rattle.ledger_tables.proofs.Stepping.{if_ok_then}
use Rattle.std.proofs.Common.{subst}
use Rattle.job_checks.specs.Outcomes.{IsAsItRan}
use Rattle.job_checks.proofs.FoundLemmas.{found_none}
use Rattle.job_checks.proofs.jobs.unnamed.Goals as goal

pub returns : goal.returns
returns c = if_ok_then c.differing.result _ _ (λ report differs db. found_none db c.args.row.now report (λ ran. subst IsAsItRan differs ran) c.requires) c.differing.ensures
