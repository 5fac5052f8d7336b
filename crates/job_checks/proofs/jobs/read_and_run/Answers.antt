use Rattle.job_checks.specs.Tables.{tables_of}
use Rattle.job_checks.proofs.FoundLemmas.{found_by}
use Rattle.job_checks.proofs.jobs.read_and_run.Goals as goal

pub returns-clause-read : goal.returns-clause-read
returns-clause-read g c clean ours =
    let did = c.in_ok-rows.ensures.read clean ours in (
      did.0,
      λ bureaus. found_by _ c.args.row.now c.args.name.customer.now c.args.name.number c.requires (tables_of c.in_ok-rows.rows) (did.1 bureaus) c.in_ok-found.found c.in_ok-found.ensures.run c.in_ok-found.ensures.told c.in_ok-found.ensures.other,
    )
