use Rattle.std.proofs.Common.{sym, subst}
use Rattle.ledger_tables.specs.Steps.{seen}
use Rattle.office.specs.Jobs.{picture}
use Rattle.office.specs.Kept.{IsJobInRange}
use Rattle.ledger.specs.Earlier.{kept_alone}
use Rattle.ledger.proofs.BureauResults.{store_passed}
use Rattle.ledger.proofs.Offices.{job_is}
use Rattle.ledger.proofs.ReadFaults.{failed_unless}
use Rattle.ledger.proofs.reading.find_kept.Goals as goal

pub returns-in_err-parts-clause-failed : goal.returns-in_err-parts-clause-failed
returns-in_err-parts-clause-failed g c job row clean inside store office has is =
    c.in_err-parts.ensures.failed job row clean inside (store_passed c.from_residual.result _ c.from_residual.ensures.1 store) office has is

pub returns-clause-failed : goal.returns-clause-failed
returns-clause-failed g c job row clean inside store office has is =
    failed_unless (seen g.S.Store c.args.tables.now) (seen g.S.Store c.find_parts.new.tables) (λ opened.
    let s = has opened in
    let kept = job_is c.args.name.customer.now c.args.name.number office job s.jobs is in
    let found = c.in_ok-parts.ensures.found clean inside office s in
    let range : IsJobInRange (kept_alone job) = record {
      stretches = kept.job.stretches;
      machine = c.outputs_are_put_back.ensures.in_range (picture job) (c.commands_keep_jobs.ensures.in_range job kept.job).machine;
    } in
    absurd (c.job_with.ensures.store store (subst IsJobInRange (sym (found.1 job is row)) range)))
