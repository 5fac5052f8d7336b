use Rattle.std.proofs.Common.{◌≡◌, List, None, slice_get, ◌∙◌, sym, subst}
use Rattle.ledger_tables.specs.Steps.{seen}
use Rattle.office.specs.declared.stretches.Stretch.{Stretch}
use Rattle.ledger.proofs.BureauResults.{store_passed}
use Rattle.ledger.proofs.Offices.{job_is}
use Rattle.ledger.proofs.ReadFaults.{failed_unless, is_there}
use Rattle.ledger.proofs.reading.first_switches.Goals as goal

pub returns-in_err-stretches-clause-failed : goal.returns-in_err-stretches-clause-failed
returns-in_err-stretches-clause-failed g c job clean inside store office has is =
    c.in_err-stretches.ensures.failed clean inside (store_passed c.from_residual.result _ c.from_residual.ensures.1 store) office has tt

pub returns-clause-failed : goal.returns-clause-failed
returns-clause-failed g c job clean inside store office has is =
    failed_unless (seen g.S.Store c.args.tables.now) (seen g.S.Store c.find_stretches.new.tables) (λ opened.
    let s = has opened in
    let found = c.in_ok-stretches.ensures.found clean inside office s in
    let kept = job_is c.args.name.customer.now c.args.name.number office job s.jobs is in
    let none : slice_get c.deref.result.now 0 ≡ None = rw c.in-None.is at (sym c.first.ensures.value) in
    absurd (is_there job.stretches 0 kept.job.stretches.begun (subst (λ (xs : List Stretch). slice_get xs 0 ≡ None) (c.deref.ensures.value ∙ found.1 job is) none)))
