use Rattle.std.proofs.Common.{◌-◌, ◌^◌, min, length, ap, ◌∙◌, arith}
use Rattle.std.proofs.lemmas.Bool.Decides.{nat_tests}
use Rattle.office.specs.Jobs.{granted}
use Rattle.ledger.proofs.BureauResults.{store_passed}
use Rattle.ledger.proofs.Offices.{job_is}
use Rattle.ledger.proofs.SummaryLemmas.{granted_fits}
use Rattle.ledger.proofs.summaries.find_granted.Goals as goal

pub returns-clause-found : goal.returns-clause-found
returns-clause-found g c clean inside office s =
    let found = c.in_ok-stretches.ensures.found clean inside office s in (
      found.0,
      λ job is.
          let kept = job_is c.args.name.customer.now c.args.name.number office job s.jobs is in
          granted_fits job c.granted_in.result kept.job.stretches.most (c.granted_in.ensures ∙ ap (λ xs. min (granted xs) (2 ^ 32 - 1)) (c.deref.ensures.value ∙ found.1 job is)),
    )

pub returns-in_err-stretches-clause-failed : goal.returns-in_err-stretches-clause-failed
returns-in_err-stretches-clause-failed g c job clean inside store office has is =
    c.in_err-stretches.ensures.failed clean inside (store_passed c.from_residual.result _ c.from_residual.ensures.1 store) office has tt

pub returns-then-is_empty-clause-failed : goal.returns-then-is_empty-clause-failed
returns-then-is_empty-clause-failed g c job clean inside store office has is =
    let s = has (c.in_ok-stretches.ensures.step.opened clean) in
    let found = c.in_ok-stretches.ensures.found clean inside office s in
    let kept = job_is c.args.name.customer.now c.args.name.number office job s.jobs is in
    let some = kept.job.stretches.begun in
    let same = ap length (found.1 job is) in
    absurd (grind (arith, nat_tests, some, same, c.if-is_empty.true, c.is_empty.ensures))
