use Rattle.std.proofs.Common.{◌≡◌, length, get_or, slice_get, ◌-◌, None, sym, ap, subst, ◌∙◌, arith}
use Rattle.sqlite.specs.State.{HasCleanDisk}
use Rattle.ledger_tables.specs.Steps.{seen}
use Rattle.ledger_tables.specs.Cells.{LoadedCells}
use Rattle.ledger.proofs.BureauResults.{store_passed}
use Rattle.ledger.proofs.Offices.{job_is, kept_is}
use Rattle.ledger.proofs.ReadFaults.{failed_later, failed_unless, is_there}
use Rattle.office_tables.proofs.ReadingLemmas.{some_is, picture_switches}
use Rattle.ledger.proofs.reading.find_parts.Goals as goal

pub returns-clause-found : goal.returns-clause-found
returns-clause-found g c clean inside office s =
    let old = seen g.S.Store c.args.tables.now in
    let mid = seen g.S.Store c.find_stretches.new.tables in
    let early : HasCleanDisk mid = omega (arith, c.find_running.ensures.step.survives.clean) in
    let found = c.in_ok-stretches.ensures.found early inside office s in
    let on = c.in_ok-stretches.ensures.step.frame early inside in
    let rest = c.in_ok-machine.ensures.found clean on.inside office found.0 in (
      rest.0,
      λ job is row.
          let kept = job_is c.args.name.customer.now c.args.name.number office job s.jobs is in
          let cells = c.row.view_is ∙ row in
          let stretches = found.1 job is in
          let held = some_is (sym c.in-Some-Some.is-0 ∙ c.read_truth.ensures.all job.held (ap (λ (r : LoadedCells). r.held) cells)) in
          let collected = some_is (sym c.in-Some-Some.is-1 ∙ c.read_truth-2.ensures.all job.collected (ap (λ (r : LoadedCells). r.collected) cells)) in
          let switches = picture_switches c.runs_only_add.ensures.switches job c.in-Some.last.now kept.job.stretches.switches kept.job.stretches.begun (subst (λ xs. c.in-Some.last.now ≡ get_or xs (length xs - 1) c.in-Some.last.now) (c.deref.ensures.value ∙ stretches) c.in-Some.ensures.item.1) in
          kept_is _ _ _ _ job stretches held collected (rest.1 job is row (sym switches)),
    )

pub returns-in_err-stretches-clause-failed : goal.returns-in_err-stretches-clause-failed
returns-in_err-stretches-clause-failed g c job row clean inside store office has is =
    c.in_err-stretches.ensures.failed clean inside (store_passed c.from_residual.result _ c.from_residual.ensures.1 store) office has tt

pub returns-in_err-machine-clause-failed : goal.returns-in_err-machine-clause-failed
returns-in_err-machine-clause-failed g c job row clean inside store office has is =
    let old = seen g.S.Store c.args.tables.now in
    let mid = seen g.S.Store c.find_stretches.new.tables in
    let new = seen g.S.Store c.find_running.new.tables in
    let early : HasCleanDisk mid = omega (arith, clean, c.find_running.ensures.step.survives.clean) in
    let on = c.in_ok-stretches.ensures.step.frame early inside in
    failed_unless old new (λ opened.
    let s = has opened in
    let found = c.in_ok-stretches.ensures.found early inside office s in
    let kept = job_is c.args.name.customer.now c.args.name.number office job s.jobs is in
    let stretches = found.1 job is in
    let switches = picture_switches c.runs_only_add.ensures.switches job c.in-Some.last.now kept.job.stretches.switches kept.job.stretches.begun (subst (λ xs. c.in-Some.last.now ≡ get_or xs (length xs - 1) c.in-Some.last.now) (c.deref.ensures.value ∙ stretches) c.in-Some.ensures.item.1) in
    failed_later old mid new c.find_stretches.ensures.step.survives c.find_running.ensures.step.survives early opened
    (c.in_err-machine.ensures.failed job row (sym switches) clean on.inside (store_passed c.from_residual-in_err-machine.result _ c.from_residual-in_err-machine.ensures.1 store) office (λ still. found.0) is))

pub returns-in_default-last-clause-failed : goal.returns-in_default-last-clause-failed
returns-in_default-last-clause-failed g c job row clean inside store office has is =
    failed_unless (seen g.S.Store c.args.tables.now) (seen g.S.Store c.find_stretches.new.tables) (λ opened.
    let s = has opened in
    let found = c.in_ok-stretches.ensures.found clean inside office s in
    let kept = job_is c.args.name.customer.now c.args.name.number office job s.jobs is in
    let none : slice_get c.deref.result.now (length c.deref.result.now - 1) ≡ None = sym (rw c.in_default-last.is at c.last.ensures.value) in
    absurd (is_there job.stretches (length job.stretches - 1) (omega (arith, kept.job.stretches.begun)) (subst (λ xs. slice_get xs (length xs - 1) ≡ None) (c.deref.ensures.value ∙ found.1 job is) none)))
