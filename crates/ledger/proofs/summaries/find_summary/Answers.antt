use Rattle.std.proofs.Common.{sym, ap, ◌∙◌, arith}
use Rattle.sqlite.specs.State.{HasCleanDisk}
use Rattle.machine.specs.Standings.{standing_at}
use Rattle.ledger_rows.specs.declared.progress.Progress.{Progress}
use Rattle.ledger_tables.specs.Cells.{JobCells}
use Rattle.ledger_tables.specs.Steps.{seen}
use Rattle.ledger.proofs.BureauResults.{store_passed}
use Rattle.ledger.proofs.ListFaults.{failed_second}
use Rattle.office_tables.proofs.ReadingLemmas.{some_is}
use Rattle.ledger.proofs.SummaryLemmas.{summary_is}
use Rattle.ledger.proofs.summaries.find_summary.Goals as goal

pub returns-clause-found : goal.returns-clause-found
returns-clause-found g c clean inside office s =
    let mid = seen g.S.Store c.find_granted.new.tables in
    let early : HasCleanDisk mid = omega (arith, c.find_progress.ensures.step.survives.clean) in
    let found = c.in_ok-granted.ensures.found early inside office s in
    let on = c.in_ok-granted.ensures.step.frame early inside in
    let rest = c.in_ok-progress.ensures.found clean on.inside office found.0 in (
      rest.0,
      λ job is row.
          let cells = c.row.view_is ∙ row in
          let held = some_is (sym c.in-Some-Some.is-0 ∙ c.read_truth.ensures.all job.held (ap (λ (r : JobCells). r.held) cells)) in
          let collected = some_is (sym c.in-Some-Some.is-1 ∙ c.read_truth-2.ensures.all job.collected (ap (λ (r : JobCells). r.collected) cells)) in
          let progress = rest.1 job is in
          summary_is _ _ _ _ _ _ job (c.new.ensures ∙ ap (λ (p : Progress). standing_at p.standing p.i) progress) held collected (found.1 job is) (ap (λ (p : Progress). p.cards) progress) (ap (λ (p : Progress). p.lines) progress),
    )

pub returns-in_err-granted-clause-failed : goal.returns-in_err-granted-clause-failed
returns-in_err-granted-clause-failed g c job row clean inside store office has is =
    c.in_err-granted.ensures.failed job clean inside (store_passed c.from_residual.result _ c.from_residual.ensures.1 store) office has is

pub returns-in_err-progress-clause-failed : goal.returns-in_err-progress-clause-failed
returns-in_err-progress-clause-failed g c job row clean inside store office has is =
    failed_second _ _ _ c.find_granted.ensures.step.survives c.find_progress.ensures.step.survives clean (λ early opened.
    let on = c.in_ok-granted.ensures.step.frame early inside in
    let after = (c.in_ok-granted.ensures.found early inside office (has opened)).0 in
    c.in_err-progress.ensures.failed job clean on.inside (store_passed c.from_residual-in_err-progress.result _ c.from_residual-in_err-progress.ensures.1 store) office (λ _. after) is)
