use Rattle.std.proofs.Common.{◌≤◌, ◌+◌, [], ◌∷◌, ◌++◌, length, map, not, take, sym, ap, ◌∙◌, arith}
use Rattle.std.proofs.lemmas.List.{length-map, take_all}
use Rattle.office.specs.Office.{Entry, Office, free_jobs, queued_job}
use Rattle.sqlite.specs.State.{HasCleanDisk}
use Rattle.ledger_tables.proofs.Stepping.{of_open, step_still, step_then, step_ends}
use Rattle.ledger_tables.specs.Listed.{queued_name}
use Rattle.ledger_tables.specs.Steps.{seen}
use Rattle.ledger.specs.Listed.{IsIts}
use Rattle.office_tables.specs.Standing.{named}
use Rattle.ledger.proofs.BureauResults.{store_passed}
use Rattle.ledger.proofs.ListFaults.{failed_second}
use Rattle.ledger.proofs.ListLemmas.{at_row, passed_on}
use Rattle.ledger.proofs.lists.find_queue.Goals as goal

pub loop-row-init : goal.loop-row-init
loop-row-init g c = record {
  step = step_still g.S.Store c.args.tables.now 0;
  found = λ clean inside office s. (s, λ entries is all. c.new-queue.ensures.items);
}

pub loop-row-preserved : goal.loop-row-preserved
loop-row-preserved g c =
    let mid = seen g.S.Store c.loop-row.tables in
    let last = seen g.S.Store c.queue_free.new.tables in
    let was = c.loop-row.invariant in
    let early = λ (clean : HasCleanDisk last). let h : HasCleanDisk mid = omega (arith, c.queue_free.ensures.step.survives.clean) in h in
    let rows = c.args.rows.now in
    let i = c.loop-row.row-index in
    record {
      step = step_ends g.S.Store _ _ _ _ (step_then g.S.Store _ _ _ _ _ was.step (of_open g.S.Store _ _ _ c.in_ok-queue_free.ensures.step));
      found = λ clean inside office s.
          let on = was.step.frame (early clean) inside in
          let before = was.found (early clean) inside office s in
          let here = c.in_ok-queue_free.ensures.found clean on.inside office before.0 in (
            here.0,
            λ entries is all.
                let it = at_row (λ (e : Entry). queued_name (named e)) (IsIts office) entries rows i c.row-item.result is all c.loop-row-test.true c.row-item.is in
                here.1 it.0 it.1 it.2 ∙ ap (λ queue. queue ++ map queued_job (free_jobs (it.0 ∷ []))) (before.1 entries is all)
                ∙ sym (passed_on queued_job (λ e. not e.job.held) (take i entries) (take (i + 1) entries) it.0 it.3),
          );
    }

pub returns-clause-found : goal.returns-clause-found
returns-clause-found g c clean inside office s =
    let found = c.loop-row.invariant.found clean inside office s in (
      found.0,
      λ entries is all.
          let many : length entries ≤ c.loop-row.row-index = omega (arith, c.loop-row-test.false, ap length is, length-map entries (λ (e : Entry). queued_name (named e))) in
          found.1 entries is all ∙ ap (λ (es : Office). map queued_job (free_jobs es)) (take_all c.loop-row.row-index entries many),
    )

pub returns-in_err-queue_free-clause-failed : goal.returns-in_err-queue_free-clause-failed
returns-in_err-queue_free-clause-failed g c entries is clean inside store office has all =
    let was = c.loop-row.invariant in
    failed_second _ _ _ was.step.survives c.queue_free.ensures.step.survives clean (λ early opened.
    let on = was.step.frame early inside in
    let before = was.found early inside office (has opened) in
    let it = at_row (λ (e : Entry). queued_name (named e)) (IsIts office) entries c.args.rows.now c.loop-row.row-index c.row-item.result is all c.loop-row-test.true c.row-item.is in
    c.in_err-queue_free.ensures.failed it.0 it.1 clean on.inside (store_passed c.from_residual.result _ c.from_residual.ensures.1 store) office (λ _. before.0) it.2)
