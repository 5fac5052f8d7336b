use Rattle.std.proofs.Common.{◌≤◌, [], ◌∷◌, ◌++◌, length, map, take, sym, ap, ◌∙◌, arith}
use Rattle.std.proofs.lemmas.List.{get_or_default, length-map, map-append, take_all}
use Rattle.office.specs.Office.{Entry, job_line}
use Rattle.office.specs.declared.lists.JobLine.{JobLine}
use Rattle.sqlite.specs.State.{HasCleanDisk}
use Rattle.ledger_tables.proofs.Stepping.{of_open, step_still, step_then, step_ends}
use Rattle.ledger_tables.specs.Listed.{name_row}
use Rattle.ledger_tables.specs.Steps.{seen}
use Rattle.ledger.specs.Listed.{IsHis}
use Rattle.office_tables.specs.Standing.{named}
use Rattle.ledger.proofs.BureauResults.{store_passed}
use Rattle.ledger.proofs.ListFaults.{failed_second}
use Rattle.ledger.proofs.ListLemmas.{at_row}
use Rattle.ledger.proofs.lists.find_lines.Goals as goal

pub loop-row-init : goal.loop-row-init
loop-row-init g c = record {
  step = step_still g.S.Store c.args.tables.now 0;
  found = λ clean inside office s. (s, λ entries is all. c.new-lines.ensures.items);
}

pub loop-row-preserved : goal.loop-row-preserved
loop-row-preserved g c =
    let mid = seen g.S.Store c.loop-row.tables in
    let last = seen g.S.Store c.find_line.new.tables in
    let was = c.loop-row.invariant in
    let early = λ (clean : HasCleanDisk last). let h : HasCleanDisk mid = omega (arith, c.find_line.ensures.step.survives.clean) in h in
    let rows = c.args.rows.now in
    let i = c.loop-row.row-index in
    let line = c.in_ok-line.line in
    let pushed = c.push_reserved.ensures.items ∙ ap (λ made. made ++ line ∷ []) c.in_ok-try_reserve.ensures.items in
    record {
      step = step_ends g.S.Store _ _ _ _ (step_then g.S.Store _ _ _ _ _ was.step (of_open g.S.Store _ _ _ c.in_ok-line.ensures.step));
      found = λ clean inside office s.
          let on = was.step.frame (early clean) inside in
          let before = was.found (early clean) inside office s in
          let here = c.in_ok-line.ensures.found clean on.inside office before.0 in (
            here.0,
            λ entries is all.
                let it = at_row (λ (e : Entry). name_row (named e)) (IsHis c.args.customer.now office) entries rows i _ is all c.loop-row-test.true (get_or_default rows i _ _ c.loop-row-test.true) in
                pushed ∙ ap (λ made. made ++ line ∷ []) (before.1 entries is all) ∙ ap (λ (l : JobLine). map job_line (take i entries) ++ l ∷ []) (here.1 it.0 it.1 it.2)
                ∙ sym (ap (map job_line) it.3 ∙ map-append job_line (take i entries) (it.0 ∷ [])),
          );
    }

pub returns-clause-found : goal.returns-clause-found
returns-clause-found g c clean inside office s =
    let found = c.loop-row.invariant.found clean inside office s in (
      found.0,
      λ entries is all.
          let many : length entries ≤ c.loop-row.row-index = omega (arith, c.loop-row-test.false, ap length is, length-map entries (λ (e : Entry). name_row (named e))) in
          found.1 entries is all ∙ ap (map job_line) (take_all c.loop-row.row-index entries many),
    )

pub returns-in_err-line-clause-failed : goal.returns-in_err-line-clause-failed
returns-in_err-line-clause-failed g c entries is clean inside store office has all =
    let was = c.loop-row.invariant in
    failed_second _ _ _ was.step.survives c.find_line.ensures.step.survives clean (λ early opened.
    let rows = c.args.rows.now in
    let i = c.loop-row.row-index in
    let on = was.step.frame early inside in
    let before = was.found early inside office (has opened) in
    let it = at_row (λ (e : Entry). name_row (named e)) (IsHis c.args.customer.now office) entries rows i _ is all c.loop-row-test.true (get_or_default rows i _ _ c.loop-row-test.true) in
    c.in_err-line.ensures.failed it.0 it.1 clean on.inside (store_passed c.from_residual.result _ c.from_residual.ensures.1 store) office (λ _. before.0) it.2)
