use Rattle.std.proofs.Common.{sym, ap, ◌∙◌, arith}
use Rattle.sqlite.specs.State.{HasCleanDisk}
use Rattle.office.specs.Office.{commanded}
use Rattle.ledger_tables.specs.Steps.{seen}
use Rattle.office_tables.specs.Standing.{tables_of}
use Rattle.ledger.proofs.BureauResults.{store_passed}
use Rattle.ledger.proofs.Offices.{row_found, row_none, still}
use Rattle.ledger.proofs.ListFaults.{failed_second}
use Rattle.ledger.proofs.ReadFaults.{job_read}
use Rattle.ledger.proofs.SummaryLemmas.{refused_as}
use Rattle.ledger.proofs.by_summary.find_allowed.Goals as goal

pub returns-in-Some-refusal-clause-found : goal.returns-in-Some-refusal-clause-found
returns-in-Some-refusal-clause-found g c clean inside office s =
    let old = seen g.S.Store c.args.tables.now in
    let first = seen g.S.Store c.find_job.new.self in
    let early : HasCleanDisk first = omega (arith, clean, c.find_summary.ensures.step.survives.clean) in
    let found = c.in_ok-row.ensures.found early inside (tables_of office) s.tables in
    let on = c.in_ok-row.ensures.step.frame early inside in
    let it = row_found c.args.name.customer.now c.args.name.number office c.in_ok-row.field-0 c.in-Some.row found.1 c.in-Some.is in
    let shown = c.in_ok-job-in-Some.ensures.found clean on.inside office (still old first office found.0 s) in
    (shown.0, refused_as c.args.name.customer.now c.args.name.number c.args.command c.in-Some-refusal.reason _ office it.0 s.tables.shared.distinct it.1 (shown.1 it.0 it.1 it.2) (sym c.refusal.ensures ∙ c.in-Some-refusal.is))

pub returns-in-Some-clause-found : goal.returns-in-Some-clause-found
returns-in-Some-clause-found g c clean inside office s =
    let old = seen g.S.Store c.args.tables.now in
    let first = seen g.S.Store c.find_job.new.self in
    let early : HasCleanDisk first = omega (arith, clean, c.find_summary.ensures.step.survives.clean) in
    let found = c.in_ok-row.ensures.found early inside (tables_of office) s.tables in
    let on = c.in_ok-row.ensures.step.frame early inside in
    let it = row_found c.args.name.customer.now c.args.name.number office c.in_ok-row.field-0 c.in-Some.row found.1 c.in-Some.is in
    let shown = c.in_ok-job-in-Some.ensures.found clean on.inside office (still old first office found.0 s) in
    (shown.0, (it.0, it.1, shown.1 it.0 it.1 it.2, sym c.refusal.ensures ∙ c.in-None-refusal.is))

pub returns-clause-found : goal.returns-clause-found
returns-clause-found g c clean inside office s =
    let old = seen g.S.Store c.args.tables.now in
    let new = seen g.S.Store c.find_job.new.self in
    let found = c.in_ok-row.ensures.found clean inside (tables_of office) s.tables in
    let none = row_none c.args.name.customer.now c.args.name.number office c.in_ok-row.field-0 found.1 c.in-None.is in
    (still old new office found.0 s, ap (commanded c.args.name.customer.now c.args.name.number c.args.command office) none)

pub returns-in_err-row-clause-failed : goal.returns-in_err-row-clause-failed
returns-in_err-row-clause-failed g c clean inside store office has any =
    c.in_err-row.ensures.failed clean inside (store_passed c.from_residual.result _ c.from_residual.ensures.1 store) (tables_of office) (λ opened. (has opened).tables) (job_read c.args.name.customer.now c.args.name.number office)

pub returns-in_err-job-in-Some-clause-failed : goal.returns-in_err-job-in-Some-clause-failed
returns-in_err-job-in-Some-clause-failed g c clean inside store office has any =
    failed_second _ _ _ c.find_job.ensures.step.survives c.find_summary.ensures.step.survives clean (λ early opened.
    let old = seen g.S.Store c.args.tables.now in
    let mid = seen g.S.Store c.find_job.new.self in
    let s = has opened in
    let found = c.in_ok-row.ensures.found early inside (tables_of office) s.tables in
    let on = c.in_ok-row.ensures.step.frame early inside in
    let it = row_found c.args.name.customer.now c.args.name.number office c.in_ok-row.field-0 c.in-Some.row found.1 c.in-Some.is in
    c.in_err-job-in-Some.ensures.failed it.0 it.2 clean on.inside (store_passed c.from_residual-in_err-job-in-Some.result _ c.from_residual-in_err-job-in-Some.ensures.1 store) office (λ _. still old mid office found.0 s) it.1)
