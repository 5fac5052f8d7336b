use Rattle.std.proofs.Common.{◌<◌, ◌≤◌, rules}
use Rattle.core_store.specs.Pages.{cells_of, page_count}
use Rattle.ledger_tables.specs.Tables.{page_row}
use Rattle.ledger_tables.proofs.Frames.{on_ok_then}
use Rattle.office.proofs.JobMeters.{on_err}
use Rattle.job_checks.proofs.DifferLemmas.{on_err_then}
use Rattle.job_checks.proofs.PlacedLemmas.{page_ends, page_fails, page_step}
use Rattle.job_checks.proofs.machines.check_pages.Goals as goal

pub loop-page-preserved : goal.loop-page-preserved
loop-page-preserved c =
    let s = cells_of c.args.core.now in
    let page = c.loop-page.page in
    let less : page < page_count s = search rules in
    page_step s (page_count s) page (page_row c.args.name.customer.now c.args.name.number) _ _ _ _ less c.loop-page.invariant c.page_bytes.ensures _ c.in_ok-rest.ensures.passed

pub returns-in_err-rest-clause-other : goal.returns-in_err-rest-clause-other
returns-in_err-rest-clause-other c =
    let s = cells_of c.args.core.now in
    let page = c.loop-page.page in
    let less : page < page_count s = search rules in
    on_err c.from_residual.result _
    (page_fails s (page_count s) page (page_row c.args.name.customer.now c.args.name.number) _ _ _ _ less c.loop-page.invariant c.page_bytes.ensures c.in_err-rest.ensures.other)

pub returns-clause-same : goal.returns-clause-same
returns-clause-same c =
    let s = cells_of c.args.core.now in
    let past : page_count s ≤ c.loop-page.page = search rules in
    on_ok_then c.pass_none.result _ _ (page_ends s (page_count s) c.loop-page.page (page_row c.args.name.customer.now c.args.name.number) _ _ _ past c.loop-page.invariant).0 c.pass_none.ensures.none

pub returns-clause-other : goal.returns-clause-other
returns-clause-other c =
    let s = cells_of c.args.core.now in
    let past : page_count s ≤ c.loop-page.page = search rules in
    on_err_then c.pass_none.result _ _ (λ some all. some ((page_ends s (page_count s) c.loop-page.page (page_row c.args.name.customer.now c.args.name.number) _ _ _ past c.loop-page.invariant).1 all)) c.pass_none.ensures.some
