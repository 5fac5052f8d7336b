use Rattle.std.proofs.Common.{ap, ◌∙◌, arith}
use Rattle.office.specs.Office.{own, by_number}
use Rattle.bcd.specs.Orders.{in_order}
use Rattle.office.specs.declared.replies.Reply.TheVariants.{Jobs}
use Rattle.sqlite.specs.State.{HasCleanDisk}
use Rattle.ledger_tables.specs.Steps.{seen}
use Rattle.office_tables.specs.Standing.{tables_of}
use Rattle.ledger.proofs.BureauResults.{store_passed}
use Rattle.ledger.proofs.ListFaults.{failed_second, names_read}
use Rattle.ledger.proofs.ListLemmas.{all_his, names_told}
use Rattle.ledger.proofs.Offices.{still}
use Rattle.ledger.proofs.lists.list_jobs.Goals as goal

pub returns-clause-done : goal.returns-clause-done
returns-clause-done g c clean inside office s =
    let old = seen g.S.Store c.args.tables.now in
    let mid = seen g.S.Store c.job_names_of.new.self in
    let early : HasCleanDisk mid = omega (arith, c.find_lines.ensures.step.survives.clean) in
    let customer = c.args.customer.now in
    let found = c.in_ok-rows.ensures.found early inside (tables_of office) s.tables in
    let on = c.in_ok-rows.ensures.step.frame early inside in
    let lines = c.in_ok-lines.ensures.found clean on.inside office (still old mid office found.0 s) in
    let told = lines.1 (in_order by_number (own customer office)) (c.as_slice.ensures.value ∙ found.1 ∙ names_told customer office) (all_his customer office s.tables.shared.distinct) in
    record { reply_is = ap Jobs told; stands = lines.0 }

pub returns-in_err-lines-clause-failed : goal.returns-in_err-lines-clause-failed
returns-in_err-lines-clause-failed g c clean inside store office has any =
    failed_second _ _ _ c.job_names_of.ensures.step.survives c.find_lines.ensures.step.survives clean (λ early opened.
    let old = seen g.S.Store c.args.tables.now in
    let mid = seen g.S.Store c.job_names_of.new.self in
    let customer = c.args.customer.now in
    let s = has opened in
    let found = c.in_ok-rows.ensures.found early inside (tables_of office) s.tables in
    let on = c.in_ok-rows.ensures.step.frame early inside in
    c.in_err-lines.ensures.failed (in_order by_number (own customer office)) (c.as_slice.ensures.value ∙ found.1 ∙ names_told customer office) clean on.inside (store_passed c.from_residual-in_err-lines.result _ c.from_residual-in_err-lines.ensures.1 store) office
    (λ _. still old mid office found.0 s) (all_his customer office s.tables.shared.distinct))

pub returns-in_err-rows-clause-failed : goal.returns-in_err-rows-clause-failed
returns-in_err-rows-clause-failed g c clean inside store office has listable =
    c.in_err-rows.ensures.failed clean inside (store_passed c.from_residual.result _ c.from_residual.ensures.1 store) (tables_of office) (λ opened. (has opened).tables) (names_read c.args.customer.now office listable)
