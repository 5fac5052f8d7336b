use Rattle.std.proofs.Common.{map, filter, ap, ◌∙◌, arith}
use Rattle.office.specs.Office.{Office, by_name, queued_job, runs}
use Rattle.bcd.specs.Orders.{in_order}
use Rattle.office.specs.declared.replies.Reply.TheVariants.{Queue}
use Rattle.sqlite.specs.State.{HasCleanDisk}
use Rattle.ledger_tables.specs.Steps.{seen}
use Rattle.office_tables.specs.Standing.{tables_of}
use Rattle.ledger.proofs.BureauResults.{store_passed}
use Rattle.ledger.proofs.ListFaults.{failed_second, running_read}
use Rattle.ledger.proofs.ListLemmas.{all_running, free_running, running_told}
use Rattle.ledger.proofs.Offices.{still}
use Rattle.ledger.proofs.lists.list_queue.Goals as goal

pub returns-clause-done : goal.returns-clause-done
returns-clause-done g c clean inside office s =
    let old = seen g.S.Store c.args.tables.now in
    let mid = seen g.S.Store c.running_names.new.self in
    let early : HasCleanDisk mid = omega (arith, c.find_queue.ensures.step.survives.clean) in
    let found = c.in_ok-rows.ensures.found early inside (tables_of office) s.tables in
    let on = c.in_ok-rows.ensures.step.frame early inside in
    let distinct = s.tables.shared.distinct in
    let queue = c.in_ok-queue.ensures.found clean on.inside office (still old mid office found.0 s) in
    let told = queue.1 (in_order by_name (filter runs office)) (c.as_slice.ensures.value ∙ running_told office distinct _ found.1) (all_running office distinct) in
    record { reply_is = ap Queue (told ∙ ap (λ (es : Office). map queued_job es) (free_running office distinct)); stands = queue.0 }

pub returns-in_err-queue-clause-failed : goal.returns-in_err-queue-clause-failed
returns-in_err-queue-clause-failed g c clean inside store office has any =
    failed_second _ _ _ c.running_names.ensures.step.survives c.find_queue.ensures.step.survives clean (λ early opened.
    let old = seen g.S.Store c.args.tables.now in
    let mid = seen g.S.Store c.running_names.new.self in
    let s = has opened in
    let found = c.in_ok-rows.ensures.found early inside (tables_of office) s.tables in
    let on = c.in_ok-rows.ensures.step.frame early inside in
    let distinct = s.tables.shared.distinct in
    c.in_err-queue.ensures.failed (in_order by_name (filter runs office)) (c.as_slice.ensures.value ∙ running_told office distinct _ found.1) clean on.inside (store_passed c.from_residual-in_err-queue.result _ c.from_residual-in_err-queue.ensures.1 store) office
    (λ _. still old mid office found.0 s) (all_running office distinct))

pub returns-in_err-rows-clause-failed : goal.returns-in_err-rows-clause-failed
returns-in_err-rows-clause-failed g c clean inside store office has listable =
    c.in_err-rows.ensures.failed clean inside (store_passed c.from_residual.result _ c.from_residual.ensures.1 store) (tables_of office) (λ opened. (has opened).tables) (running_read office listable)
