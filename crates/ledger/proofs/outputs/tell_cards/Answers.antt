use Rattle.std.proofs.Common.{refl, ap, ◌∙◌, arith}
use Rattle.sqlite.specs.State.{HasCleanDisk}
use Rattle.ledger_tables.specs.Listed.{loaded_row}
use Rattle.ledger_tables.specs.Steps.{seen}
use Rattle.office.specs.declared.commands.JobCommand.TheVariants.{Cards}
use Rattle.office.specs.Stackers.{cards_from}
use Rattle.office.specs.declared.replies.Reply.TheVariants as reply
use Rattle.ledger.specs.Standing.{tables_of}
use Rattle.ledger.proofs.BureauResults.{store_passed}
use Rattle.ledger.proofs.Offices.{part_found, part_none, still}
use Rattle.ledger.proofs.ListFaults.{failed_second}
use Rattle.ledger.proofs.ReadFaults.{loaded_read}
use Rattle.ledger.proofs.Replies.{command_done, no_job, none_is}
use Rattle.ledger.proofs.SavingChanges.{unchanged_saved}
use Rattle.ledger.proofs.outputs.tell_cards.Goals as goal

pub returns-clause-done : goal.returns-clause-done
returns-clause-done g c clean inside office s =
    let old = seen g.S.Store c.args.tables.now in
    let mid = seen g.S.Store c.find_loaded.new.self in
    let new = seen g.S.Store c.find_cards.new.tables in
    let early : HasCleanDisk mid = omega (arith, c.find_cards.ensures.step.survives.clean) in
    let found = c.in_ok-_row.ensures.found early inside (tables_of office) s.tables in
    let on = c.in_ok-_row.ensures.step.frame early inside in
    let customer = c.args.name.customer.now in
    let number = c.args.name.number in
    let it = part_found loaded_row customer number office c.in_ok-_row.field-0 c.in-Some._row found.1 c.in-Some.is in
    let rest = c.in_ok-punched.ensures.found clean on.inside office (still old mid office found.0 s) in
    let told = ap reply.Cards (c.in_ok-cards.ensures ∙ ap (cards_from c.args.from) (c.deref.ensures.value ∙ rest.1 it.0 it.1)) in
    let stands = unchanged_saved new customer number (Cards c.args.from) it.0 office refl it.1 rest.0 in
    command_done new customer number (Cards c.args.from) _ office it.0 it.1 told refl stands

pub returns-in_default-clause-done : goal.returns-in_default-clause-done
returns-in_default-clause-done g c clean inside office s =
    let old = seen g.S.Store c.args.tables.now in
    let new = seen g.S.Store c.find_loaded.new.self in
    let found = c.in_ok-_row.ensures.found clean inside (tables_of office) s.tables in
    no_job new c.args.name.customer.now c.args.name.number (Cards c.args.from) office (part_none loaded_row c.args.name.customer.now c.args.name.number office c.in_ok-_row.field-0 found.1 (none_is c.in_ok-_row.field-0 c.in_default.not-Some)) (still old new office found.0 s)

pub returns-in_err-_row-clause-failed : goal.returns-in_err-_row-clause-failed
returns-in_err-_row-clause-failed g c clean inside store office has any =
    c.in_err-_row.ensures.failed clean inside (store_passed c.from_residual.result _ c.from_residual.ensures.1 store) (tables_of office) (λ opened. (has opened).tables) (loaded_read c.args.name.customer.now c.args.name.number office)

pub returns-in_err-punched-clause-failed : goal.returns-in_err-punched-clause-failed
returns-in_err-punched-clause-failed g c clean inside store office has any =
    failed_second _ _ _ c.find_loaded.ensures.step.survives c.find_cards.ensures.step.survives clean (λ early opened.
    let old = seen g.S.Store c.args.tables.now in
    let mid = seen g.S.Store c.find_loaded.new.self in
    let s = has opened in
    let found = c.in_ok-_row.ensures.found early inside (tables_of office) s.tables in
    let on = c.in_ok-_row.ensures.step.frame early inside in
    let it = part_found loaded_row c.args.name.customer.now c.args.name.number office c.in_ok-_row.field-0 c.in-Some._row found.1 c.in-Some.is in
    c.in_err-punched.ensures.failed it.0 clean on.inside (store_passed c.from_residual-in_err-punched.result _ c.from_residual-in_err-punched.ensures.1 store) office (λ _. still old mid office found.0 s) it.1)
