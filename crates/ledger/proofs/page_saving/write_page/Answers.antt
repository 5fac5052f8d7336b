use Rattle.std.proofs.Common.{◌∙◌, ap, sym, subst, is_some}
use Rattle.ledger_tables.specs.Steps.{seen}
use Rattle.ledger_tables.specs.Tables.{HoldsAs, with_page}
use Rattle.ledger_tables.proofs.Frames.{on_ok_then}
use Rattle.ledger.proofs.PageMixes.{blank_row, full_row}
use Rattle.ledger.proofs.page_saving.write_page.Goals as goal

pub returns-then-is_blank_page-clause-written : goal.returns-then-is_blank_page-clause-written
returns-then-is_blank_page-clause-written g c clean inside =
    let now = blank_row c.args.bytes.now (sym c.is_blank_page.ensures ∙ c.if-is_blank_page.true) in
    on_ok_then c.clear_page.result _ _
    (λ cleared there version t holds has. subst (λ o. HoldsAs there version (seen g.S.Store c.clear_page.new.self).now (with_page c.args.name.customer.now c.args.name.number c.args.page o t)) now (cleared there version t holds tt))
    (c.clear_page.ensures.cleared clean inside)

pub returns-then-is_blank_page-2-clause-written : goal.returns-then-is_blank_page-2-clause-written
returns-then-is_blank_page-2-clause-written g c clean inside =
    let now = full_row c.args.bytes.now (sym c.is_blank_page.ensures ∙ c.if-is_blank_page.false) in
    let none = blank_row c.args.earlier.now (sym c.is_blank_page-else-is_blank_page.ensures ∙ c.if-is_blank_page-2.true) in
    on_ok_then c.insert_page.result _ _
    (λ added there version t holds has. subst (λ o. HoldsAs there version (seen g.S.Store c.insert_page.new.self).now (with_page c.args.name.customer.now c.args.name.number c.args.page o t)) now (added there version t holds (has ∙ sym none)))
    (c.insert_page.ensures.added clean inside)

pub returns-else-is_blank_page-2-clause-written : goal.returns-else-is_blank_page-2-clause-written
returns-else-is_blank_page-2-clause-written g c clean inside =
    let now = full_row c.args.bytes.now (sym c.is_blank_page.ensures ∙ c.if-is_blank_page.false) in
    let row = full_row c.args.earlier.now (sym c.is_blank_page-else-is_blank_page.ensures ∙ c.if-is_blank_page-2.false) in
    on_ok_then c.replace_page.result _ _
    (λ replaced there version t holds has. subst (λ o. HoldsAs there version (seen g.S.Store c.replace_page.new.self).now (with_page c.args.name.customer.now c.args.name.number c.args.page o t)) now (replaced there version t holds (ap is_some (has ∙ sym row))))
    (c.replace_page.ensures.replaced clean inside)
