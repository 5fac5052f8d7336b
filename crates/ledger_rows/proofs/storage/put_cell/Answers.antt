use Rattle.std.proofs.Common.{◌∙◌, ap, sym, true, false, set}
use Rattle.core_store.specs.Storage.{with_mark}
use Rattle.core_store.proofs.Fields.{with_mark-put}
use Rattle.ledger_rows.proofs.storage.put_cell.Goals as goal

pub returns-then-cell : goal.returns-then-cell
returns-then-cell g c =
    let s = g.C.Core.cells c.args.core.now in
    c.set_mark.ensures ∙ ap (λ t. with_mark t c.args.position true) c.put.ensures
    ∙ with_mark-put s c.args.position c.args.cell.code true c.requires
    ∙ ap (λ marked. set s c.args.position (c.args.cell.code, marked)) (sym c.if-cell.true)

pub returns-else-cell : goal.returns-else-cell
returns-else-cell g c =
    let s = g.C.Core.cells c.args.core.now in
    c.clear_mark.ensures ∙ ap (λ t. with_mark t c.args.position false) c.put.ensures
    ∙ with_mark-put s c.args.position c.args.cell.code false c.requires
    ∙ ap (λ marked. set s c.args.position (c.args.cell.code, marked)) (sym c.if-cell.false)
