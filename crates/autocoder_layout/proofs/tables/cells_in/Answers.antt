use Rattle.std.proofs.Common.{◌+◌, ◌∙◌, ◌∷◌, [], ◌++◌, sym, ap, drop, append_assoc}
use Rattle.std.proofs.lemmas.List.{append-nil}
use Rattle.autocoder_layout.specs.Tables.{cells_in}
use Rattle.autocoder_layout.proofs.TableLemmas.{cells_in-none, cells_in-some, cells_in-past}
use Rattle.autocoder_layout.proofs.tables.cells_in.Goals as goal

pub loop-entry-preserved-in_default : goal.loop-entry-preserved-in_default
loop-entry-preserved-in_default c =
    ap (λ t. c.loop-entry.cells.items ++ t) (sym (cells_in-none c.args.table.now c.loop-entry.entry-index _ c.loop-entry-test.true (sym c.entry-item.is ∙ c.in_default.is)))
    ∙ c.loop-entry.invariant

pub loop-entry-preserved : goal.loop-entry-preserved
loop-entry-preserved c =
    ap (λ x. x ++ cells_in (drop (c.loop-entry.entry-index + 1) c.args.table.now)) (c.in_ok-push.ensures.items)
    ∙ append_assoc c.loop-entry.cells.items (c.in-Some.cell ∷ []) (cells_in (drop (c.loop-entry.entry-index + 1) c.args.table.now))
    ∙ ap (λ x. c.loop-entry.cells.items ++ x) (sym (cells_in-some c.args.table.now c.loop-entry.entry-index _ c.in-Some.cell c.loop-entry-test.true (sym c.entry-item.is ∙ c.in-Some.is)))
    ∙ c.loop-entry.invariant

pub returns : goal.returns
returns c =
    sym (append-nil c.loop-entry.cells.items)
    ∙ ap (λ t. c.loop-entry.cells.items ++ t) (sym (cells_in-past c.args.table.now c.loop-entry.entry-index c.loop-entry-test.false))
    ∙ c.loop-entry.invariant
