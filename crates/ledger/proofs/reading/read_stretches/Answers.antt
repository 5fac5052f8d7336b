use Rattle.std.proofs.Common.{◌∷◌, [], ◌++◌, ap, ◌∙◌, refl, arith}
use Rattle.std.proofs.lemmas.List.{get_or_default, take_all}
use Rattle.ledger_rows.proofs.FromCellsRows.{made_from, one_more, same_things}
use Rattle.office.specs.Jobs.{HasSwitches}
use Rattle.office_tables.specs.Standing.{stretch_row}
use Rattle.office_tables.proofs.ReadingLemmas.{stretches_told}
use Rattle.ledger.proofs.reading.read_stretches.Goals as goal

pub returns-in_default-clause-all : goal.returns-in_default-clause-all
returns-in_default-clause-all c = λ them all same.
    let rows = c.args.rows.now in
    let i = c.loop-row.row-index in
    let made = made_from stretch_row HasSwitches rows i _ c.loop-row-test.true (get_or_default rows i _ _ c.loop-row-test.true) them all same in
    absurd (c.in_default.not-Some _ (c.read_stretch.ensures.all made.thing made.is made.row_is))

pub loop-row-preserved : goal.loop-row-preserved
loop-row-preserved c =
    let rows = c.args.rows.now in
    let i = c.loop-row.row-index in
    let found = c.loop-row.invariant in
    let pushed = c.push_reserved.ensures.items ∙ ap (λ made. made ++ c.in-Some.stretch ∷ []) c.in_ok-try_reserve.ensures.items in
    let more = one_more stretch_row HasSwitches rows i _ c.in-Some.stretch c.loop-row.stretches.items c.push_reserved.new.self.items c.loop-row-test.true (get_or_default rows i _ _ c.loop-row-test.true) found.rows found.switches c.in-Some.ensures.only pushed in
    record { rows = more.0; switches = more.1 }

pub returns-clause-all : goal.returns-clause-all
returns-clause-all c = λ them all same.
    let found = c.loop-row.invariant in (
      same_things stretch_row HasSwitches stretches_told c.loop-row.stretches.items them found.switches all (found.rows ∙ take_all _ _ (omega arith) ∙ same),
      refl,
    )

pub returns-clause-only : goal.returns-clause-only
returns-clause-only c =
    let found = c.loop-row.invariant in
    (found.rows ∙ take_all _ _ (omega arith), found.switches)
