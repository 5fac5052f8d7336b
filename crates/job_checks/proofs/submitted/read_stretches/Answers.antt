use Rattle.std.proofs.Common.{◌≡◌, ◌+◌, ◌++◌, ◌∷◌, [], List, length, Some, sym, ap, subst, ◌∙◌}
use Rattle.office.specs.declared.stretches.Stretch.{Stretch}
use Rattle.ledger_tables.specs.Tables.{is_row_of}
use Rattle.job_checks.proofs.StretchLemmas.{HasRead, at_place, next_held, next_is, passed_over, read_all, read_more}
use Rattle.job_checks.proofs.submitted.read_stretches.Goals as goal
use Rattle.job_checks.proofs.submitted.read_stretches.Goals.{then-is_row_of+in-Some+in_ok-try_reserve, else-is_row_of}

pub returns-in_default : goal.returns-in_default
returns-in_default c = λ xs are rows.
    let customer = c.args.name.customer.now in
    let number = c.args.name.number in
    let items = c.loop-row.stretches.items in
    let at = c.loop-row.row-index in
    let r = c.row-item.result in
    let next = next_is customer number c.args.rows.now xs items at r c.loop-row-test.true (c.loop-row.invariant xs are rows) (ap (is_row_of customer number) (sym c.row-item.is) ∙ sym c.is_row_of.ensures ∙ c.if-is_row_of.true) in
    let held = next_held customer number c.args.rows.now xs items at _ are next in
    absurd (c.in_default.not-Some _ (c.read_stretch.ensures customer number _ _ held.0 held.1 (c.row-item.is ∙ next.row_is)))

pub loop-row-preserved : goal.loop-row-preserved
loop-row-preserved c = λ xs are rows.
    let customer = c.args.name.customer.now in
    let number = c.args.name.number in
    let all = c.args.rows.now in
    let items = c.loop-row.stretches.items in
    let at = c.loop-row.row-index in
    let r = c.row-item.result in
    let has = c.loop-row.invariant xs are rows in
    elim c.if-is_row_of.branch [
      | then-is_row_of+in-Some+in_ok-try_reserve w ↦
          let next = next_is customer number all xs items at r c.loop-row-test.true has (ap (is_row_of customer number) (sym c.row-item.is) ∙ sym c.is_row_of.ensures ∙ w.if-is_row_of.true) in
          let held = next_held customer number all xs items at _ are next in
          let told : Some w.in-Some.stretch ≡ Some (at_place customer number all xs (length items)) = w.in-Some.ensures customer number _ _ held.0 held.1 (c.row-item.is ∙ next.row_is) in
          let same : w.in-Some.stretch ≡ at_place customer number all xs (length items) = cc in
          let pushed : c.if-is_row_of.stretches.items ≡ items ++ w.in-Some.stretch ∷ [] = ap (λ v. v.items) w.stretches-is ∙ w.push_reserved.ensures.items ∙ ap (λ (ys : List Stretch). ys ++ w.in-Some.stretch ∷ []) w.in_ok-try_reserve.ensures.items in
          subst (λ (ys : List Stretch). HasRead customer number all xs ys (at + 1)) (sym pushed) (read_more customer number all xs items at _ w.in-Some.stretch has next same)
      | else-is_row_of w ↦
          subst (λ v. HasRead customer number all xs v.items (at + 1)) (sym w.stretches-is)
          (passed_over customer number all xs items at r c.loop-row-test.true has (ap (is_row_of customer number) (sym c.row-item.is) ∙ sym c.is_row_of.ensures ∙ w.if-is_row_of.false))
    ]

pub returns : goal.returns
returns c = λ xs are rows. (read_all c.args.name.customer.now c.args.name.number c.args.rows.now xs c.loop-row.stretches.items c.loop-row.row-index c.loop-row-test.false (c.loop-row.invariant xs are rows), tt)
