use Rattle.std.proofs.Common.{◌≡◌, ◌++◌, [], ◌∷◌, List, ℕ, false, sym, ap, subst, take, ◌∙◌}
use Rattle.std.proofs.lemmas.List.{take_more}
use Rattle.std.specs.List.{AllByRecursion}
use Rattle.sqlite.specs.Order.{Row, column}
use Rattle.sqlite.specs.declared.types.Value.TheVariants.{Text}
use Rattle.job_archives.specs.Parts.{has_row}
use Rattle.job_archives.proofs.CopyLemmas.{all_and_one}
use Rattle.job_archives.proofs.PartLemmas.{row_there, same_name}
use Rattle.job_archives.proofs.owners.shared_among.Goals as goal

pub loop-row-preserved : goal.loop-row-preserved
loop-row-preserved c =
    let i = c.loop-row.row-index in
    let rows = c.args.first.now in
    let row = c.row-item.result in
    let second = c.args.second.now in
    subst (AllByRecursion (λ (it : Row). (customer : List ℕ) → column it 0 ≡ Text customer → has_row customer second ≡ false)) (sym (take_more rows i row c.loop-row-test.true ∙ ap (λ x. take i rows ++ x ∷ []) (sym c.row-item.is)))
    (all_and_one _ (take i rows) row c.loop-row.invariant (λ customer is. same_name second _ customer (c.in_ok-name.ensures.named.0) is (ap (λ (it : List ℕ). has_row it second) (sym c.as_bytes.ensures.value) ∙ sym c.has_row.ensures ∙ c.if-has_row.false)))

pub returns-then-has_row : goal.returns-then-has_row
returns-then-has_row c = (row_there c.args.first.now c.loop-row.row-index _ _ c.loop-row-test.true (ap (λ (it : Row). column it 0) (sym c.row-item.is) ∙ c.in_ok-name.ensures.named.0), ap (λ (it : List ℕ). has_row it c.args.second.now) (sym c.as_bytes.ensures.value) ∙ sym c.has_row.ensures ∙ c.if-has_row.true)
