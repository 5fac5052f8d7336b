use Rattle.std.proofs.Common.{◌∙◌, refl}
use Rattle.std.proofs.lemmas.Result.{err_from_is_err_and}
use Rattle.cards.proofs.FormColumns.{first_wrong, second_wrong, third_wrong, first_error, second_error, third_error, column_found, column_missing, whole_column}
use Rattle.cards.proofs.forms.split_punches.Goals as goal

pub returns-in_err-high-clause-none : goal.returns-in_err-high-clause-none
returns-in_err-high-clause-none c =
    let returned = err_from_is_err_and c.from_residual.result c.from_residual.ensures.1 in
    rw returned.1 (first_wrong _ c.in_err-high.ensures.none)

pub returns-in_err-high-clause-error : goal.returns-in_err-high-clause-error
returns-in_err-high-clause-error c =
    let returned = err_from_is_err_and c.from_residual.result c.from_residual.ensures.1 in
    rw returned.1 (returned.2 ∙ c.in_err-high.ensures.error ∙ first_error _ c.in_err-high.ensures.none)

pub returns-in_err-middle-clause-none : goal.returns-in_err-middle-clause-none
returns-in_err-middle-clause-none c =
    let returned = err_from_is_err_and c.from_residual-in_err-middle.result c.from_residual-in_err-middle.ensures.1 in
    rw returned.1 (second_wrong _ _ _ c.in_ok-high.ensures.digit c.in_err-middle.ensures.none)

pub returns-in_err-middle-clause-error : goal.returns-in_err-middle-clause-error
returns-in_err-middle-clause-error c =
    let returned = err_from_is_err_and c.from_residual-in_err-middle.result c.from_residual-in_err-middle.ensures.1 in
    let error = second_error _ _ _ c.in_ok-high.ensures.digit c.in_err-middle.ensures.none in
    rw returned.1 (returned.2 ∙ c.in_err-middle.ensures.error ∙ error)

pub returns-in_err-low-clause-none : goal.returns-in_err-low-clause-none
returns-in_err-low-clause-none c =
    let returned = err_from_is_err_and c.from_residual-in_err-low.result c.from_residual-in_err-low.ensures.1 in
    rw returned.1
    (third_wrong _ _ _ _ _ c.in_ok-high.ensures.digit c.in_ok-middle.ensures.digit c.in_err-low.ensures.none)

pub returns-in_err-low-clause-error : goal.returns-in_err-low-clause-error
returns-in_err-low-clause-error c =
    let returned = err_from_is_err_and c.from_residual-in_err-low.result c.from_residual-in_err-low.ensures.1 in
    let error = third_error _ _ _ _ _ c.in_ok-high.ensures.digit c.in_ok-middle.ensures.digit in
    rw returned.1 (returned.2 ∙ c.in_err-low.ensures.error ∙ error)

pub returns-in-Some-clause-column : goal.returns-in-Some-clause-column
returns-in-Some-clause-column c = (
  c.in-Some.ensures.below,
  column_found _ _ _ _ _ _ _ _ c.in_ok-high.ensures.digit c.in_ok-middle.ensures.digit c.in_ok-low.ensures.digit c.in-Some.ensures.found,
)

pub returns-in-None-clause-none : goal.returns-in-None-clause-none
returns-in-None-clause-none c =
    column_missing _ _ _ _ _ _ _ c.in_ok-high.ensures.digit c.in_ok-middle.ensures.digit c.in_ok-low.ensures.digit
    (c.in-None.ensures.missing refl)

pub returns-in-None-clause-error : goal.returns-in-None-clause-error
returns-in-None-clause-error c =
    whole_column _ _ _ _ _ _ _ c.in_ok-high.ensures.digit c.in_ok-middle.ensures.digit c.in_ok-low.ensures.digit
