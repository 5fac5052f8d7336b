use Rattle.std.proofs.Common.{refl}
use Rattle.card_forms.proofs.ImageColumns.{digits_begin, first_wrong, second_wrong, third_wrong}
use Rattle.card_forms.proofs.columns.split_digits.Goals as goal

pub returns-in_default-clause-none : goal.returns-in_default-clause-none
returns-in_default-clause-none c = first_wrong c.args.bytes.now (c.in_default.ensures.none refl)

pub returns-in_default-split_digit-clause-none : goal.returns-in_default-split_digit-clause-none
returns-in_default-split_digit-clause-none c =
    second_wrong c.args.bytes.now c.in-Some.rest.now c.in-Some.high c.in-Some.ensures.digit (c.in_default-split_digit.ensures.none refl)

pub returns-in_default-split_digit-2-clause-none : goal.returns-in_default-split_digit-2-clause-none
returns-in_default-split_digit-2-clause-none c =
    third_wrong c.args.bytes.now c.in-Some.rest.now c.in-Some-split_digit.rest.now c.in-Some.high c.in-Some-split_digit.middle c.in-Some.ensures.digit c.in-Some-split_digit.ensures.digit (c.in_default-split_digit-2.ensures.none refl)

pub returns-clause-column : goal.returns-clause-column
returns-clause-column c =
    digits_begin c.args.bytes.now c.in-Some.rest.now c.in-Some-split_digit.rest.now c.in-Some-split_digit-2.rest.now c.in-Some.high c.in-Some-split_digit.middle c.in-Some-split_digit-2.low c.in-Some.ensures.digit c.in-Some-split_digit.ensures.digit c.in-Some-split_digit-2.ensures.digit
