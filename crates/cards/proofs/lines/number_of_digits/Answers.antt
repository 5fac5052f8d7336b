use Rattle.std.proofs.Common.{◌∙◌, ap, refl}
use Rattle.bcd.specs.Table.{punches_of}
use Rattle.cards.proofs.LineDigits.{none_first, none_second, none_third, none_punched, one_punched, same_character}
use Rattle.cards.proofs.lines.number_of_digits.Goals as goal

pub returns-in_default-clause-each : goal.returns-in_default-clause-each
returns-in_default-clause-each c code below same = absurd (none_first _ _ _ (c.in_default.ensures.missing refl) code below same)

pub returns-in_default-digit_value-clause-each : goal.returns-in_default-digit_value-clause-each
returns-in_default-digit_value-clause-each c code below same =
    absurd (none_second _ _ _ _ c.in-Some.ensures.found (c.in_default-digit_value.ensures.missing refl) code below same)

pub returns-in_default-digit_value-2-clause-each : goal.returns-in_default-digit_value-2-clause-each
returns-in_default-digit_value-2-clause-each c code below same =
    absurd (none_third _ _ _ _ c.in-Some.ensures.found _ c.in-Some-digit_value.ensures.found (c.in_default-digit_value-2.ensures.missing refl) code below same)

pub returns-in-None-clause-each : goal.returns-in-None-clause-each
returns-in-None-clause-each c code below same =
    absurd (none_punched _ _ _ _ c.in-Some.ensures.found _ c.in-Some-digit_value.ensures.found _ c.in-Some-digit_value-2.ensures.found (c.in-None.ensures.missing refl) code below same)

pub returns-in-Some-of_punches-clause-found : goal.returns-in-Some-of_punches-clause-found
returns-in-Some-of_punches-clause-found c below =
    one_punched _ _ _ _ c.in-Some.ensures.found _ c.in-Some-digit_value.ensures.found _ c.in-Some-digit_value-2.ensures.found c.number.result
    (ap punches_of c.number.ensures.same ∙ c.in-Some-of_punches.ensures.found)

pub returns-in-Some-of_punches-clause-each : goal.returns-in-Some-of_punches-clause-each
returns-in-Some-of_punches-clause-each c code below same =
    let is = one_punched _ _ _ _ c.in-Some.ensures.found _ c.in-Some-digit_value.ensures.found _ c.in-Some-digit_value-2.ensures.found c.number.result
    (ap punches_of c.number.ensures.same ∙ c.in-Some-of_punches.ensures.found) in
    same_character c.number.result code _ c.number.ensures.below below is same
