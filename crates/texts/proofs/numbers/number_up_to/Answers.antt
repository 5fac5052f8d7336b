use Rattle.std.proofs.Common.{◌∙◌, arith, sym}
use Rattle.std.proofs.lemmas.Fmt.{decimal_injective}
use Rattle.texts.proofs.numbers.number_up_to.Goals as goal

pub returns-else-number-most-clause-none : goal.returns-else-number-most-clause-none
returns-else-number-most-clause-none c number some below most e =
    let found = c.in-Some.ensures.some in
    let same = decimal_injective c.in-Some.number number (omega (arith, found.1)) (omega (arith, below)) (sym found.2 ∙ e) in
    absurd (omega (arith, same, most, c.if-number-most))
