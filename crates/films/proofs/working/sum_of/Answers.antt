use Rattle.std.proofs.Common.{◌∙◌, arith}
use Rattle.films.proofs.WorkLemmas.{sum_high, sum_low}
use Rattle.films.proofs.working.sum_of.Goals as goal

pub returns-then-number-lt8 : goal.returns-then-number-lt8
returns-then-number-lt8 c =
    c.number-then-number-lt8.ensures.same ∙ sum_low c.args.first (omega (arith, c.if-number-lt8.true, c.number.ensures.same))

pub returns-else-number-lt8 : goal.returns-else-number-lt8
returns-else-number-lt8 c =
    sum_high c.args.first (omega (arith, c.if-number-lt8.false, c.number.ensures.same)) (omega (arith, c.number.ensures.same, c.number.ensures.below))
