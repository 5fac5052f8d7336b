use Rattle.std.proofs.Common.{arith}
use Rattle.addresses.specs.Addresses.{base, weighed}
use Rattle.addresses.proofs.TableLemmas.{first_at, first_most, first_below, second_at, second_most, second_below, third_at, third_most, third_below, spells}
use Rattle.addresses.proofs.tables.base.Goals as goal

pub overflow_add-result : goal.overflow_add-result
overflow_add-result c =
    omega (arith, first_most c.number.result c.number.ensures.below, second_most c.number-2.result c.number-2.ensures.below)

pub overflow_add-result-2 : goal.overflow_add-result-2
overflow_add-result-2 c =
    omega (arith, first_most c.number.result c.number.ensures.below, second_most c.number-2.result c.number-2.ensures.below, third_most c.number-3.result c.number-3.ensures.below)

pub returns : goal.returns
unfolding base
returns c =
    let first = rw c.number.ensures.same at c.number.ensures.below in
    let second = rw c.number-2.ensures.same at c.number-2.ensures.below in
    let third = rw c.number-3.ensures.same at c.number-3.ensures.below in
    rw (c.number.ensures.same, c.number-2.ensures.same, c.number-3.ensures.same)
    (spells (weighed 100 1000 c.args.first) (weighed 10 0 c.args.second) (weighed 1 4000 c.args.third) _ _ _
    (first_at c.args.first first) (second_at c.args.second second) (third_at c.args.third third)
    (first_below c.args.first first) (second_below c.args.second second) (third_below c.args.third third))
