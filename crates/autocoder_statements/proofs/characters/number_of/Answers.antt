use Rattle.std.proofs.Common.{◌≡◌, length, arith}
use Rattle.autocoder_statements.proofs.CharacterLemmas.{number_goes, number_below, number_ends}
use Rattle.autocoder_statements.proofs.characters.number_of.Goals as goal

pub loop-digit-preserved : goal.loop-digit-preserved
loop-digit-preserved c = record {
  number = number_goes c.args.digits.now c.loop-digit.digit-index c.digit-item.result _ _ _ c.loop-digit-test.true c.digit-item.is c.digit_value.ensures.value c.loop-digit.invariant.number;
  below = number_below c.loop-digit.digit-index c.digit_value.result c.loop-digit.number c.digit_value.ensures.below c.loop-digit.invariant.below;
}

pub returns-clause-number : goal.returns-clause-number
returns-clause-number c =
    let e : c.loop-digit.digit-index ≡ length c.args.digits.now = omega arith in
    number_ends c.args.digits.now c.loop-digit.number _ (rw e at c.loop-digit.invariant.number)
