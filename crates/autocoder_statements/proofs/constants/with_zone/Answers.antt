use Rattle.autocoder_statements.proofs.ConstantLemmas.{zoned_is}
use Rattle.autocoder_statements.proofs.constants.with_zone.Goals as goal

pub returns-clause-text : goal.returns-clause-text
returns-clause-text c =
    zoned_is c.args.zone c.args.digits.now _ _ _ _ _ c.requires.some
    c.of.ensures c.copy_from_slice.ensures.after c.digit_under.ensures.character c.digit_value.ensures.value c.index-digits-last.is
