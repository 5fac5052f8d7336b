use Rattle.std.proofs.Common.{arith, unwrap_or}
use Rattle.card_tools.proofs.NumberLaw.{within_eight}
use Rattle.card_tools.proofs.checking.number_of.Goals as goal

pub number_on-number-requires : goal.number_on-number-requires
number_on-number-requires c =
    within_eight c.loop-code.code-index (unwrap_or c.loop-code.number 0) (omega (arith, c.requires)) c.loop-code.invariant.within
