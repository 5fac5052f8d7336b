use Rattle.std.proofs.Common.{arith}
use Rattle.card_forms.proofs.ImageColumns.{lower_wrong, upper_wrong}
use Rattle.card_forms.proofs.columns.split_bits.Goals as goal

pub returns-then-upper-ge64-clause-none : goal.returns-then-upper-ge64-clause-none
returns-then-upper-ge64-clause-none c =
    upper_wrong c.args.bytes.now c.in-Some.rest.now c.in-Some.upper c.in-Some.lower c.in-Some.ensures.found (omega (arith, c.if-upper-ge64.true))

pub returns-then-lower-ge64-clause-none : goal.returns-then-lower-ge64-clause-none
returns-then-lower-ge64-clause-none c =
    lower_wrong c.args.bytes.now c.in-Some.rest.now c.in-Some.upper c.in-Some.lower c.in-Some.ensures.found (omega (arith, c.if-lower-ge64.true))
