use Rattle.std.proofs.Common.{◌<◌, arith, rules}
use Rattle.http_messages.proofs.FieldLemmas.{next_value, small}
use Rattle.http_messages.proofs.fields.value_of.Goals as goal

pub overflow_mul-number : goal.overflow_mul-number
overflow_mul-number c =
    let below : c.loop-digit.number < 10000000 = rw c.loop-digit.invariant (small c.args.digits.now c.loop-digit.digit-index c.requires.digits c.requires.short) in
    omega (arith, below)

pub overflow_add-number : goal.overflow_add-number
overflow_add-number c =
    let below : c.loop-digit.number < 10000000 = rw c.loop-digit.invariant (small c.args.digits.now c.loop-digit.digit-index c.requires.digits c.requires.short) in
    search (rules, below)

pub loop-digit-preserved : goal.loop-digit-preserved
loop-digit-preserved c =
    let next = next_value c.args.digits.now c.loop-digit.digit-index c.loop-digit.number c.loop-digit-test.true c.requires.digits c.loop-digit.invariant in
    search (rules, next)
