use Rattle.std.proofs.Common.{subst}
use Rattle.httparse.specs.Spans.{header_bytes}
use Rattle.queue_rounds.specs.Responses.{IsNumberIn}
use Rattle.queue_rounds.proofs.ResponseLemmas.{next_is, next_other, none_left, true_is, false_is}
use Rattle.queue_rounds.proofs.responses.stated_length.Goals as goal

pub returns-then-eq_ignore_ascii_case : goal.returns-then-eq_ignore_ascii_case
returns-then-eq_ignore_ascii_case c =
    c.loop-field.invariant c.number_in.result
    (next_is (header_bytes c.args.bytes.now) c.args.fields.now c.loop-field.field-index _ c.number_in.result c.loop-field-test.true
    (true_is _ _ c.eq_ignore_ascii_case.result c.of.ensures c.if-eq_ignore_ascii_case.true c.eq_ignore_ascii_case.ensures.test.0)
    (subst (λ text. IsNumberIn text c.number_in.result) c.of-then-eq_ignore_ascii_case.ensures c.number_in.ensures))

pub loop-field-preserved : goal.loop-field-preserved
loop-field-preserved c = λ it states.
    c.loop-field.invariant it
    (next_other (header_bytes c.args.bytes.now) c.args.fields.now c.loop-field.field-index _ it c.loop-field-test.true
    (false_is _ _ c.eq_ignore_ascii_case.result c.of.ensures c.if-eq_ignore_ascii_case.false c.eq_ignore_ascii_case.ensures.test.1) states)

pub returns : goal.returns
returns c = c.loop-field.invariant _ (none_left (header_bytes c.args.bytes.now) c.args.fields.now c.loop-field.field-index c.loop-field-test.false)
