use Rattle.std.proofs.Common.{◌≡◌, ◌∙◌, rules, sym}
use Rattle.std.specs.Fmt.{digits}
use Rattle.http_messages.specs.Fixed.{refusing_status}
use Rattle.http_messages.proofs.FixedStatuses.{answer_at, answer_else}
use Rattle.http_messages.proofs.fixed.refusal_answer.Goals as goal

pub returns-in-404 : goal.returns-in-404
unfolding digits
returns-in-404 c = answer_at c.args.status 404 (sym c.as_u16.ensures.value ∙ c.in-404.is)

pub returns-in-405 : goal.returns-in-405
unfolding digits
returns-in-405 c = answer_at c.args.status 405 (sym c.as_u16.ensures.value ∙ c.in-405.is)

pub returns-in-411 : goal.returns-in-411
unfolding digits
returns-in-411 c = answer_at c.args.status 411 (sym c.as_u16.ensures.value ∙ c.in-411.is)

pub returns-in-413 : goal.returns-in-413
unfolding digits
returns-in-413 c = answer_at c.args.status 413 (sym c.as_u16.ensures.value ∙ c.in-413.is)

pub returns-in-431 : goal.returns-in-431
unfolding digits
returns-in-431 c = answer_at c.args.status 431 (sym c.as_u16.ensures.value ∙ c.in-431.is)

pub returns-in_default : goal.returns-in_default
unfolding digits
returns-in_default c =
    let other : refusing_status c.args.status ≡ 400 = search rules in
    answer_else c.args.status other
