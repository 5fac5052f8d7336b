use Rattle.std.proofs.Common.{Err, ap}
use Rattle.exchanges.proofs.ApplyingLemmas.{only_memory}
use Rattle.exchanges.proofs.steps.carry_out.Goals as goal

pub returns-in-Ok-write_reply-clause-step : goal.returns-in-Ok-write_reply-clause-step
returns-in-Ok-write_reply-clause-step g c = (c.in-Ok.reply, c.in-Ok.ensures.reply, c.is_refusal-refused.ensures, c.in-Ok-write_reply.ensures)

pub returns-in-Ok-clause-step : goal.returns-in-Ok-clause-step
returns-in-Ok-clause-step g c = (c.in-Ok.reply, c.in-Ok.ensures.reply, c.is_refusal-refused.ensures, c.in-Err-write_reply.ensures)

pub returns-clause-step : goal.returns-clause-step
returns-clause-step g c = (λ other clean office s. c.in-Err.ensures.no_memory clean (ap Err (only_memory c.in-Err.fault other)) office s, c.report.ensures)
