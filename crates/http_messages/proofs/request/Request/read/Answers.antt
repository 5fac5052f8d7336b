use Rattle.http_messages.proofs.RequestReads.{asked_read, refused_request}
use Rattle.http_messages.proofs.request.Request.read.Goals as goal

pub returns-in-Ok-Refused-clause-request : goal.returns-in-Ok-Refused-clause-request
returns-in-Ok-Refused-clause-request g c =
    let on = c.in-Ok-Refused in
    refused_request _ _ c.read-head.result on.field-0 on.status c.refusal.result c.read-head.ensures on.field-0-is on.ensures.verdict c.refusal.ensures.same

pub returns-in-Ok-Asks-clause-request : goal.returns-in-Ok-Asks-clause-request
returns-in-Ok-Asks-clause-request g c =
    let on = c.in-Ok-Asks in
    asked_read _ _ c.read-head.result on.field-0 on.asked on.count on.begun c.read_with_body.result c.read-head.ensures on.field-0-is on.ensures.verdict c.read_with_body.ensures.request
