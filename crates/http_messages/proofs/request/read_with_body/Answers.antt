use Rattle.std.proofs.Common.{List, ℕ, subst}
use Rattle.http_messages.specs.Asking.{IsAskedBy}
use Rattle.http_messages.proofs.RequestReads.{asked_with}
use Rattle.http_messages.proofs.request.read_with_body.Goals as goal

pub returns-in_ok-request_for-in-Whole-clause-request : goal.returns-in_ok-request_for-in-Whole-clause-request
returns-in_ok-request_for-in-Whole-clause-request g c =
    let body = c.in_ok-bytes in
    asked_with _ c.args.begun.now c.args.asked c.args.count body.field-0 c.in-Whole.bytes c.in_ok-request_for-in-Whole.field-0 c.in-Whole.is body.ensures.body
    (subst (λ (bytes : List ℕ). IsAskedBy c.args.asked bytes c.in_ok-request_for-in-Whole.field-0) c.deref.ensures.value c.in_ok-request_for-in-Whole.ensures)
