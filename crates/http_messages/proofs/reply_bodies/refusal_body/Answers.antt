use Rattle.std.proofs.Common.{◌∙◌, ap, sym}
use Rattle.std.proofs.lemmas.Result.{IfOk-weaker}
use Rattle.http_messages.specs.ReplyBodies.{refusal_body}
use Rattle.http_messages.specs.Values.{refusal_data}
use Rattle.http_messages.proofs.BodyTexts.{faults_is, refusal_is}
use Rattle.http_messages.proofs.reply_bodies.refusal_body.Goals as goal

pub returns-in_ok-faults-in-Assembly : goal.returns-in_ok-faults-in-Assembly
returns-in_ok-faults-in-Assembly c = IfOk-weaker c.text_of.result _ _
    (λ text found. faults_is _ _ _ c.in_ok-faults-in-Assembly.ensures found ∙ ap refusal_body (sym c.in-Assembly.is)) c.text_of.ensures

pub returns-in_ok-refusal-in_default : goal.returns-in_ok-refusal-in_default
returns-in_ok-refusal-in_default c = IfOk-weaker c.text_of-in_default.result _ _
    (λ text found. refusal_is _ c.args.reason.now _ (c.in_ok-refusal-in_default.ensures ∙ ap refusal_data c.number.ensures) c.in_default.not-Assembly found) c.text_of-in_default.ensures
