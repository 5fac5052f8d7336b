use Rattle.std.proofs.lemmas.Result.{IfOk-weaker}
use Rattle.http_messages.proofs.BodyTexts.{deck_fault_is}
use Rattle.http_messages.proofs.reply_bodies.deck_fault_body.Goals as goal

pub returns : goal.returns
returns c = IfOk-weaker c.text_of.result _ _ (λ text found. deck_fault_is _ _ _ c.in_ok-deck_fault.ensures found) c.text_of.ensures
