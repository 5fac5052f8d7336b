use Rattle.std.proofs.Common.{◌∙◌, append_assoc}
use Rattle.std.proofs.lemmas.Result.{IfOk-weaker}
use Rattle.http_messages.proofs.Phrases.{head_text}
use Rattle.http_messages.proofs.answers.head.Goals as goal

pub returns : goal.returns
returns c =
    IfOk-weaker c.format.result _ _
    (λ t e. e ∙ ((simp append_assoc) ∙ head_text c.args.status c.args.content_type.now c.args.length c.requires)) c.format.ensures.ok
