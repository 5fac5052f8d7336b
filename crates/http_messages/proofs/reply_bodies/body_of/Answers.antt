use Rattle.std.proofs.Common.{◌∙◌, ap, sym}
use Rattle.std.proofs.lemmas.Result.{IfOk-weaker}
use Rattle.http_messages.specs.ReplyBodies.{body_of}
use Rattle.http_messages.proofs.BodyTexts.{taken_is, ran_is, started_is, held_is, released_is, collected_is, summary_is, jobs_is, queue_is}
use Rattle.http_messages.proofs.reply_bodies.body_of.Goals as goal

pub returns-in_ok-taken_reply-in-Taken : goal.returns-in_ok-taken_reply-in-Taken
returns-in_ok-taken_reply-in-Taken c = λ _. IfOk-weaker c.text_of.result _ _
    (λ text found. taken_is _ _ _ c.in_ok-taken_reply-in-Taken.ensures found ∙ ap body_of (sym c.in-Taken.is)) c.text_of.ensures

pub returns-in_ok-ran_reply-in-Ran : goal.returns-in_ok-ran_reply-in-Ran
returns-in_ok-ran_reply-in-Ran c = λ _. IfOk-weaker c.text_of-in-Ran.result _ _
    (λ text found. ran_is _ _ _ _ c.in_ok-ran_reply-in-Ran.ensures found ∙ ap body_of (sym c.in-Ran.is)) c.text_of-in-Ran.ensures

pub returns-in_ok-named_reply-in-Started : goal.returns-in_ok-named_reply-in-Started
returns-in_ok-named_reply-in-Started c = λ _. IfOk-weaker c.text_of-in-Started.result _ _
    (λ text found. started_is _ _ c.in_ok-named_reply-in-Started.ensures found ∙ ap body_of (sym c.in-Started.is)) c.text_of-in-Started.ensures

pub returns-in_ok-named_reply-in-Held : goal.returns-in_ok-named_reply-in-Held
returns-in_ok-named_reply-in-Held c = λ _. IfOk-weaker c.text_of-in-Held.result _ _
    (λ text found. held_is _ _ c.in_ok-named_reply-in-Held.ensures found ∙ ap body_of (sym c.in-Held.is)) c.text_of-in-Held.ensures

pub returns-in_ok-named_reply-in-Released : goal.returns-in_ok-named_reply-in-Released
returns-in_ok-named_reply-in-Released c = λ _. IfOk-weaker c.text_of-in-Released.result _ _
    (λ text found. released_is _ _ c.in_ok-named_reply-in-Released.ensures found ∙ ap body_of (sym c.in-Released.is)) c.text_of-in-Released.ensures

pub returns-in_ok-collected_reply-in-Collected : goal.returns-in_ok-collected_reply-in-Collected
returns-in_ok-collected_reply-in-Collected c = λ _. IfOk-weaker c.text_of-in-Collected.result _ _
    (λ text found. collected_is _ _ _ _ c.in_ok-collected_reply-in-Collected.ensures found ∙ ap body_of (sym c.in-Collected.is)) c.text_of-in-Collected.ensures

pub returns-in_ok-summary-in-Standing : goal.returns-in_ok-summary-in-Standing
returns-in_ok-summary-in-Standing c = λ _. IfOk-weaker c.text_of-in-Standing.result _ _
    (λ text found. summary_is _ _ _ c.in_ok-summary-in-Standing.ensures found ∙ ap body_of (sym c.in-Standing.is)) c.text_of-in-Standing.ensures

pub returns-in_ok-jobs-in-Jobs : goal.returns-in_ok-jobs-in-Jobs
returns-in_ok-jobs-in-Jobs c = λ _. IfOk-weaker c.text_of-in-Jobs.result _ _
    (λ text found. jobs_is _ _ _ c.in_ok-jobs-in-Jobs.ensures found ∙ ap body_of (sym c.in-Jobs.is)) c.text_of-in-Jobs.ensures

pub returns-in_ok-queue-in-Queue : goal.returns-in_ok-queue-in-Queue
returns-in_ok-queue-in-Queue c = λ _. IfOk-weaker c.text_of-in-Queue.result _ _
    (λ text found. queue_is _ _ _ c.in_ok-queue-in-Queue.ensures found ∙ ap body_of (sym c.in-Queue.is)) c.text_of-in-Queue.ensures
