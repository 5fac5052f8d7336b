use Rattle.std.proofs.Common.{[], ◌∷◌, ◌∙◌, ap, codes}
use Rattle.office.specs.Queued.{QueuedJob}
use Rattle.scripts.specs.Replies.{queued_words}
use Rattle.scripts.proofs.SendingLemmas.{part_of_list, queued_item}
use Rattle.scripts.proofs.replying.put_queue.Goals as goal

pub returns-in-Err-put_all : goal.returns-in-Err-put_all
returns-in-Err-put_all g c =
    part_of_list queued_words (codes "queue") (10 ∷ []) c.args.jobs.now c.loop-job.job-index c.job-item.result _ _ _ _ _ _ _ c.loop-job-test.true
    (queued_item c.as_str.result.now c.from.result _
    (c.as_str.ensures.value ∙ ap (λ (q : QueuedJob). q.customer) (c.job.view_is ∙ c.job-item.is)) (c.from.ensures ∙ ap (λ (q : QueuedJob). q.number) (c.job.view_is ∙ c.job-item.is)))
    c.loop-job.invariant.0 c.loop-job.invariant.1 c.in-Err-put_all.ensures
