use Rattle.std.proofs.Common.{List, ℕ, [], ◌∷◌, ◌++◌, ◌∙◌, ap, append-nil, codes, decimal}
use Rattle.scripts.specs.Replies.{job_words}
use Rattle.scripts.proofs.SendingLemmas.{part_of_list}
use Rattle.scripts.proofs.replying.put_jobs.Goals as goal

pub returns-in-Err-put_all : goal.returns-in-Err-put_all
returns-in-Err-put_all g c =
    part_of_list job_words (codes "jobs") (10 ∷ []) c.args.jobs.now c.loop-job.job-index _ _ _ _ _ _ _ _ c.loop-job-test.true
    (ap (λ (n : ℕ). 32 ∷ (decimal n ++ [])) c.from.ensures ∙ ap (λ (l : List ℕ). 32 ∷ l) (append-nil _))
    c.loop-job.invariant.0 c.loop-job.invariant.1 c.in-Err-put_all.ensures
