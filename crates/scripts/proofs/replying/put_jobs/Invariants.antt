use Rattle.std.proofs.Common.{◌≡◌, ◌+◌, ◌++◌, length, take, codes}
use Rattle.std.specs.List.{flat_map}
use Rattle.std.specs.Io.KnownBytes.{Appends}
use Rattle.scripts.specs.Replies.{job_words}
use Rattle.scripts.specs.Sending.{counted}
use Rattle.scripts.proofs.replying.put_jobs.Given as goal

abbrev pub invariant-loop-job : goal.invariant-loop-job
invariant-loop-job g l =
    Appends (g.W.Write.contents l.fn.writer) (g.W.Write.contents l.writer) (codes "jobs" ++ flat_map job_words (take l.job-index l.jobs))
    × (l.sent ≡ counted (l.fn.sent + length (codes "jobs" ++ flat_map job_words (take l.job-index l.jobs))))
