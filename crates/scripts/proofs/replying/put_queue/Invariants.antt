use Rattle.std.proofs.Common.{◌≡◌, ◌+◌, ◌++◌, length, take, codes}
use Rattle.std.specs.List.{flat_map}
use Rattle.std.specs.Io.KnownBytes.{Appends}
use Rattle.scripts.specs.Replies.{queued_words}
use Rattle.scripts.specs.Sending.{counted}
use Rattle.scripts.proofs.replying.put_queue.Given as goal

abbrev pub invariant-loop-job : goal.invariant-loop-job
invariant-loop-job g l =
    Appends (g.W.Write.contents l.fn.writer) (g.W.Write.contents l.writer) (codes "queue" ++ flat_map queued_words (take l.job-index l.jobs))
    × (l.sent ≡ counted (l.fn.sent + length (codes "queue" ++ flat_map queued_words (take l.job-index l.jobs))))
