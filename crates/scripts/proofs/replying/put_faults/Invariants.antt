use Rattle.std.proofs.Common.{◌≡◌, ◌+◌, ◌++◌, length, take, codes}
use Rattle.std.specs.List.{flat_map}
use Rattle.std.specs.Io.KnownBytes.{Appends}
use Rattle.scripts.specs.Replies.{fault_words}
use Rattle.scripts.specs.Sending.{counted}
use Rattle.scripts.proofs.replying.put_faults.Given as goal

abbrev pub invariant-loop-at : goal.invariant-loop-at
invariant-loop-at g l =
    Appends (g.W.Write.contents l.fn.writer) (g.W.Write.contents l.writer) (codes "refused 16" ++ flat_map fault_words (take l.at-index l.faults))
    × (l.sent ≡ counted (l.fn.sent + length (codes "refused 16" ++ flat_map fault_words (take l.at-index l.faults))))
