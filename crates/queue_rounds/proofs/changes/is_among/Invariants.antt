use Rattle.std.proofs.Common.{◌≡◌, drop, map}
use Rattle.queue_rounds.specs.Names.{is_among, name_of}
use Rattle.queue_rounds.proofs.changes.is_among.Given as goal

abbrev pub invariant-loop-other : goal.invariant-loop-other
invariant-loop-other l = is_among (map name_of (drop l.other-index l.jobs)) (name_of l.job) ≡ is_among (map name_of l.jobs) (name_of l.job)
