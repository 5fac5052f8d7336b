use Rattle.std.proofs.Common.{◌≡◌, map}
use Rattle.queue_rounds.specs.Names.{missing, name_of}
use Rattle.queue_rounds.proofs.ChangeLemmas.{found_with}
use Rattle.queue_rounds.proofs.changes.missing.Given as goal

abbrev pub invariant-loop-job : goal.invariant-loop-job
invariant-loop-job l = found_with name_of l.gone.items l.jobs l.job-index (map name_of l.others) ≡ missing (map name_of l.jobs) (map name_of l.others)
