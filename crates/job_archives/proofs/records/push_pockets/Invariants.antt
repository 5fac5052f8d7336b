use Rattle.std.proofs.Common.{◌≡◌, ◌+◌, ◌++◌, drop}
use Rattle.job_archives.specs.Records.{pocket_lines}
use Rattle.job_archives.proofs.records.push_pockets.Given as goal

abbrev pub invariant-loop-at : goal.invariant-loop-at
invariant-loop-at l = l.out.items ++ pocket_lines (l.at + 1) (drop l.at l.cards) ≡ l.fn.out.items ++ pocket_lines 1 l.cards
