use Rattle.std.proofs.Common.{◌≡◌, ◌≤◌, take, filter, length}
use Rattle.job_archives.specs.Parts.{is_theirs}
use Rattle.job_archives.proofs.customers.are_theirs.Given as goal

abbrev pub invariant-loop-place : goal.invariant-loop-place
invariant-loop-place l = (take l.at l.second ≡ filter (is_theirs l.customers) (take l.place l.first)) × (l.at ≤ length l.second)
