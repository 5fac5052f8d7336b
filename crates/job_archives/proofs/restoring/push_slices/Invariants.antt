use Rattle.std.proofs.Common.{◌≡◌, ◌++◌}
use Rattle.job_archives.specs.Restoring.{slices}
use Rattle.job_archives.proofs.restoring.push_slices.Given as goal

abbrev pub invariant-loop-slice : goal.invariant-loop-slice
invariant-loop-slice l = l.out.items ≡ l.fn.out.items ++ slices l.run l._slice
