use Rattle.std.proofs.Common.{◌≡◌, ◌++◌, flat_map, take}
use Rattle.job_archives.specs.Records.{stretch_line}
use Rattle.job_archives.proofs.records.push_stretches.Given as goal

abbrev pub invariant-loop-stretch : goal.invariant-loop-stretch
invariant-loop-stretch l = l.out.items ≡ l.fn.out.items ++ flat_map stretch_line (take l.stretch-index l.stretches)
