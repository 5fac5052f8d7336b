use Rattle.std.proofs.Common.{take}
use Rattle.job_archives.specs.Parts.{IsSharedAmong}
use Rattle.std.specs.Prelude.{None}
use Rattle.job_archives.proofs.owners.shared_among.Given as goal

abbrev pub invariant-loop-row : goal.invariant-loop-row
invariant-loop-row l = IsSharedAmong (take l.row-index l.first) l.second None
