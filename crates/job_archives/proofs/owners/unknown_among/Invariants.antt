use Rattle.std.proofs.Common.{take}
use Rattle.std.specs.Prelude.{None}
use Rattle.job_archives.specs.Parts.{IsUnknownAmong}
use Rattle.job_archives.proofs.owners.unknown_among.Given as goal

abbrev pub invariant-loop-name : goal.invariant-loop-name
invariant-loop-name l = IsUnknownAmong (take l.name-index l.names) l.rows None
