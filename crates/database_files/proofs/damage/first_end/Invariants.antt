use Rattle.std.proofs.Common.{◌≡◌}
use Rattle.sqlite_wal.specs.Reads.{IsClean, OnlyReads}
use Rattle.database_files.specs.Damage.{EndsNone}
use Rattle.database_files.proofs.damage.first_end.Given as goal

abbrev pub invariant-loop-at : goal.invariant-loop-at
invariant-loop-at g l =
    OnlyReads g.D.Disk l.fn.log l.log
    × (g.D.Disk.faults l.log ≡ g.D.Disk.faults l.fn.log)
    × (IsClean g.D.Disk l.log → EndsNone (g.D.Disk.seen l.fn.log) l.frames l.at)
