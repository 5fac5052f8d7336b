use Rattle.std.proofs.Common.{◌≡◌, ◌≤◌}
use Rattle.sqlite.specs.Held.{state}
use Rattle.sqlite.specs.View.{doubt}
use Rattle.job_checks.specs.Tables.{LeavesLess}
use Rattle.job_archives.proofs.filling.put_all.Given as goal

abbrev pub invariant-loop-some : goal.invariant-loop-some
invariant-loop-some g l = record {
  file : l.file.conn.ghost_name ≡ l.fn.file.conn.ghost_name;
  left : LeavesLess (state g.S.Store l.fn.file.conn.now) (state g.S.Store l.file.conn.now);
  clean : doubt (state g.S.Store l.fn.file.conn.now).is_clean ≤ doubt (state g.S.Store l.file.conn.now).is_clean;
}
