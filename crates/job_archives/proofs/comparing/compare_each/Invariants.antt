use Rattle.std.proofs.Common.{◌≡◌, ◌≤◌, IsTrue, take}
use Rattle.std.specs.List.{AllByRecursion}
use Rattle.sqlite.specs.Held.{state}
use Rattle.sqlite.specs.State.{HasCleanDisk, IsUnchanged}
use Rattle.sqlite.specs.View.{doubt}
use Rattle.ledger_tables.specs.Schema.{bureau_schema}
use Rattle.job_checks.specs.Tables.{IsBureaus, LeavesLess}
use Rattle.job_archives.specs.Copies.{IsSameJob}
use Rattle.job_archives.proofs.comparing.compare_each.Given as goal

abbrev pub invariant-loop-job : goal.invariant-loop-job
invariant-loop-job g l = record {
  first : l.first.conn.ghost_name ≡ l.fn.first.conn.ghost_name;
  second : l.second.conn.ghost_name ≡ l.fn.second.conn.ghost_name;
  left : LeavesLess (state g.S.Store l.fn.first.conn.now) (state g.S.Store l.first.conn.now);
  copy_left : LeavesLess (state g.T.Store l.fn.second.conn.now) (state g.T.Store l.second.conn.now);
  clean : doubt (state g.S.Store l.fn.first.conn.now).is_clean ≤ doubt (state g.S.Store l.first.conn.now).is_clean;
  copy_clean : doubt (state g.T.Store l.fn.second.conn.now).is_clean ≤ doubt (state g.T.Store l.second.conn.now).is_clean;
  file_read : HasCleanDisk (state g.S.Store l.first.conn.now) → HasCleanDisk (state g.T.Store l.second.conn.now) → IsTrue (state g.S.Store l.fn.first.conn.now).is_open → IsTrue (state g.T.Store l.fn.second.conn.now).is_open
      → (state g.S.Store l.fn.first.conn.now).now.schema ≡ bureau_schema → (state g.T.Store l.fn.second.conn.now).now.schema ≡ bureau_schema
      → IsUnchanged (state g.S.Store l.fn.first.conn.now) (state g.S.Store l.first.conn.now) × IsUnchanged (state g.T.Store l.fn.second.conn.now) (state g.T.Store l.second.conn.now)
      × (IsBureaus (state g.S.Store l.fn.first.conn.now).now → IsBureaus (state g.T.Store l.fn.second.conn.now).now
      → AllByRecursion (IsSameJob (state g.S.Store l.fn.first.conn.now).now.trees (state g.T.Store l.fn.second.conn.now).now.trees) (take l.job-index l.jobs));
}
