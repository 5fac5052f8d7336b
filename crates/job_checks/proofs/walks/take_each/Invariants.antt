use Rattle.std.proofs.Common.{◌≡◌, ◌≤◌, IsTrue, take}
use Rattle.sqlite.specs.Held.{state}
use Rattle.sqlite.specs.State.{HasCleanDisk, IsUnchanged}
use Rattle.sqlite.specs.View.{doubt}
use Rattle.ledger_tables.specs.Schema.{bureau_schema}
use Rattle.job_checks.specs.Tables.{IsBureaus, LeavesLess}
use Rattle.job_checks.specs.Walks.{HasTaken}
use Rattle.job_checks.proofs.walks.take_each.Given as goal

abbrev pub invariant-loop-job : goal.invariant-loop-job
invariant-loop-job g l = record {
  same_reference : l.tx.conn.ghost_name ≡ l.fn.tx.conn.ghost_name;
  left : LeavesLess (state g.S.Store l.fn.tx.conn.now) (state g.S.Store l.tx.conn.now);
  clean : doubt (state g.S.Store l.fn.tx.conn.now).is_clean ≤ doubt (state g.S.Store l.tx.conn.now).is_clean;
  read : HasCleanDisk (state g.S.Store l.tx.conn.now) → IsTrue (state g.S.Store l.fn.tx.conn.now).is_open → (state g.S.Store l.fn.tx.conn.now).now.schema ≡ bureau_schema
      → IsUnchanged (state g.S.Store l.fn.tx.conn.now) (state g.S.Store l.tx.conn.now)
      × (IsBureaus (state g.S.Store l.fn.tx.conn.now).now → HasTaken g.E.EachJob.takes (state g.S.Store l.fn.tx.conn.now).now.trees (take l.job-index l.jobs) l.fn.each l.each);
}
