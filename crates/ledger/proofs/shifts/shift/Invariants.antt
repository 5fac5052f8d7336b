use Rattle.std.proofs.Common.{◌≡◌, ◌≤◌, length, take, IsTrue}
use Rattle.machine.specs.Run.{risen}
use Rattle.sqlite.specs.State.{HasCleanDisk}
use Rattle.sqlite.specs.Held.{state}
use Rattle.sqlite.specs.View.{doubt}
use Rattle.office.specs.Meters.{RisenAtMost}
use Rattle.office.specs.Office.{Office, fold}
use Rattle.office_tables.specs.Standing.{Stands}
use Rattle.ledger.specs.Meters.{attempted_by_all}
use Rattle.ledger.specs.Shifting.{limit_of_all}
use Rattle.ledger.proofs.shifts.shift.Given as goal

abbrev pub invariant-loop-command : goal.invariant-loop-command
invariant-loop-command g l = record {
  count : length l.replies.items ≡ l.command-index;
  stands : HasCleanDisk (state g.S.Store l.bureau.conn) → (office : Office) → Stands (state g.S.Store l.fn.bureau.conn) office
      → Stands (state g.S.Store l.bureau.conn) (fold (take l.command-index l.commands) office).0 × (l.replies.items ≡ (fold (take l.command-index l.commands) office).1)
      × (l.meter ≡ risen l.fn.meter (attempted_by_all (take l.command-index l.commands) office));
  most : RisenAtMost (limit_of_all (take l.command-index l.commands)) l.fn.meter l.meter;
  kept : l.bureau.broken ≡ l.fn.bureau.broken;
  untouched : IsTrue l.fn.bureau.broken → (l.command-index ≡ 0) × (l.bureau ≡ l.fn.bureau) × (l.meter ≡ l.fn.meter);
  clean : doubt (state g.S.Store l.fn.bureau.conn).is_clean ≤ doubt (state g.S.Store l.bureau.conn).is_clean;
}
