use Rattle.std.proofs.Common.{◌≡◌, ◌≤◌, false, take as beginning_of}
use Rattle.std.specs.Prelude.{IsTrue}
use Rattle.machine.specs.Run.{risen}
use Rattle.office.specs.Office.{Office}
use Rattle.office_tables.specs.Standing.{Stands}
use Rattle.sqlite.specs.State.{HasCleanDisk}
use Rattle.sqlite.specs.Held.{state}
use Rattle.sqlite.specs.View.{doubt}
use Rattle.ledger.specs.Meters.{attempted_by_all}
use Rattle.exchanges.proofs.ApplyingLemmas.{SoFar}
use Rattle.exchanges.proofs.applying.apply_all.Given as goal

abbrev pub invariant-loop-command : goal.invariant-loop-command
invariant-loop-command g l = record {
  count : l.acknowledged ≡ l.command-index;
  kept : l.bureau.broken ≡ l.fn.bureau.broken;
  clean : doubt (state g.S.Store l.fn.bureau.conn).is_clean ≤ doubt (state g.S.Store l.bureau.conn).is_clean;
  runs : SoFar g.S.Store l.fn.bureau.conn l.bureau.conn l.commands l.acknowledged l.refused (g.W.Write.contents l.fn.writer) (g.W.Write.contents l.writer) l.sent;
  ticks : HasCleanDisk (state g.S.Store l.bureau.conn) → (office : Office) → Stands (state g.S.Store l.fn.bureau.conn) office
      → l.meter ≡ risen l.fn.meter (attempted_by_all (beginning_of l.acknowledged l.commands) office);
  untouched : IsTrue l.fn.bureau.broken → (l.acknowledged ≡ 0) × (l.refused ≡ false) × (l.sent ≡ 0) × (l.bureau ≡ l.fn.bureau) × (l.meter ≡ l.fn.meter)
      × (g.W.Write.contents l.writer ≡ g.W.Write.contents l.fn.writer);
}
