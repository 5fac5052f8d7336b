use Rattle.std.proofs.Common.{◌≤◌, false}
use Rattle.sqlite.specs.Held.{state}
use Rattle.sqlite.specs.View.{doubt}
use Rattle.ledger.specs.Working.{HasWorked}
use Rattle.bureau_work.specs.Work.{TellsExport}
use Rattle.bureau_work.proofs.exporting.made_by.Given as goal

abbrev pub invariant-loop-ending : goal.invariant-loop-ending
invariant-loop-ending g l = record {
  works : HasWorked g.S.Store l.fn.bureau.conn l.bureau.conn false (TellsExport l.fn.customer l.fn.number);
  clean : doubt (state g.S.Store l.fn.bureau.conn).is_clean ≤ doubt (state g.S.Store l.bureau.conn).is_clean;
}
