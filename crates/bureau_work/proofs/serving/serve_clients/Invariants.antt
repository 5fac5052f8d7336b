use Rattle.std.proofs.Common.{◌≤◌, false}
use Rattle.sqlite.specs.Held.{state}
use Rattle.sqlite.specs.View.{doubt}
use Rattle.ledger.specs.Working.{HasWorked}
use Rattle.bureau_work.specs.Visits.{AreTurns}
use Rattle.bureau_work.proofs.serving.serve_clients.Given as goal

abbrev pub invariant-loop : goal.invariant-loop
invariant-loop g l = record {
  works : HasWorked g.S.Store l.fn.bureau.conn l.bureau.conn false (AreTurns g.C.Clients.came g.C.Clients.missed g.C.Clients.went l.counter l.fn.clients l.clients);
  clean : doubt (state g.S.Store l.fn.bureau.conn).is_clean ≤ doubt (state g.S.Store l.bureau.conn).is_clean;
}
