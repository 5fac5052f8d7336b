use Rattle.std.proofs.Common.{subst, sym}
use Rattle.ledger_tables.specs.Listed.{AreRunning}
use Rattle.ledger_tables.specs.Steps.{seen}
use Rattle.ledger_tables.proofs.Stepping.{if_ok_then}
use Rattle.ledger_tables.proofs.RunningLookups.{running_looked_up, running_blamed}
use Rattle.ledger_tables.proofs.open_tables.OpenTables.running_names.Goals as goal

pub returns-clause-found : goal.returns-clause-found
returns-clause-found g c clean inside =
    if_ok_then c.all.result _ _ (λ found shown t holds.
    let did = running_looked_up (seen g.S.Store c.args.self.now) (seen g.S.Store c.all.new.self) shown.0 shown.1 t holds in
    (did.0, subst (λ them. AreRunning them t) (sym (shown.2 did.1 did.2)) did.3)) (c.all.ensures.shown clean inside)

pub returns-clause-failed : goal.returns-clause-failed
returns-clause-failed g c clean inside store t has ready =
    running_blamed (seen g.S.Store c.args.self.now) (seen g.S.Store c.all.new.self) t has ready (c.all.ensures.failed clean inside store)
