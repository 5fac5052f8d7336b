use Rattle.std.proofs.Common.{subst, sym}
use Rattle.ledger_tables.specs.Named.{ArePockets}
use Rattle.ledger_tables.specs.Steps.{seen}
use Rattle.ledger_tables.proofs.Stepping.{if_ok_then}
use Rattle.ledger_tables.proofs.PageLookups.{pockets_looked_up, pockets_blamed}
use Rattle.ledger_tables.proofs.open_tables.OpenTables.find_pockets.Goals as goal

pub returns-clause-found : goal.returns-clause-found
returns-clause-found g c clean inside =
    if_ok_then c.all.result _ _ (λ found shown t holds.
    let did = pockets_looked_up (seen g.S.Store c.args.self.now) (seen g.S.Store c.all.new.self) c.args.name.customer.now c.args.name.number shown.0 shown.1 t holds in
    (did.0, subst (λ them. ArePockets them (t.pockets c.args.name.customer.now c.args.name.number)) (sym (shown.2 did.1 did.2)) did.3)) (rw (c.params-to_sql.ensures, c.params-to_sql-2.ensures) at (c.all.ensures.shown clean inside))

pub returns-clause-failed : goal.returns-clause-failed
returns-clause-failed g c clean inside store t has ready =
    pockets_blamed (seen g.S.Store c.args.self.now) (seen g.S.Store c.all.new.self) c.args.name.customer.now c.args.name.number t has ready (rw (c.params-to_sql.ensures, c.params-to_sql-2.ensures) at (c.all.ensures.failed clean inside store))
