use Rattle.ledger_tables.specs.Steps.{seen}
use Rattle.ledger_tables.proofs.Stepping.{if_ok_then}
use Rattle.ledger_tables.proofs.LookupAnswers.{profile_looked_up}
use Rattle.ledger_tables.proofs.FaultQueries.{profile_blamed}
use Rattle.ledger_tables.proofs.open_tables.OpenTables.find_profile.Goals as goal

pub returns-clause-found : goal.returns-clause-found
returns-clause-found g c clean inside =
    if_ok_then c.one.result _ _ (λ found shown t holds.
    let did = profile_looked_up (seen g.S.Store c.args.self.now) (seen g.S.Store c.one.new.self) c.args.name.customer.now c.args.name.number shown.0 shown.1 t holds in
    (did.0, shown.2 _ did.1)) (rw (c.params-to_sql.ensures, c.params-to_sql-2.ensures) at (c.one.ensures.shown clean inside))

pub returns-clause-failed : goal.returns-clause-failed
returns-clause-failed g c clean inside store t has ready =
    profile_blamed (seen g.S.Store c.args.self.now) (seen g.S.Store c.one.new.self) c.args.name.customer.now c.args.name.number t has ready (rw (c.params-to_sql.ensures, c.params-to_sql-2.ensures) at (c.one.ensures.failed clean inside store))
