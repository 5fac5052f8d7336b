use Rattle.ledger_tables.specs.Steps.{seen}
use Rattle.ledger_tables.proofs.Stepping.{if_ok_then}
use Rattle.ledger_tables.proofs.RaisingTables.{storage_read}
use Rattle.ledger_tables.proofs.open_tables.OpenTables.find_storage.Goals as goal

pub returns-clause-found : goal.returns-clause-found
returns-clause-found g c clean inside =
    if_ok_then c.one.result _ _ (λ found shown t storages version holds.
    let did = storage_read (seen g.S.Store c.args.self.now) (seen g.S.Store c.one.new.self) c.args.name.customer.now c.args.name.number shown.0 shown.1 t storages version holds in
    (did.0, shown.2 _ did.1)) (rw (c.params-to_sql.ensures, c.params-to_sql-2.ensures) at (c.one.ensures.shown clean inside))
