use Rattle.ledger_tables.specs.Steps.{seen}
use Rattle.ledger_tables.proofs.Stepping.{if_ok_then}
use Rattle.ledger_tables.proofs.RaisingTables.{names_read}
use Rattle.ledger_tables.proofs.open_tables.OpenTables.names_pictured.Goals as goal

pub returns-clause-found : goal.returns-clause-found
returns-clause-found g c clean inside =
    if_ok_then c.all.result _ _ (λ found shown t storages version holds.
    let did = names_read (seen g.S.Store c.args.self.now) (seen g.S.Store c.all.new.self) shown.0 shown.1 t storages version holds in
    (did.0, shown.2 _ did.1)) (c.all.ensures.shown clean inside)
