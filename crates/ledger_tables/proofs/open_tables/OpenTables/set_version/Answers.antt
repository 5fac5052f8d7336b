use Rattle.ledger_tables.specs.Steps.{seen}
use Rattle.ledger_tables.proofs.Frames.{on_ok_then}
use Rattle.ledger_tables.proofs.RaisingTables.{version_set}
use Rattle.ledger_tables.proofs.open_tables.OpenTables.set_version.Goals as goal

pub returns-clause-set : goal.returns-clause-set
returns-clause-set g c clean inside =
    on_ok_then c.run.result _ _ (λ ran t version holds. version_set (seen g.S.Store c.args.self.now) (seen g.S.Store c.run.new.self) ran.0 ran.1 t version holds) (rw c.params-to_sql.ensures at (c.run.ensures.ran clean inside))
