use Rattle.ledger_tables.specs.Steps.{seen}
use Rattle.ledger_tables.proofs.Frames.{on_ok_then}
use Rattle.ledger_tables.proofs.RaisingTables.{made_dropped, pictures_dropped}
use Rattle.ledger_tables.proofs.open_tables.OpenTables.drop_pictures.Goals as goal

pub returns-clause-made : goal.returns-clause-made
returns-clause-made g c clean inside =
    on_ok_then c.run.result _ _ (λ ran made. made_dropped (seen g.S.Store c.args.self.now) (seen g.S.Store c.run.new.self) ran.0 ran.1 made) (c.run.ensures.ran clean inside)

pub returns-clause-dropped : goal.returns-clause-dropped
returns-clause-dropped g c clean inside =
    on_ok_then c.run.result _ _ (λ ran t storages version holds. pictures_dropped (seen g.S.Store c.args.self.now) (seen g.S.Store c.run.new.self) ran.0 ran.1 t storages version holds) (c.run.ensures.ran clean inside)
