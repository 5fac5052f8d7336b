use Rattle.ledger_tables.specs.Steps.{seen}
use Rattle.ledger_tables.proofs.Frames.{on_ok_then}
use Rattle.ledger_tables.proofs.RaisingTables.{profiles_copied}
use Rattle.ledger_tables.proofs.open_tables.OpenTables.copy_profiles.Goals as goal

pub returns-clause-copied : goal.returns-clause-copied
returns-clause-copied g c clean inside =
    on_ok_then c.run.result _ _ (λ ran t version holds. profiles_copied (seen g.S.Store c.args.self.now) (seen g.S.Store c.run.new.self) ran.0 ran.1 t version holds) (c.run.ensures.ran clean inside)
