use Rattle.ledger_tables.specs.Steps.{seen}
use Rattle.ledger_tables.proofs.Frames.{on_ok_then}
use Rattle.ledger_tables.proofs.PageClears.{blanks_cleared}
use Rattle.ledger_tables.proofs.open_tables.OpenTables.clear_blank_pages.Goals as goal

pub returns-clause-cleared : goal.returns-clause-cleared
returns-clause-cleared g c clean inside =
    on_ok_then c.run.result _ _ (λ ran t version has. blanks_cleared (seen g.S.Store c.args.self.now) (seen g.S.Store c.run.new.self) ran.0 ran.1 t version has) (rw c.params-to_sql.ensures at (c.run.ensures.ran clean inside))
