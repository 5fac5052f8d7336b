use Rattle.ledger_tables.specs.Steps.{seen}
use Rattle.ledger_tables.proofs.Frames.{on_ok_then}
use Rattle.ledger_tables.proofs.ProfileTables.{chosen_set}
use Rattle.ledger_tables.proofs.open_tables.OpenTables.set_chosen.Goals as goal

pub returns-clause-set : goal.returns-clause-set
returns-clause-set g c clean inside =
    on_ok_then c.run.result _ _ (λ ran t holds any. chosen_set c.args.name.customer.now c.args.name.number c.args.chosen (seen g.S.Store c.args.self.now) (seen g.S.Store c.run.new.self) ran.0 ran.1.0 t holds)
    (rw (c.params-to_sql.ensures, c.params-to_sql-2.ensures, c.params-to_sql-3.ensures) at (c.run.ensures.ran clean inside))
