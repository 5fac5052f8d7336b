use Rattle.std.proofs.Common.{[]}
use Rattle.ledger_tables.specs.Steps.{seen}
use Rattle.ledger_tables.proofs.Frames.{on_ok_then}
use Rattle.ledger_tables.proofs.PageTables.{page_removed}
use Rattle.ledger_tables.proofs.open_tables.OpenTables.clear_page.Goals as goal

pub returns-clause-cleared : goal.returns-clause-cleared
returns-clause-cleared g c clean inside =
    on_ok_then c.run.result _ _ (λ ran beside version t holds any. page_removed c.args.name.customer.now c.args.name.number c.args.page [] (seen g.S.Store c.args.self.now) (seen g.S.Store c.run.new.self) ran.0 ran.1 beside version t holds)
    (rw (c.params-to_sql.ensures, c.params-to_sql-2.ensures, c.params-to_sql-3.ensures) at (c.run.ensures.ran clean inside))
