use Rattle.std.proofs.Common.{subst, OnOk}
use Rattle.ledger_tables.specs.Reading.{Runs}
use Rattle.ledger_tables.specs.Steps.{seen}
use Rattle.ledger_tables.proofs.Frames.{on_ok_then}
use Rattle.ledger_tables.proofs.ReadTexts.{update_page}
use Rattle.ledger_tables.proofs.InsertStatement.{bind, no_more}
use Rattle.ledger_tables.proofs.PageUpdates.{page_replaced}
use Rattle.ledger_tables.proofs.open_tables.OpenTables.replace_page.Goals as goal

pub returns-clause-replaced : goal.returns-clause-replaced
returns-clause-replaced g c clean inside =
    let old = seen g.S.Store c.args.self.now in
    let new = seen g.S.Store c.run.new.self in
    let bound = subst (λ params. OnOk c.run.result (Runs update_page params old new)) (bind _ _ _ _ c.params-to_sql.ensures (bind _ _ _ _ c.params-to_sql-2.ensures (bind _ _ _ _ c.params-to_sql-3.ensures (bind _ _ _ _ c.params-to_sql-4.ensures no_more)))) (c.run.ensures.ran clean inside) in
    on_ok_then c.run.result _ _ (λ ran. page_replaced c.args.name.customer.now c.args.name.number c.args.page c.args.storage.now old new ran.0 ran.1) bound
