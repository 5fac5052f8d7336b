use Rattle.std.proofs.Common.{sym, ◌∙◌}
use Rattle.ledger_tables.specs.Steps.{seen}
use Rattle.ledger.proofs.SavingPockets.{no_pocket_put}
use Rattle.ledger.proofs.saving.insert_pocket.Goals as goal

pub returns-in-None-clause-added : goal.returns-in-None-clause-added
returns-in-None-clause-added g c clean inside t holds free =
    no_pocket_put (seen g.S.Store c.args.tables.now).now t c.args.name.customer.now c.args.name.number c.args.place c.args.pocket (sym c.pocket_cell.ensures ∙ c.in-None.is) free holds
