use Rattle.std.proofs.Common.{[], subst, sym}
use Rattle.sqlite.specs.Held.{state}
use Rattle.sqlite.specs.State.{HasCleanDisk}
use Rattle.office_tables.specs.Standing.{Stands}
use Rattle.ledger_files.proofs.MakingLemmas.{opened_empty}
use Rattle.ledger_files.proofs.making.created.Goals as goal

pub returns-in-Ok-clause-made : goal.returns-in-Ok-clause-made
returns-in-Ok-clause-made g c clean opens live none =
    subst (λ h. Stands (state g.S.Store h) []) (sym c.into_connection.ensures)
    (c.in-Ok.ensures.made (subst (λ h. HasCleanDisk (state g.S.Store h)) c.into_connection.ensures clean) (opened_empty (state g.S.Store c.args.conn) opens live none))
