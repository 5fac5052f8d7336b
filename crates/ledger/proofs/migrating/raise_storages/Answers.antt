use Rattle.std.proofs.Common.{◌∙◌, sym, subst, arith}
use Rattle.sqlite.specs.State.{HasCleanDisk}
use Rattle.ledger_tables.specs.Steps.{seen}
use Rattle.ledger_tables.specs.Tables.{HoldsAs, pictured}
use Rattle.ledger_tables.proofs.Frames.{on_ok_then}
use Rattle.ledger.specs.Older.{storages_of, with_first_pages}
use Rattle.ledger.proofs.MigratingPages.{names_are}
use Rattle.ledger.proofs.migrating.raise_storages.Goals as goal

pub returns-clause-raised : goal.returns-clause-raised
returns-clause-raised g c clean inside =
    let mid = seen g.S.Store c.names_pictured.new.self in
    let early : HasCleanDisk mid = omega (arith, c.raise_rows.ensures.step.survives.clean) in
    let on = c.in_ok-rows.ensures.step.frame early inside in
    on_ok_then c.raise_rows.result _ _ (λ raised office all holds.
    let found = c.in_ok-rows.ensures.found early inside (with_first_pages 0 office) (storages_of office) 1 holds in
    raised office all (c.as_slice.ensures.value ∙ found.1 ∙ names_are office) (subst (λ db. HoldsAs (pictured (storages_of office)) 1 db (with_first_pages 0 office)) (sym found.0.0.now_is) holds))
    (c.raise_rows.ensures.raised clean on.inside)
