use Rattle.std.proofs.Common.{◌≡◌, arith, rules}
use Rattle.sqlite.specs.State.{HasCleanDisk}
use Rattle.ledger_tables.specs.Schema.{own_version}
use Rattle.ledger_tables.specs.Steps.{seen}
use Rattle.ledger_tables.specs.Tables.{complete}
use Rattle.ledger_tables.proofs.Frames.{on_ok_then}
use Rattle.ledger_tables.proofs.Stepping.{on_any}
use Rattle.core_store.specs.Pages.{cells_of}
use Rattle.ledger.specs.Saving.{with_storage}
use Rattle.ledger.proofs.saving.set_machine.Goals as goal

pub returns-clause-set : goal.returns-clause-set
returns-clause-set g c clean inside =
    let early : HasCleanDisk (seen g.S.Store c.save_pages.new.tables) = omega (arith, c.set_state.ensures.step.survives.clean) in
    let on = c.in_ok-save_pages.ensures.step.frame early inside in
    let storage : cells_of c.machine.inside.core ≡ c.args.machine.now.works.storage = search rules in
    let did = rw storage at (c.in_ok-save_pages.ensures.saved early inside) in
    on_ok_then c.set_state.result _ _
    (λ more t holds has. more (with_storage c.args.name c.args.machine.now.works.storage t) (did complete own_version t holds has.pages) has.state)
    (c.set_state.ensures.set clean on.inside)

pub returns-clause-characters : goal.returns-clause-characters
returns-clause-characters g c = on_any c.set_state.result _ c.set_state.ensures.characters
