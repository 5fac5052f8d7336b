use Rattle.std.proofs.Common.{◌≡◌, arith, rules, subst}
use Rattle.sqlite.specs.State.{HasCleanDisk}
use Rattle.core_store.specs.Pages.{cells_of}
use Rattle.ledger_rows.specs.Columns.{HoldsCharacters}
use Rattle.ledger_tables.specs.Schema.{own_version}
use Rattle.ledger_tables.specs.Steps.{seen}
use Rattle.ledger_tables.specs.Tables.{complete}
use Rattle.ledger_tables.proofs.Frames.{on_ok_then}
use Rattle.ledger.specs.Saving.{with_storage}
use Rattle.ledger.proofs.saving.insert_machine.Goals as goal

pub returns-clause-added : goal.returns-clause-added
returns-clause-added g c clean inside =
    let early : HasCleanDisk (seen g.S.Store c.insert_pages.new.tables) = omega (arith, c.insert_state.ensures.step.survives.clean) in
    let on = c.in_ok-insert_pages.ensures.step.frame early inside in
    let storage : cells_of c.machine.inside.core ≡ c.args.machine.now.works.storage = search rules in
    let did = rw storage at (c.in_ok-insert_pages.ensures.added early inside) in
    on_ok_then c.insert_state.result _ _
    (λ more t holds has. more (with_storage c.args.name c.args.machine.now.works.storage t) (did complete own_version t holds has.pages) (has.state, has.profile))
    (c.insert_state.ensures.added clean on.inside)

pub returns-clause-characters : goal.returns-clause-characters
returns-clause-characters g c =
    let same : cells_of c.machine.inside.core ≡ c.args.machine.now.works.storage = search rules in
    subst HoldsCharacters same c.storage_holds_characters.ensures
