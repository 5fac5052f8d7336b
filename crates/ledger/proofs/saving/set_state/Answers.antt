use Rattle.std.proofs.Common.{◌≡◌, rules, subst}
use Rattle.core_store.specs.Pages.{cells_of}
use Rattle.ledger_rows.specs.Columns.{HoldsCharacters}
use Rattle.ledger.proofs.saving.set_state.Goals as goal

pub returns-clause-characters : goal.returns-clause-characters
returns-clause-characters g c =
    let same : cells_of c.machine.inside.core ≡ c.args.machine.now.works.storage = search rules in
    subst HoldsCharacters same c.storage_holds_characters.ensures
