use Rattle.std.proofs.Common.{◌<◌, List, length, sym, subst}
use Rattle.cards.specs.declared.decks.Card.{Card}
use Rattle.office.proofs.KeepingLaw.{some_loaded}
use Rattle.job_checks.specs.Again.{IsLoading}
use Rattle.job_checks.proofs.again.load.Goals as goal

pub returns-clause-card : goal.returns-clause-card
returns-clause-card c =
    let loads = c.in_ok-loaded.ensures.loads in
    let loading : IsLoading c.args.kind c.args.deck c.in_ok-loaded.loaded = loads.is_loading c.in_ok-deck_bytes.ensures.deck c.in_ok-loaded_bytes.ensures.deck in
    subst (λ (d : List Card). 0 < length d) (sym loads.loaded_is) (some_loaded c.args.kind c.args.deck loading.card)
