use Rattle.std.proofs.Common.{List, All, sym, subst}
use Rattle.cards.specs.declared.decks.Card.{Card}
use Rattle.machine.specs.Run.{State, lines_of, loaded}
use Rattle.ledger_rows.specs.Columns.{HoldsCharacters, IsLine}
use Rattle.ledger_rows.specs.Pockets.{IsPunched}
use Rattle.office.specs.Jobs.{all_off}
use Rattle.office.specs.declared.stretches.Stretch.{Stretch}
use Rattle.job_checks.specs.Again.{HasResumed}
use Rattle.job_checks.specs.Jobs.{HasComeTo, entry_of}
use Rattle.job_checks.proofs.JobLemmas.{come_to}
use Rattle.job_checks.proofs.told.go_through.Goals as goal

pub of-requires : goal.of-requires
of-requires c =
    let loading = c.in_ok-loaded.ensures.loading in
    let holds = c.machine_holds_characters.ensures in
    let customer = c.args.name.customer.now in
    let number = c.args.name.number in
    let numbers = c.args.numbers in
    let profile = c.args.profile in
    let stretches = c.args.stretches.items in
    let m = c.in_ok-machine.machine in
    let same = c.parts.ensures.picture in
    let came = come_to customer number numbers c.args.deck c.in_ok-loaded.loaded.loaded profile stretches m loading.0
    (subst (λ (xs : List Stretch). HasResumed (loaded c.in_ok-loaded.loaded.loaded numbers.size all_off profile) xs m) c.deref.ensures.value c.in_ok-machine.ensures.resumed)
    (subst (λ (s : State). All IsPunched s.works.units.punch.cards) same holds.cards)
    (subst (λ (s : State). All IsLine (lines_of s)) same holds.lines)
    (subst (λ (s : State). HoldsCharacters s.works.storage) same holds.characters)
    (record { customer = c.requires.customer; number = c.requires.number }) in
    subst (λ (deck : List Card). HasComeTo (entry_of customer number numbers deck profile stretches) m) (sym c.in_ok-loaded.ensures.same) came
