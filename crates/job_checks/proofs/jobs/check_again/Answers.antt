use Rattle.std.proofs.Common.{◌≡◌, List, All, sym, ap, subst, ◌∙◌}
use Rattle.cards.specs.declared.decks.Card.{Card}
use Rattle.machine.specs.Run.{State, lines_of, loaded}
use Rattle.ledger_rows.specs.Columns.{HoldsCharacters, IsLine}
use Rattle.ledger_rows.specs.Pockets.{IsPunched}
use Rattle.office.specs.Jobs.{all_off}
use Rattle.office.specs.declared.stretches.Stretch.{Stretch}
use Rattle.sqlite.specs.Order.{Row}
use Rattle.job_checks.specs.Again.{HasResumed}
use Rattle.job_checks.specs.Jobs.{HasComeTo, HasRunAs, entry_of}
use Rattle.job_checks.specs.Kept.{HasMachine, rows_of_stretches}
use Rattle.job_checks.specs.Tables.{rows_of, tables_of}
use Rattle.job_checks.proofs.DifferLemmas.{if_differs_any}
use Rattle.job_checks.proofs.JobLemmas.{came_to, come_to, run_as}
use Rattle.job_checks.proofs.jobs.check_again.Goals as goal

pub of-requires : goal.of-requires
of-requires c =
    let loading = c.in_ok-loaded.ensures.loading in
    let made = c.in_ok-check_machine.ensures in
    let all = tables_of c.args.rows.now in
    let customer = c.args.name.customer.now in
    let number = c.args.name.number in
    let numbers = c.args.submitted.numbers in
    let profile = c.args.profile in
    let stretches = c.args.stretches.items in
    let m = c.in_ok-machine.machine in
    let same = c.parts.ensures.picture in
    let came = come_to customer number numbers c.args.submitted.deck c.in_ok-loaded.loaded.loaded profile stretches m loading.0
    (subst (λ (xs : List Stretch). HasResumed (loaded c.in_ok-loaded.loaded.loaded numbers.size all_off profile) xs m) c.deref-3.ensures.value c.in_ok-machine.ensures.resumed)
    (subst (λ (s : State). All IsPunched s.works.units.punch.cards) same made.cards)
    (subst (λ (s : State). All IsLine (lines_of s)) same made.lines)
    (subst (λ (s : State). HoldsCharacters s.works.storage) same made.characters)
    (record { customer = c.requires.lawful_text; number = c.requires.lawful_int }) in
    subst (λ (deck : List Card). HasComeTo (entry_of customer number numbers deck profile stretches) m) (sym c.in_ok-loaded.ensures.same) came

pub returns-clause-kept : goal.returns-clause-kept
returns-clause-kept c =
    let loading = c.in_ok-loaded.ensures.loading in
    let made = c.in_ok-check_machine.ensures in
    let all = tables_of c.args.rows.now in
    let customer = c.args.name.customer.now in
    let number = c.args.name.number in
    let numbers = c.args.submitted.numbers in
    let profile = c.args.profile in
    let stretches = c.args.stretches.items in
    let m = c.in_ok-machine.machine in
    let same = c.parts.ensures.picture in
    let ran = run_as customer number numbers c.args.submitted.deck c.in_ok-loaded.loaded.loaded profile stretches m loading.0
    (subst (λ (xs : List Stretch). HasResumed (loaded c.in_ok-loaded.loaded.loaded numbers.size all_off profile) xs m) c.deref-3.ensures.value c.in_ok-machine.ensures.resumed)
    (subst (λ (s : State). All IsPunched s.works.units.punch.cards) same made.cards)
    (subst (λ (s : State). All IsLine (lines_of s)) same made.lines)
    (subst (λ (s : State). HoldsCharacters s.works.storage) same made.characters)
    all c.args.row.now _ _ loading.1 loading.2 c.in_ok-check_row.ensures.same
    (subst (λ (xs : List Stretch). rows_of customer number all.stretches ≡ rows_of_stretches customer number xs) c.deref-2.ensures.value
    (subst (λ (rows : List Row). rows_of customer number rows ≡ rows_of_stretches customer number c.deref-2.result.now) c.deref.ensures.value c.in_ok-check_stretches.ensures.same))
    (subst (HasMachine customer number all) same made.rows) in
    let is : c.in_ok-run.run' ≡ entry_of customer number numbers c.args.submitted.deck profile stretches =
    c.in_ok-run.ensures ∙ ap (λ (deck : List Card). entry_of customer number numbers deck profile stretches) c.in_ok-loaded.ensures.same in
    subst (HasRunAs all c.args.row.now) (sym is) ran

pub returns-in_err-check_machine-clause-other : goal.returns-in_err-check_machine-clause-other
returns-in_err-check_machine-clause-other c = if_differs_any c.from_residual-in_err-check_machine.result _ (λ ran.
    let customer = c.args.name.customer.now in
    let number = c.args.name.number in
    let numbers = c.args.submitted.numbers in
    let profile = c.args.profile in
    let stretches = c.args.stretches.items in
    let came = came_to customer number numbers c.args.submitted.deck c.in_ok-loaded.loaded.loaded profile stretches c.in_ok-machine.machine c.in_ok-loaded.ensures.loading.0
    (subst (λ (xs : List Stretch). HasResumed (loaded c.in_ok-loaded.loaded.loaded numbers.size all_off profile) xs c.in_ok-machine.machine) c.deref-3.ensures.value c.in_ok-machine.ensures.resumed) in
    c.in_err-check_machine.ensures.other (subst (HasMachine customer number (tables_of c.args.rows.now)) (sym (c.parts.ensures.picture ∙ came)) ran.kept.machine))
