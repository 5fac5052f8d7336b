use Rattle.std.proofs.Common.{◌≡◌, ◌++◌, ◌∙◌, ap, arith, length, refl}
use Rattle.machine.specs.Reports.{report_of}
use Rattle.std.specs.Prelude.{option_copied}
use Rattle.machine.proofs.Attempts.{attempts_fit}
use Rattle.machine.specs.Run.{State, after, attempts, loaded}
use Rattle.machine.specs.Standings.{standing_of}
use Rattle.units.specs.declared.profiles.Profile.TheVariants.{Selecting}
use Rattle.films.specs.Films.{end_cause, passed_over, text_before}
use Rattle.films.proofs.FilmLemmas.{is_film, size_loaded}
use Rattle.films.proofs.RunLaw.{run_shown}
use Rattle.films.proofs.films.Film.of.Goals as goal

pub push_changes-requires-clause-blank : goal.push_changes-requires-clause-blank
push_changes-requires-clause-blank c =
    let m = loaded c.args.deck.now c.args.size c.args.switches Selecting in
    let is_x : c.advance.new.machine ≡ after m (passed_over c.args.options) =
    c.in_ok-made.ensures.machine ∙ ap (λ (x : State). after x c.passed_over-passed.result) c.in_ok-machine.ensures ∙ ap (after m) c.passed_over-passed.ensures in
    c.in_ok-storage.ensures ∙ size_loaded c.args.deck.now c.args.size c.args.switches (passed_over c.args.options) c.advance.new.machine is_x

pub overflow_add-result : goal.overflow_add-result
overflow_add-result c =
    omega (
      arith,
      c.in_ok-made.ensures.attempts,
      attempts_fit c.in_ok-machine.machine c.passed_over-passed.result,
      c.passed_over-passed.ensures,
      c.in_ok-steps.ensures.steps,
      attempts_fit c.advance.new.machine c.most_steps-limit.result,
      c.most_steps-limit.ensures,
    )

pub overflow_add-result-2 : goal.overflow_add-result-2
overflow_add-result-2 c =
    omega (
      arith,
      c.in_ok-made.ensures.attempts,
      attempts_fit c.in_ok-machine.machine c.passed_over-passed.result,
      c.passed_over-passed.ensures,
      c.in_ok-steps.ensures.steps,
      attempts_fit c.advance.new.machine c.most_steps-limit.result,
      c.most_steps-limit.ensures,
      c.in_ok-more.ensures.attempts,
      attempts_fit c.push_changes.new.machine c.steps_behind-rest.result,
      c.steps_behind-rest.ensures,
    )

pub returns-clause-film : goal.returns-clause-film
returns-clause-film c =
    let m = loaded c.args.deck.now c.args.size c.args.switches Selecting in
    let names = option_copied c.args.names in
    let x = c.advance.new.machine in
    let y = c.push_changes.new.machine in
    let is_x : x ≡ after m (passed_over c.args.options) =
    c.in_ok-made.ensures.machine ∙ ap (λ (s : State). after s c.passed_over-passed.result) c.in_ok-machine.ensures ∙ ap (after m) c.passed_over-passed.ensures in
    let is_y = c.in_ok-steps.ensures.machine ∙ ap (after x) c.most_steps-limit.ensures in
    let is_z = c.in_ok-more.ensures.machine ∙ ap (after y) c.steps_behind-rest.ensures in
    let is_made = c.in_ok-made.ensures.attempts ∙ ap (λ (s : State). attempts s c.passed_over-passed.result) c.in_ok-machine.ensures ∙ ap (attempts m) c.passed_over-passed.ensures in
    let is_steps = c.in_ok-steps.ensures.steps ∙ ap (attempts x) c.most_steps-limit.ensures in
    let is_more = c.in_ok-more.ensures.attempts ∙ ap (attempts y) c.steps_behind-rest.ensures in
    let taken = c.cards_read-taken.ensures ∙ ap (λ (s : State). s.works.units.hopper.taken) c.parts.ensures.picture in
    let before = c.in_ok-text.ensures ∙ ap (λ n. text_before names c.in_ok-made.made n c.parts-parts.result.now) taken
    ∙ ap (λ (s : State). text_before names c.in_ok-made.made x.works.units.hopper.taken s) c.parts-parts.ensures.picture in
    let is_text = c.in_ok-extend_from_slice.ensures.items ∙ ap (λ text. text ++ c.deref.result.now) before
    ∙ ap (λ text. text_before names c.in_ok-made.made x.works.units.hopper.taken y ++ text) c.deref.ensures.value in
    is_film names c.args.options m x y c.advance-2.new.machine _ c.push_changes.new.out.items c.in_ok-more.more is_x is_y is_z is_made is_steps is_more c.in_ok-steps.ensures.lines c.in_ok-steps.ensures.short is_text
    (c.standing_at-standing.ensures ∙ ap standing_of c.parts-parts.ensures.picture) (c.end_cause-cause.ensures ∙ ap end_cause c.parts-parts.ensures.picture) refl
    (c.of.ensures ∙ ap report_of c.parts-2.ensures.picture)

pub returns-clause-shown : goal.returns-clause-shown
returns-clause-shown c =
    let m = loaded c.args.deck.now c.args.size c.args.switches Selecting in
    let is_x = c.in_ok-made.ensures.machine ∙ ap (λ (s : State). after s c.passed_over-passed.result) c.in_ok-machine.ensures ∙ ap (after m) c.passed_over-passed.ensures in
    run_shown (option_copied c.args.names) c.args.deck.now c.args.size c.args.switches c.args.options c.advance.new.machine _ c.requires (omega (arith, c.cards-cards.ensures.limit, ap length c.cards-cards.ensures.cards)) is_x c.in_ok-steps.ensures.characters (returns-clause-film c)
