use Rattle.std.proofs.Common.{◌++◌, ◌∙◌, ◌<◌, All, ap, subst}
use Rattle.machine.specs.Run.{State}
use Rattle.std.specs.Prelude.{option_copied}
use Rattle.run_traces.specs.Statements.{statement_next}
use Rattle.films.specs.declared.items.Shown.{Shown}
use Rattle.films.specs.Worked.{place_of}
use Rattle.films.proofs.StepLemmas.{cards_within, lines_within, size_within, step_text}
use Rattle.films.proofs.filming.push_step.Goals as goal

pub push_step_line-requires-clause-size : goal.push_step_line-requires-clause-size
push_step_line-requires-clause-size g c =
    size_within c.args.machine.now c.parts-parts-2.result.now (g.C.Core.cells c.args.storage.now) c.requires.storage (c.parts-parts-2.ensures.picture ∙ c.in_ok-step.ensures.machine)

pub push_step_line-requires-clause-lines : goal.push_step_line-requires-clause-lines
push_step_line-requires-clause-lines g c =
    lines_within c.args.machine.now c.parts-parts-2.result.now c.args.shown.now.lines (ap (λ (s : Shown). s.lines) c.requires.shown) (c.parts-parts-2.ensures.picture ∙ c.in_ok-step.ensures.machine)

pub push_step_line-requires-clause-cards : goal.push_step_line-requires-clause-cards
push_step_line-requires-clause-cards g c =
    cards_within c.args.machine.now c.parts-parts-2.result.now c.args.shown.now.cards (ap (λ (s : Shown). s.cards) c.requires.shown) (c.parts-parts-2.ensures.picture ∙ c.in_ok-step.ensures.machine)

pub keep-requires : goal.keep-requires
keep-requires g c =
    size_within c.args.machine.now c.parts-parts-2.result.now (g.C.Core.cells c.args.storage.now) c.requires.storage (c.parts-parts-2.ensures.picture ∙ c.in_ok-step.ensures.machine)

pub returns-clause-line : goal.returns-clause-line
returns-clause-line g c = λ lines cards in_lines in_cards.
    c.in_ok-push_step_line.ensures.text
    ∙ ap (λ text. c.args.out.now.items ++ text)
    (step_text (option_copied c.args.names) c.place_of-place.result c.args.shown.now c.deref.result.now (g.C.Core.cells c.args.storage.now) c.args.machine.now c.parts-parts-2.result.now lines cards
    (c.deref.ensures.value ∙ c.in_ok-statement.ensures ∙ ap (statement_next (option_copied c.args.names)) c.parts-parts.ensures.picture)
    (c.place_of-place.ensures.place ∙ ap place_of c.parts-parts.ensures.picture) c.requires.shown c.requires.storage (c.parts-parts-2.ensures.picture ∙ c.in_ok-step.ensures.machine) in_lines in_cards)

pub returns-clause-characters : goal.returns-clause-characters
returns-clause-characters g c =
    subst (λ (x : State). All (λ cell. cell.0 < 64) x.works.storage) c.parts-parts-2.ensures.picture c.in_ok-push_step_line.ensures.characters
