use Rattle.std.proofs.Common.{◌-◌, ◌∙◌, ap, sym, arith}
use Rattle.machine.specs.Run.{State, loaded}
use Rattle.units.specs.declared.profiles.Profile.TheVariants.{Selecting}
use Rattle.std.specs.Prelude.{option_copied}
use Rattle.run_traces.specs.Fields.{attempt_shown}
use Rattle.run_traces.specs.Traces.{is_shown, lines_shown}
use Rattle.run_traces.proofs.LineLemmas.{none_shown, shown_to_end}
use Rattle.run_traces.proofs.tracing.lines_shown.Goals as goal

pub returns-then-first-end : goal.returns-then-first-end
returns-then-first-end c =
    let sheet = c.args.sheet in
    let m = loaded c.args.deck.now c.args.size c.args.switches Selecting in
    c.new-text.ensures.items
    ∙ sym
    (none_shown (is_shown sheet.options sheet.ending) (attempt_shown (option_copied c.args.names) sheet.options.fields) m c.first-first.result c.end-end.result sheet.ending.attempts c.if-first-end.true c.first-first.ensures.before c.end-end.ensures.behind)

pub returns : goal.returns
returns c =
    let sheet = c.args.sheet in
    let m = loaded c.args.deck.now c.args.size c.args.switches Selecting in
    let whole = shown_to_end (is_shown sheet.options sheet.ending) (attempt_shown (option_copied c.args.names) sheet.options.fields) m c.end-end.result sheet.ending.attempts (omega arith) c.end-end.ensures.within c.end-end.ensures.behind in
    rw c.new-text.ensures.items at c.in_ok-push_lines.ensures
    ∙ ap (λ (x : State). lines_shown (is_shown sheet.options sheet.ending) (attempt_shown (option_copied c.args.names) sheet.options.fields) x (c.end-end.result - 1)) c.in_ok-machine.ensures
    ∙ whole
