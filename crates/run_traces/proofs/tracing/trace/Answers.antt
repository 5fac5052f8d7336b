use Rattle.std.proofs.Common.{◌++◌, ◌∙◌, ap, arith}
use Rattle.machine.specs.Run.{State, after, most_instructions}
use Rattle.run_traces.specs.Ends.{end_of}
use Rattle.run_traces.specs.Reports.{report_line}
use Rattle.run_traces.proofs.EndLemmas.{end_fits, whole_run}
use Rattle.run_traces.proofs.tracing.trace.Goals as goal

pub lines_shown-requires-clause-most : goal.lines_shown-requires-clause-most
lines_shown-requires-clause-most c =
    omega (arith, end_fits c.in_ok-machine.machine most_instructions c.args.options.stop, c.in_ok-attempts.ensures.attempts, ap (λ e. e.attempts) c.ending_of.ensures)

pub returns-clause-report : goal.returns-clause-report
returns-clause-report c = λ none. (
  c.in_ok-text.text.items,
  c.in_ok-push_report.ensures
      ∙ ap (λ m. c.in_ok-text.text.items ++ report_line m)
      (c.parts-2.ensures.picture
      ∙ c.in_ok-attempts.ensures.machine
      ∙ ap (λ stop. after c.in_ok-machine.machine (end_of c.in_ok-machine.machine most_instructions stop)) none
      ∙ whole_run c.in_ok-machine.machine most_instructions
      ∙ ap (λ (m : State). after m most_instructions) c.in_ok-machine.ensures),
)
