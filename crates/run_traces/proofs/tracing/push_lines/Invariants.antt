use Rattle.std.proofs.Common.{◌≡◌, ◌-◌, ◌++◌}
use Rattle.machine.specs.Run.{after}
use Rattle.std.specs.Prelude.{option_copied}
use Rattle.run_traces.specs.Fields.{attempt_shown}
use Rattle.run_traces.specs.Traces.{is_shown, lines_shown}
use Rattle.run_traces.proofs.tracing.push_lines.Given as goal

abbrev pub invariant-loop-number : goal.invariant-loop-number
invariant-loop-number g l = record {
  machine : l.machine ≡ after l.fn.machine (l.number - 1);
  text : l.text.items ≡ l.fn.text.items
      ++ lines_shown (is_shown l.sheet.options l.sheet.ending) (attempt_shown (option_copied l.names) l.sheet.options.fields) l.fn.machine (l.number - 1);
}
