-- the trace of a run
use Rattle.std.specs.Prelude.{ℕ, zero, suc, ◌+◌, nat_lt, nat_le, ◌&&◌, ◌||◌, Bool, if◌then◌else◌, List, [], ◌++◌, Option}
use Rattle.machine.specs.Run.{State, after, is_checked, most_instructions}
use Rattle.run_traces.specs.Fields.{attempt_shown}
use Rattle.run_traces.specs.Ends.{end_of, ended}
use Rattle.run_traces.specs.Names.{Named}
use Rattle.run_traces.specs.Reports.{report_line}
use Rattle.run_traces.specs.declared.tracing.Ending.{Ending}
use Rattle.run_traces.specs.declared.tracing.TraceOptions.{TraceOptions}

-- how the run of a machine ends: after how many attempts, and whether in a check
abbrev pub ending_of : State → Option ℕ → Ending
ending_of m stop = record {
  attempts = end_of m most_instructions stop;
  is_checked = is_checked (ended m stop).standing;
}

-- whether the attempt with this number is shown of a run that ends so: it is asked for, or among
-- the last twenty before a check
abbrev pub is_shown : TraceOptions → Ending → ℕ → Bool
is_shown options ending number =
    (nat_le options.from number && nat_lt number (options.from + options.count))
    || (ending.is_checked && nat_lt ending.attempts (number + 20))

-- the lines of the first attempts of a machine, so many, that are shown
unfoldable pub lines_shown : (ℕ → Bool) → (ℕ → State → List ℕ) → State → ℕ → List ℕ
lines_shown shows line m zero = []
lines_shown shows line m (suc count) = lines_shown shows line m count
    ++ (if shows (suc count) then line (suc count) (after m count) else [])

-- the trace of a machine's run: the lines of the attempts that are shown, and the report of the
-- machine at its end
unfoldable pub traced : TraceOptions → Option Named → State → List ℕ
traced options names m =
    lines_shown (is_shown options (ending_of m options.stop)) (attempt_shown names options.fields) m
    (end_of m most_instructions options.stop)
    ++ report_line (ended m options.stop)
