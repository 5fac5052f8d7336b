-- the command of a line
use Rattle.std.specs.Prelude.{ℕ, ◌≡◌, Bool, true, false, if◌then◌else◌, List, Option, Some, None, Result, Ok, Err}
use Rattle.run_traces.specs.Names.{Named}
use Rattle.units.specs.declared.switches.Switches.{Switches}
use Rattle.console.specs.Readings.{IsParsedOf, most_asked}
use Rattle.console.specs.declared.readings.ParsedLine.{ParsedLine}
use Rattle.console.specs.declared.readings.Reading.{Reading}
use Rattle.console.specs.declared.commands.Command.{Command}
use Rattle.console.specs.declared.commands.Command.TheVariants as say
use Rattle.console.specs.declared.commands.Action.TheVariants as action
use Rattle.console.specs.declared.commands.Question.TheVariants as question
use Rattle.console.specs.declared.commands.Fault.{Fault}
use Rattle.console.specs.declared.commands.Fault.TheVariants as fault
use Rattle.console.specs.declared.verbs.Verb.{Verb}
use Rattle.console.specs.declared.verbs.Verb.TheVariants as verb

-- a position, or else the address of a name
abbrev pub position_or : Option ℕ → Option ℕ → Option ℕ
position_or None named = named
position_or (Some position) named = Some position

-- the address that a word is
abbrev pub address_of : Reading → Option ℕ
address_of reading = position_or reading.position reading.named

-- a value that is there, or else the fault
abbrev pub or_wrong : {A : Type 0} → Fault → Option A → Result A Command
or_wrong wrong None = Err (say.Wrong wrong)
or_wrong wrong (Some value) = Ok value

-- the count of a line, or this one where it has none
abbrev pub count_in : ParsedLine → ℕ → Result ℕ Command
count_in parsed other = if parsed.second.given then Err say.Unknown
    else (if parsed.first.given then or_wrong fault.Count parsed.first.count else Ok other)

-- the address of a line
abbrev pub address_in : ParsedLine → Result ℕ Command
address_in parsed = if parsed.second.given then Err say.Unknown
    else or_wrong fault.Address (address_of parsed.first)

-- the switches of a line
abbrev pub switches_in : ParsedLine → Result Switches Command
switches_in parsed = if parsed.second.given then Err say.Unknown
    else or_wrong fault.Switching parsed.first.switches

-- the command with a value, or else the command without one
abbrev pub with : {A : Type 0} → (A → Command) → Result A Command → Command
with make (Ok value) = make value
with make (Err other) = other

-- the command of a line that has its verb alone
abbrev pub alone : ParsedLine → Command → Command
alone parsed command = if parsed.first.given then say.Unknown else command

-- the command of a line `watch`: the position to be watched, or none
abbrev pub watch_command : ParsedLine → Command
watch_command parsed = if parsed.first.given
    then with (λ value. say.Do (action.Watch value)) (address_in parsed) else say.Do action.Unwatch

-- the command of a line `dump` with two addresses
abbrev pub rows_command : Option ℕ → Option ℕ → Command
rows_command (Some first) (Some last) = say.Ask (question.Dump (Some first) (Some last))
rows_command first last = say.Wrong fault.Address

-- the command of a line `dump`: all rows, or those between two addresses
abbrev pub dump_command : ParsedLine → Command
dump_command parsed = if parsed.second.given
    then rows_command (address_of parsed.first) (address_of parsed.second)
    else (if parsed.first.given then say.Wrong fault.Address else say.Ask (question.Dump None None))

-- the command of a line with this verb
abbrev pub command_with : Verb → ParsedLine → Command
command_with verb.Step parsed = with (λ value. say.Do (action.Step value)) (count_in parsed 1)
command_with verb.Go parsed = with (λ value. say.Do (action.Go value)) (count_in parsed most_asked)
command_with verb.Stop parsed = with (λ value. say.Do (action.Stop value)) (address_in parsed)
command_with verb.Stops parsed = alone parsed (say.Ask question.Stops)
command_with verb.Clear parsed = with (λ value. say.Do (action.Clear value)) (address_in parsed)
command_with verb.Watch parsed = watch_command parsed
command_with verb.Dump parsed = dump_command parsed
command_with verb.Registers parsed = alone parsed (say.Ask question.Registers)
command_with verb.Field parsed = with (λ value. say.Ask (question.Field value)) (address_in parsed)
command_with verb.Cards parsed = alone parsed (say.Ask question.Cards)
command_with verb.Lines parsed = alone parsed (say.Ask question.Lines)
command_with verb.Start parsed = with (λ value. say.Do (action.Start value)) (switches_in parsed)
command_with verb.Back parsed = with (λ value. say.Do (action.Back value)) (count_in parsed 1)
command_with verb.Help parsed = alone parsed (say.Ask question.Help)
command_with verb.End parsed = alone parsed say.End

-- the command of a line, by its verb
abbrev pub command_by : Option Verb → ParsedLine → Command
command_by None parsed = say.Unknown
command_by (Some verb) parsed = if parsed.long then say.Unknown else command_with verb parsed

-- the command of a parsed line; of a line without a word it is to do nothing
unfoldable pub command_of : ParsedLine → Command
command_of parsed = if parsed.some then command_by parsed.verb parsed else say.Nothing

-- whether a line ends a session
abbrev pub is_end : Command → Bool
is_end say.End = true
is_end other = false

-- whether a line presses the start button
abbrev pub is_start : Command → Bool
is_start (say.Do (action.Start switches)) = true
is_start other = false

-- this is the command of a line
abbrev pub IsCommand : Option Named → List ℕ → Command → Type 0
IsCommand names line command = (parsed : ParsedLine) × IsParsedOf names line parsed × (command ≡ command_of parsed)
