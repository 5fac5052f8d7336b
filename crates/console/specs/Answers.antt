-- what a session answers to a line, and what it is after it
use Rattle.std.specs.Prelude.{ℕ, Bool, ◌≡◌, ◌+◌, ◌-◌, ◌<◌, min, nat_le, nat_lt, not, ◌==◌, if◌then◌else◌, List, [], ◌∷◌, ◌++◌, codes, filter, length, Option, Some, None}
use Rattle.std.specs.List.{AllPairs}
use Rattle.units.specs.Listing.{rendered}
use Rattle.units.specs.declared.switches.Switches.{Switches}
use Rattle.machine.specs.Run.{State, after, attempts, is_halted, lines_of}
use Rattle.run_traces.specs.Dumps.{machine_shown}
use Rattle.console.specs.Goes.{watched_cell, went}
use Rattle.console.specs.Commands.{IsCommand, is_end}
use Rattle.console.specs.Shown.{attempts_shown, cards_shown, fault_line, fault_words, field_line, help_text, last_shown, made_words, past_words, place_line, registers_shown, stopped_shown, stops_line, watched_line, why_line}
use Rattle.console.specs.SessionStates.{SessionState, machine_of, most_made, pressed}
use Rattle.console.specs.declared.commands.Action.{Action}
use Rattle.console.specs.declared.commands.Action.TheVariants as action
use Rattle.console.specs.declared.commands.Question.{Question}
use Rattle.console.specs.declared.commands.Question.TheVariants as question
use Rattle.console.specs.declared.commands.Command.{Command}
use Rattle.console.specs.declared.commands.Command.TheVariants as say
use Rattle.console.specs.declared.starts.Start.{Start}

-- how many instructions a session attempts where so many are asked for
abbrev pub limit_of : SessionState → ℕ → ℕ
limit_of s count = min count (most_made - s.made)

-- a session after so many attempts more
abbrev pub advanced : SessionState → ℕ → SessionState
advanced s count = record s { machine = after s.machine count; made = s.made + count }

-- after a line `step`
abbrev pub stepped : SessionState → ℕ → SessionState
stepped s count = advanced s (attempts s.machine (limit_of s count))

-- what a line `step` prints: the lines of the attempts, and where the machine stands if it stopped
abbrev pub steps_shown : SessionState → ℕ → List ℕ
steps_shown s count = attempts_shown s.names s.made s.machine (limit_of s count)
    ++ stopped_shown (stepped s count).made (stepped s count).machine

-- how many instructions a line `go` attempts
abbrev pub going : SessionState → ℕ → ℕ
going s count = went s.stops s.watched s.machine (limit_of s count)

-- after a line `go`
abbrev pub gone : SessionState → ℕ → SessionState
gone s count = advanced s (going s count)

-- the machine before the last of so many attempts
abbrev pub before_last : State → ℕ → State
before_last m count = after m (count - 1)

-- what is printed where a session has made so many attempts more: the line of the last of them, and
-- why the machine stands
abbrev pub end_shown : SessionState → ℕ → List ℕ
end_shown s count =
    last_shown s.names s.made (before_last s.machine count) count
    ++ why_line s.stops s.watched (s.made + count)
    (watched_cell s.watched (before_last s.machine count).works.storage) (after s.machine count)

-- stops with one more; they rise, without doubles
abbrev pub with_stop : ℕ → List ℕ → List ℕ
with_stop stop stops = (filter (λ other. nat_lt other stop) stops ++ stop ∷ [])
    ++ filter (λ other. nat_lt stop other) stops

-- stops without one
abbrev pub without_stop : ℕ → List ℕ → List ℕ
without_stop stop stops = filter (λ other. not (other == stop)) stops

-- stops rise, without doubles
abbrev pub Rising : List ℕ → Type 0
Rising = AllPairs (λ stop other. stop < other)

-- the starts of a past that is cut off after so many instructions
abbrev pub starts_until : ℕ → List Start → List Start
starts_until made starts = filter (λ start. nat_le start.made made) starts

-- a session that has gone back to so many instructions
abbrev pub set_back : SessionState → ℕ → SessionState
set_back s made = record s {
  machine = machine_of s.base (starts_until made s.starts) made;
  made = made;
  starts = starts_until made s.starts;
}

-- after a line `back`; one that would go back past the load button does nothing
abbrev pub backed : SessionState → ℕ → SessionState
backed s count = if nat_le count s.made then set_back s (s.made - count) else s

-- what a line `back` prints
abbrev pub back_shown : SessionState → List ℕ → ℕ → List ℕ
back_shown s line count = if nat_le count s.made
    then place_line (s.made - count) (backed s count).machine
    else fault_line line (made_words s.made)

-- a session whose machine was at a halt, and was started
abbrev pub restarted : SessionState → Switches → SessionState
restarted s switches = record s {
  machine = pressed s.machine switches;
  starts = s.starts ++ record { made = s.made; switches = switches } ∷ [];
}

-- after a line `start`
abbrev pub started_with : SessionState → Switches → SessionState
started_with s switches = if is_halted s.machine.standing then restarted s switches else s

-- what a line `start` prints
abbrev pub start_shown : SessionState → List ℕ → Switches → List ℕ
start_shown s line switches = if is_halted s.machine.standing
    then place_line s.made (pressed s.machine switches)
    else fault_line line (codes "not at a halt; go runs up to one")

-- whether a position is in the storage
abbrev pub is_inside : SessionState → ℕ → Bool
is_inside s position = nat_lt position (length s.machine.works.storage)

-- what is printed of a position, if it is in the storage
abbrev pub if_inside : SessionState → List ℕ → ℕ → List ℕ → List ℕ
if_inside s line position shown = if is_inside s position then shown
    else fault_line line (past_words s.machine.works.storage)

-- after a line `stop`
abbrev pub stopped_at : SessionState → ℕ → SessionState
stopped_at s stop = if is_inside s stop then record s { stops = with_stop stop s.stops } else s

-- after a line `clear` with a position
abbrev pub cleared : SessionState → ℕ → SessionState
cleared s stop = record s { stops = without_stop stop s.stops }

-- after a line `watch` with a position
abbrev pub watching : SessionState → ℕ → SessionState
watching s position = if is_inside s position then record s { watched = Some position } else s

-- after a line `watch` without one
abbrev pub unwatching : SessionState → SessionState
unwatching s = record s { watched = None }

-- a session after an action
abbrev pub done : SessionState → Action → SessionState
done s (action.Step count) = stepped s count
done s (action.Go count) = gone s count
done s (action.Stop stop) = stopped_at s stop
done s (action.Clear stop) = cleared s stop
done s (action.Watch position) = watching s position
done s action.Unwatch = unwatching s
done s (action.Start switches) = started_with s switches
done s (action.Back count) = backed s count

-- what is printed for an action
abbrev pub action_shown : SessionState → List ℕ → Action → List ℕ
action_shown s line (action.Step count) = steps_shown s count
action_shown s line (action.Go count) = end_shown s (going s count)
action_shown s line (action.Stop stop) =
    if_inside s line stop (stops_line (with_stop stop s.stops))
action_shown s line (action.Clear stop) = stops_line (without_stop stop s.stops)
action_shown s line (action.Watch position) =
    if_inside s line position (watched_line (Some position))
action_shown s line action.Unwatch = watched_line None
action_shown s line (action.Start switches) = start_shown s line switches
action_shown s line (action.Back count) = back_shown s line count

-- what is printed of a machine with the rows from a position to another
abbrev pub dump_shown : State → Option ℕ → Option ℕ → List ℕ
dump_shown m first last =
    machine_shown (record { after = None; stop = None; first = first; last = last }) m

-- what is printed for a question
abbrev pub question_shown : SessionState → List ℕ → Question → List ℕ
question_shown s line question.Stops = stops_line s.stops
question_shown s line (question.Dump first last) = dump_shown s.machine first last
question_shown s line question.Registers = registers_shown s.machine
question_shown s line (question.Field position) =
    if_inside s line position (field_line s.machine.works.storage position)
question_shown s line question.Cards = cards_shown s.machine.works.units.punch.cards
question_shown s line question.Lines = rendered (lines_of s.machine)
question_shown s line question.Help = help_text

-- a session after a line with this command: only an action changes it
abbrev pub next : SessionState → Command → SessionState
next s (say.Do action) = done s action
next s other = s

-- what a session prints for a line with this command
abbrev pub printed : SessionState → List ℕ → Command → List ℕ
printed s line say.Nothing = []
printed s line say.Unknown = codes "no such line; help lists them\n"
printed s line (say.Wrong wrong) = fault_line line (fault_words wrong)
printed s line (say.Do action) = action_shown s line action
printed s line (say.Ask question) = question_shown s line question
printed s line say.End = []

-- a session answers a line: it prints this, is this one after it, and ends or not
pub record Answers (s : SessionState) (line : List ℕ) (after : SessionState) (text : List ℕ) (ends : Bool)
    : Type 0 where
  pub command : Command
  pub is_command : IsCommand s.names line command
  pub next_is : after ≡ next s command
  pub text_is : text ≡ printed s line command
  pub ends_is : ends ≡ is_end command
