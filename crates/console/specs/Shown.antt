-- what is printed of a session
use Rattle.std.specs.Prelude.{ℕ, zero, suc, ◌+◌, ◌-◌, ◌==◌, if◌then◌else◌, Bool, false, List, [], ◌∷◌, ◌++◌, codes, decimal, map, nat_lt, length, Option, Some, None}
use Rattle.std.specs.List.{flat_map}
use Rattle.core_store.specs.Storage.{Storage}
use Rattle.autocoder.specs.Listing.{position_field}
use Rattle.card_forms.specs.Images.{image_of}
use Rattle.card_tools.specs.Listing.{listing}
use Rattle.machine.specs.Run.{State, is_running, step}
use Rattle.machine.specs.Standings.{standing_of, standing_words}
use Rattle.machine.specs.declared.standings.Standing.{Standing}
use Rattle.machine.specs.declared.standings.Standing.TheVariants.{Running, Halted, Checked}
use Rattle.units.specs.declared.punch.Punched.{Punched}
use Rattle.run_traces.specs.Attempts.{attempt_line}
use Rattle.run_traces.specs.Dumps.{registers_line, units_line}
use Rattle.run_traces.specs.Fields.{field_shown}
use Rattle.run_traces.specs.Names.{Named}
use Rattle.console.specs.Goes.{has_changed, stands_at}
use Rattle.console.specs.Words.{first_word, second_word}
use Rattle.console.specs.declared.commands.Fault.{Fault}
use Rattle.console.specs.declared.commands.Fault.TheVariants as fault

-- where a machine stands, by its standing
abbrev pub standing_by : Standing → State → List ℕ
standing_by Running m = codes "next " ++ position_field m.works.registers.i
standing_by Halted m = standing_words (standing_of m) ++ codes "; start SWITCHES goes on"
standing_by (Checked check) m = standing_words (standing_of m) ++ codes "; back goes back"

-- the line that says how many instructions were attempted, and where a machine stands
unfoldable pub place_line : ℕ → State → List ℕ
place_line made m =
    decimal made ++ codes " done; " ++ standing_by m.standing m ++ 10 ∷ []

-- the lines of so many attempts of a machine at most, which has attempted so many before
unfoldable pub attempts_shown : Option Named → ℕ → State → ℕ → List ℕ
attempts_shown names made m zero = []
attempts_shown names made m (suc limit) = if is_running m.standing
    then attempt_line names (made + 1) m ++ attempts_shown names (made + 1) (step m) limit else []

-- the line of where a machine stands, unless it is running
abbrev pub stopped_shown : ℕ → State → List ℕ
stopped_shown made m = if is_running m.standing then [] else place_line made m

-- the line of the last attempt of so many, which this machine made; of none nothing
abbrev pub last_shown : Option Named → ℕ → State → ℕ → List ℕ
last_shown names made before count =
    if count == 0 then [] else attempt_line names (made + count) before

-- the line of a watched position that has changed
abbrev pub changed_line : Option ℕ → List ℕ
changed_line None = []
changed_line (Some position) = codes "changed: " ++ position_field position ++ 10 ∷ []

-- the line of a stop that a machine stands at
abbrev pub stop_line : State → List ℕ
stop_line m = codes "stop at " ++ position_field m.works.registers.i ++ 10 ∷ []

-- why a machine stands that has attempted so many instructions: the watched position has changed
-- from these contents, or it is at a stop; else where it stands
unfoldable pub why_line : List ℕ → Option ℕ → ℕ → ℕ × Bool → State → List ℕ
why_line stops watched made seen m =
    if has_changed watched seen m then changed_line watched
    else (if stands_at stops m then stop_line m else place_line made m)

-- the stops as a line
unfoldable pub stops_line : List ℕ → List ℕ
stops_line [] = codes "no stop\n"
stops_line (stop ∷ stops) =
    codes "stop" ++ flat_map (λ other. 32 ∷ position_field other) (stop ∷ stops) ++ 10 ∷ []

-- the watched position as a line
abbrev pub watched_line : Option ℕ → List ℕ
watched_line None = codes "nothing is watched\n"
watched_line (Some position) = codes "watching " ++ position_field position ++ 10 ∷ []

-- the line of the field that ends at a position
abbrev pub field_line : Storage → ℕ → List ℕ
field_line s p = field_shown s p ++ 10 ∷ []

-- the registers, the indicators and the units of a machine
abbrev pub registers_shown : State → List ℕ
registers_shown m = registers_line m.works.registers m.works.units.printer.carriage.channel_12
    ++ units_line m.works.units

-- the cards that a machine has punched, as a listing of cards shows them
abbrev pub cards_shown : List Punched → List ℕ
cards_shown punched = listing (record { ruler = false; punches = false })
    (map (λ card. image_of card.card) punched)

-- a line as it was parsed, for a fault: its first word, and its second where it has one
abbrev pub line_echo : List ℕ → List ℕ
line_echo line = first_word line
    ++ (if nat_lt 0 (length (second_word line)) then 32 ∷ second_word line else [])

-- the line of a fault, with the way out
unfoldable pub fault_line : List ℕ → List ℕ → List ℕ
fault_line line words = line_echo line ++ codes ": " ++ words ++ 10 ∷ []

-- what a line lacks whose value is none
abbrev pub fault_words : Fault → List ℕ
fault_words fault.Count = codes "a number from 1 to 1000000"
fault_words fault.Address =
    codes "an address: a number from 0 to 15999, or with --names a name as LOOP or LOOP&7"
fault_words fault.Switching = codes "the letters A to G of the switches that are on, in order, or -"

-- what is wrong with a position past the storage
abbrev pub past_words : Storage → List ℕ
past_words s = codes "the storage ends at " ++ position_field (length s - 1)

-- what is wrong with a way back past the load button
abbrev pub made_words : ℕ → List ℕ
made_words made = decimal made ++ codes " were done, and back goes no further"

-- the lines that a session takes
abbrev pub help_text : List ℕ
help_text =
    codes "step            one instruction\n"
    ++ codes "step N          N instructions, each with its line\n"
    ++ codes "go              up to a stop, a change, a halt or a check\n"
    ++ codes "go N            the same, for N instructions at most\n"
    ++ codes "stop ADDRESS    sets a stop: go ends before the instruction there\n"
    ++ codes "clear ADDRESS   clears it\n"
    ++ codes "stops           lists the stops\n"
    ++ codes "watch ADDRESS   go ends after an instruction that changes this position\n"
    ++ codes "watch           watches nothing\n"
    ++ codes "dump            storage, registers and units\n"
    ++ codes "dump FIRST LAST the same with the rows from FIRST to LAST\n"
    ++ codes "registers       registers and units\n"
    ++ codes "field ADDRESS   the field that ends there\n"
    ++ codes "cards           the cards punched\n"
    ++ codes "lines           the lines printed\n"
    ++ codes "start SWITCHES  the start button, at a halt\n"
    ++ codes "back            one instruction back\n"
    ++ codes "back N          N instructions back\n"
    ++ codes "help            these lines\n"
    ++ codes "end             ends the session\n"
