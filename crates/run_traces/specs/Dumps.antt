-- the dump of a machine
use Rattle.std.specs.Prelude.{ℕ, ◌+◌, ◌-◌, ◌/◌, min, List, [], ◌∷◌, ◌++◌, Bool, if◌then◌else◌, length, codes, decimal, Option, Some, None, unwrap_or}
use Rattle.core_store.specs.Storage.{Storage}
use Rattle.core_store.specs.declared.registers.Compared.{Compared}
use Rattle.core_store.specs.declared.registers.Compared.TheVariants.{Equal, Low, High}
use Rattle.core_store.specs.declared.registers.Registers.{Registers}
use Rattle.units.specs.declared.carriage.Carriage.{Carriage}
use Rattle.units.specs.declared.carriage.Motion.{Motion}
use Rattle.units.specs.declared.carriage.Motion.TheVariants.{Space, DoubleSpace, TripleSpace, SkipToChannel1}
use Rattle.units.specs.Units.{made_in_all}
use Rattle.units.specs.declared.units.Units.{Units}
use Rattle.autocoder.specs.Listing.{position_field}
use Rattle.machine.specs.Run.{State, after, most_instructions}
use Rattle.run_traces.specs.Ends.{end_of}
use Rattle.run_traces.specs.Rows.{row_length, rows_shown}
use Rattle.run_traces.specs.declared.dumping.DumpOptions.{DumpOptions}

-- how the second operand compared with the first
abbrev pub compared_words : Compared → List ℕ
compared_words Equal = codes "equal"
compared_words Low = codes "B low"
compared_words High = codes "B high"

-- whether an indicator is on
abbrev pub on_or_off : Bool → List ℕ
on_or_off on = if on then codes "on" else codes "off"

-- the address registers
abbrev pub addresses_shown : Registers → List ℕ
addresses_shown r =
    codes "I " ++ position_field r.i ++ codes " A " ++ position_field r.a ++ codes " B "
    ++ position_field r.b

-- the indicators of arithmetic
abbrev pub arithmetic_shown : Registers → List ℕ
arithmetic_shown r =
    codes " " ++ compared_words r.compare ++ codes ", overflow " ++ on_or_off r.overflow

-- the indicator of channel 12
abbrev pub channel_words : Bool → List ℕ
channel_words channel_12 =
    if channel_12 then codes ", channel 12 on" else codes ", channel 12 off"

-- the line of the registers and the indicators
unfoldable pub registers_line : Registers → Bool → List ℕ
registers_line r channel_12 =
    addresses_shown r ++ arithmetic_shown r ++ channel_words channel_12 ++ 10 ∷ []

-- the order that waits for the next line
abbrev pub waiting_words : Option Motion → List ℕ
waiting_words None = codes "no order"
waiting_words (Some Space) = codes "a space"
waiting_words (Some DoubleSpace) = codes "a double space"
waiting_words (Some TripleSpace) = codes "a triple space"
waiting_words (Some SkipToChannel1) = codes "a skip to channel 1"

-- how many cards were read
abbrev pub read_shown : ℕ → List ℕ
read_shown cards = codes "reader " ++ decimal cards ++ codes " read, "

-- how many cards were not read
abbrev pub unread_shown : ℕ → List ℕ
unread_shown cards = decimal cards ++ codes " unread; "

-- how many cards were punched in all, and how many lines printed
abbrev pub made_shown : Units → List ℕ
made_shown u = codes "punched " ++ decimal (made_in_all u).cards ++ codes "; printed "
    ++ decimal (made_in_all u).lines ++ codes "; "

-- the carriage: its form and line, and the order that waits
abbrev pub carriage_shown : Carriage → List ℕ
carriage_shown c = codes "form " ++ decimal c.form ++ codes " line " ++ decimal c.line ++ codes ", "
    ++ waiting_words c.waiting ++ codes " waits"

-- the line of the units
unfoldable pub units_line : Units → List ℕ
units_line u =
    read_shown u.hopper.taken ++ unread_shown (length u.hopper.deck - u.hopper.taken)
    ++ made_shown u ++ carriage_shown u.printer.carriage ++ 10 ∷ []

-- the first row that is shown
abbrev pub first_row : DumpOptions → ℕ
first_row options = unwrap_or options.first 0 / row_length

-- the row behind the last that is shown, of a storage of so many positions
abbrev pub end_row : DumpOptions → ℕ → ℕ
end_row options size = min (unwrap_or options.last (size - 1)) (size - 1) / row_length + 1

-- what is shown of a storage
unfoldable pub storage_shown : DumpOptions → Storage → List ℕ
storage_shown options s =
    rows_shown s (first_row options) (end_row options (length s) - first_row options)

-- a machine at the end of its run of so many attempts at most
abbrev pub dumped_machine : DumpOptions → State → State
dumped_machine options m =
    after m (end_of m (min (unwrap_or options.after most_instructions) most_instructions) options.stop)

-- what is shown of a machine: its storage, its registers and indicators, and its units
unfoldable pub machine_shown : DumpOptions → State → List ℕ
machine_shown options m = storage_shown options m.works.storage
    ++ registers_line m.works.registers m.works.units.printer.carriage.channel_12
    ++ units_line m.works.units
