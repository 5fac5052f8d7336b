-- the operations of the reader, the punch and the printer
use Rattle.std.specs.Prelude.{ℕ, ◌+◌, ◌<◌, ◌≡◌, nat_lt, ◌&&◌, ◌==◌, ◌⊎◌, if◌then◌else◌, ◌++◌, [], ◌∷◌, length, Bool, Result, Ok, Err, IsOk, true, false, slice_get}
use Rattle.std.specs.Int.RustNames.{bit_and}
use Rattle.cards.specs.declared.decks.Card.{Card}
use Rattle.cards.specs.Decks.{card_columns}
use Rattle.core_store.specs.Storage.{Storage, put_codes, codes_from}
use Rattle.core_store.specs.Checked.{require, find_or, and_then}
use Rattle.core_store.specs.declared.checks.Check.{Check}
use Rattle.core_store.specs.declared.checks.Check.TheVariants.{ReaderEmpty, PunchFull, PrinterFull}
use Rattle.units.specs.declared.devices.Devices.{Devices}
use Rattle.units.specs.declared.fault.Fault.{Fault}
use Rattle.units.specs.declared.fault.Fault.TheVariants.{Stopped, NoMemory}
use Rattle.units.specs.declared.reader.Hopper.{Hopper}
use Rattle.units.specs.declared.switches.Switches.{Switches}
use Rattle.units.specs.declared.units.Counts.{Counts}
use Rattle.units.specs.declared.units.Units.{Units}
use Rattle.units.specs.declared.pockets.Pocket.TheVariants.{Normal}
use Rattle.units.specs.Carriages.{after_line}
use Rattle.units.specs.Printed.{Printed}
use Rattle.units.specs.Stacked.{Stacked}

-- the most lines that the printer prints for a job
abbrev pub most_lines : ℕ
most_lines = 20000

-- the most cards that the punch punches for a job
abbrev pub most_cards : ℕ
most_cards = 10000

-- the first position of the read area
abbrev pub read_area : ℕ
read_area = 1

-- the first position of the punch area
abbrev pub punch_area : ℕ
punch_area = 101

-- the first position of the print area
abbrev pub print_area : ℕ
print_area = 201

-- the number of characters of a printed line
abbrev pub characters_of_line : ℕ
characters_of_line = 132

-- the first position after the read area
abbrev pub read_area_end : ℕ
read_area_end = 81

-- the first position after the punch area
abbrev pub punch_area_end : ℕ
punch_area_end = 181

-- the first position after the print area, the last of the three areas
abbrev pub areas_end : ℕ
areas_end = 333

-- storage with the next card in the read area, 001 to 080, and the reader after it; word marks stay
unfoldable pub card_read : Storage → Hopper → Result (Storage × Hopper) Check
card_read s h =
    find_or (slice_get h.deck h.taken) ReaderEmpty (λ card.
    Ok (put_codes s read_area card.0, record h { taken = h.taken + 1 }))

-- whether switch A is on and the last card was read
abbrev pub is_last_card : Switches → Hopper → Bool
is_last_card switches h = bit_and switches.0 1 == 1 && h.taken == length h.deck

-- the card of the characters in the punch area, 101 to 180
abbrev pub area_card : Storage → Card
area_card s = record { 0 = codes_from s punch_area card_columns }

-- the punch, with so many cards made before its own, and one card more, of the characters in the
-- punch area, in the pocket that was chosen; then none is chosen
unfoldable pub card_punched : ℕ → Storage → Stacked → Result Stacked Check
card_punched before s p =
    require (nat_lt (before + length p.cards) most_cards) PunchFull
    (Ok (record p {
      cards = p.cards ++ (record { card = area_card s; pocket = p.chosen }) ∷ [];
      chosen = Normal;
    }))

-- the printer, with so many lines made before its own, and one line more, of the characters in the
-- print area, 201 to 332, at the carriage's place
unfoldable pub line_printed : ℕ → Storage → Printed → Result Printed Check
line_printed before s p =
    require (nat_lt (before + length p.lines) most_lines) PrinterFull
    (find_or (after_line p.carriage) PrinterFull (λ carriage.
    Ok (record {
      lines = p.lines ++ (record {
        form = p.carriage.form;
        line = p.carriage.line;
        codes = codes_from s print_area characters_of_line;
      }) ∷ [];
      carriage = carriage;
    })))

-- whether a unit is stopped, whatever is in storage: by this check, or not at all
pub record IsStopped {T : Type 0} (stopped : Bool) (work : Storage → Result T Check) (by : Check) :
    Type 0 where
  pub check : stopped ≡ true → (s : Storage) → work s ≡ Err by
  pub ready : stopped ≡ false → (s : Storage) → IsOk (work s)

-- why an operation was given up: the check that stops it, or no memory for what it would have made
abbrev pub GivesUp : {T : Type 0} → (T → Type 0) → Fault → Result T Check → Type 0
GivesUp Made (Stopped check) outcome = outcome ≡ Err check
GivesUp Made NoMemory (Ok after) = Made after
GivesUp Made NoMemory (Err check) = ⊥

-- why no card was punched: a check, or no memory for the card
abbrev pub PunchFails : Fault → Stacked → Result Stacked Check → Type 0
PunchFails fault p outcome = GivesUp (λ after. length p.cards < length after.cards) fault outcome

-- why no line was printed: a check, or no memory for the line
abbrev pub PrintFails : Fault → Printed → Result Printed Check → Type 0
PrintFails fault p outcome = GivesUp (λ after. length p.lines < length after.lines) fault outcome

-- whether the reader takes part in an operation
abbrev pub reads : Devices → Bool
reads devices = bit_and devices.0 1 == 1

-- whether the printer takes part in an operation
abbrev pub prints : Devices → Bool
prints devices = bit_and devices.0 2 == 2

-- whether the punch takes part in an operation
abbrev pub punches : Devices → Bool
punches devices = bit_and devices.0 4 == 4

-- storage and the reader after an operation, in which a card is read if the reader takes part
unfoldable pub reader_works : Devices → Storage → Hopper → Result (Storage × Hopper) Check
reader_works devices s h = if reads devices then card_read s h else Ok (s, h)

-- the punch after an operation, which punches a card if the punch takes part
unfoldable pub punch_works : Devices → ℕ → Storage → Stacked → Result Stacked Check
punch_works devices before s p = if punches devices then card_punched before s p else Ok p

-- the printer after an operation, which prints a line if the printer takes part
unfoldable pub printer_works : Devices → ℕ → Storage → Printed → Result Printed Check
printer_works devices before s p = if prints devices then line_printed before s p else Ok p

-- storage and units after the reader, the punch and the printer, or the first check in this order
abbrev pub together : Units → Result (Storage × Hopper) Check → Result Stacked Check →
    Result Printed Check → Result (Storage × Units) Check
together u reader punch printer =
    and_then reader (λ read.
    and_then punch (λ stacked.
    and_then printer (λ printed.
    Ok (read.0, record u { hopper = read.1; punch = stacked; printer = printed }))))

-- storage and units after an operation of the units, each of which works from storage as it was
unfoldable pub operated : Devices → Storage → Units → Result (Storage × Units) Check
operated devices s u = together u (reader_works devices s u.hopper)
    (punch_works devices u.before.cards s u.punch)
    (printer_works devices u.before.lines s u.printer)

-- no cards and no lines
abbrev pub nothing_made : Counts
nothing_made = record { cards = 0; lines = 0 }

-- how many cards and lines were made in all: those before, and the units' own
abbrev pub made_in_all : Units → Counts
made_in_all u = record {
  cards = u.before.cards + length u.punch.cards;
  lines = u.before.lines + length u.printer.lines;
}

-- an operation has made one more card or line
abbrev pub Makes : Units → Units → Type 0
Makes u after = (length u.punch.cards < length after.punch.cards)
    ⊎ (length u.printer.lines < length after.printer.lines)

-- why an operation of the units was given up: a check, or no memory for a card or a line
abbrev pub OperationFails : Fault → Units → Result (Storage × Units) Check → Type 0
OperationFails fault u outcome = GivesUp (λ done. Makes u done.1) fault outcome
