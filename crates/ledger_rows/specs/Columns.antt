-- the columns of the tables for cards, lines and machines
use Rattle.std.specs.Prelude.{ℕ, ◌≡◌, ◌+◌, ◌<◌, Bool, true, false, if◌then◌else◌, List, map, flat_map, length, All}
use Rattle.cards.specs.declared.decks.Card.{Card}
use Rattle.cards.specs.Decks.{AreCharacters}
use Rattle.core_store.specs.Storage.{Storage}
use Rattle.machine.specs.declared.standings.Standing.{Standing}
use Rattle.units.specs.Units.{made_in_all}
use Rattle.units.specs.declared.printer.Line.{Line}
use Rattle.units.specs.Pockets.{pocket_number}
use Rattle.units.specs.Stacked.{Stacked}
use Rattle.units.specs.declared.profiles.Profile.{Profile}
use Rattle.units.specs.declared.profiles.Profile.TheVariants.{Plain, Selecting}
use Rattle.machine.specs.Numbers.{compare_number, standing_number, waiting_number}
use Rattle.machine.specs.Run.{State}
use Rattle.ledger_tables.specs.Cells.{LineCells}
use Rattle.ledger_tables.specs.declared.rows.ProfileRow.{ProfileRow}
use Rattle.ledger_tables.specs.declared.rows.StateRow.{StateRow}

-- the bytes of a deck, 80 for each card, each the number of a column's character
abbrev pub deck_bytes : List Card → List ℕ
deck_bytes = flat_map (λ card. card.0)

-- the byte of a position: its character's number, and 64 more if it has a word mark
abbrev pub byte_of : ℕ × Bool → ℕ
byte_of cell = if cell.1 then 64 + cell.0 else cell.0

-- the bytes of storage, one for each position
abbrev pub storage_bytes : Storage → List ℕ
storage_bytes = map byte_of

-- the number of a flag: 1 if it is set, else 0
abbrev pub truth : Bool → ℕ
truth false = 0
truth true = 1

-- the number of a profile: 1 without stacker selection, 2 with it
abbrev pub profile_number : Profile → ℕ
profile_number Plain = 1
profile_number Selecting = 2

-- the columns of a machine's profile row: its profile, and the pocket chosen for its next card
abbrev pub profile_row : Stacked → ProfileRow
profile_row p = record {
  profile = profile_number p.profile;
  chosen = pocket_number p.chosen;
}

-- the columns of a printed line's row
abbrev pub line_cells : Line → LineCells
line_cells l = record { form = l.form; line = l.line; image = l.codes }

-- the columns of a machine's state row, which counts all cards and lines that were made
abbrev pub state_row : State → StateRow
state_row m = record {
  i = m.works.registers.i;
  a = m.works.registers.a;
  b = m.works.registers.b;
  compare = compare_number m.works.registers.compare;
  overflow = truth m.works.registers.overflow;
  channel = truth m.works.units.printer.carriage.channel_12;
  waiting = waiting_number m.works.units.printer.carriage.waiting;
  form = m.works.units.printer.carriage.form;
  line = m.works.units.printer.carriage.line;
  taken = m.works.units.hopper.taken;
  cards = (made_in_all m.works.units).cards;
  lines = (made_in_all m.works.units).lines;
  standing = standing_number m.standing;
}

-- each position holds one of the 64 characters
abbrev pub HoldsCharacters : Storage → Type 0
HoldsCharacters s = All (λ cell. cell.0 < 64) s

-- a printed line: 132 characters, and a line number that a byte can hold
abbrev pub IsLine : Line → Type 0
IsLine l = (length l.codes ≡ 132) × AreCharacters l.codes × (l.line < 256)
