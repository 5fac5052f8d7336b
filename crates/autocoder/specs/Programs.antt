-- the program of a deck
use Rattle.std.specs.Prelude.{ℕ, ◌≡◌, ◌≢◌, ◌-◌, false, List, [], length, map, find, Some, None, Ok, slice_index_or}
use Rattle.std.specs.Option.{option_map_or}
use Rattle.cards.specs.declared.decks.Card.{Card}
use Rattle.core_store.specs.Storage.{positions_of}
use Rattle.autocoder_statements.specs.Statements.{statement_on}
use Rattle.autocoder_statements.specs.declared.reading.Statement.TheVariants as statement
use Rattle.autocoder_layout.specs.Source.{Line, silent, size_of, has_end, lines_of, source_read}
use Rattle.autocoder_layout.specs.Names.{value_in}
use Rattle.autocoder_layout.specs.Slots.{is_instruction}
use Rattle.autocoder_layout.specs.Cells.{position_in}
use Rattle.autocoder_layout.specs.Literals.{literals_of}
use Rattle.autocoder_layout.specs.Layout.{Laid, Layout, slots_of, laid_out, layout_of}
use Rattle.autocoder_layout.specs.declared.cells.Cell.{Cell}
use Rattle.autocoder_layout.specs.declared.slots.Slot.{Slot}
use Rattle.autocoder_layout.specs.Image.{image_of}
use Rattle.autocoder_layout.specs.CardFaults.{faults_of}
use Rattle.autocoder.specs.declared.faults.Faults.{Faults}
use Rattle.autocoder.specs.declared.faults.Faulty.{Faulty}
use Rattle.autocoder.specs.declared.faults.Faults.TheVariants.{Source, NoMemory}
use Rattle.autocoder.specs.Assembly.{Assembly}

-- how many positions of storage the machine of a source has
abbrev pub size_for : List Card → ℕ
size_for source = positions_of (size_of source)

-- the one layout of a source
abbrev pub layout_for : List Card → List Laid
layout_for source = layout_of (size_for source) (lines_of false source)

-- a source with the slots and literals of its one layout
abbrev pub laid_for : List Card → Layout
laid_for source = laid_out (source_read source)

-- the start of a program whose source ends with this line: the address on END, or else the first
-- instruction
abbrev pub start_by : ℕ → List Slot → Line → ℕ
start_by size slots (Ok (statement.End (Some expression) labelled)) =
    position_in (value_in size slots expression)
start_by size slots (Ok (statement.End None labelled)) =
    option_map_or (λ slot. slot.before) (find (λ slot. is_instruction slot.role) slots) 0
start_by size slots line = 0

-- the line of the last card of a source
unfoldable pub last_line : List Card → Line
last_line source = slice_index_or (map statement_on source) (length source - 1) silent

-- the image of a source's program: the positions that it fills
abbrev pub image_for : List Card → List Cell
image_for source = image_of (size_for source) (layout_for source)

-- the position at which the program of a source starts
abbrev pub start_for : List Card → ℕ
start_for source = start_by (size_for source) (slots_of (layout_for source)) (last_line source)

-- this is the program of the source, by the source's one layout
pub record IsProgramOf (source : List Card) (program : Assembly) : Type 0 where
  pub size : program.size ≡ size_of source
  pub image : program.image ≡ image_for source
  pub start : program.start ≡ start_for source
  pub last : program.last ≡ length source
  pub lines : program.lines ≡ lines_of false source
  pub slots : program.slots ≡ slots_of (layout_for source)
  pub literals : program.literals
      ≡ literals_of (lines_of false source) (slots_of (layout_for source))

-- a source has no faults
abbrev pub IsFaultless : List Card → Type 0
IsFaultless source = faults_of (has_end source) (layout_for source) ≡ []

-- these are the faults of a source, at least one, and its one layout
pub record IsFaulty (source : List Card) (faulty : Faulty) : Type 0 where
  pub layout : faulty.layout ≡ laid_for source
  pub faults : faulty.faults.items ≡ faults_of (has_end source) (layout_for source)
  pub some : faulty.faults.items ≢ []

-- these are the faults of the source, at least one, with its layout; or memory ran out
abbrev pub AreFaults : List Card → Faults → Type 0
AreFaults source (Source faulty) = IsFaulty source faulty
AreFaults source NoMemory = Unit {0}
