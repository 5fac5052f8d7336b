-- the positions that a card fills
use Rattle.std.specs.Prelude.{ℕ, ◌+◌, ◌%◌, Bool, true, false, if◌then◌else◌, List, [], ◌∷◌, ◌++◌, length, min, replicate, Option, Some, None, Ok, is_some, option_to_list}
use Rattle.bcd.specs.declared.Zone.{Zone}
use Rattle.bcd.specs.declared.Zone.TheVariants as zone
use Rattle.core_store.specs.Storage.{blank_cell, largest_size}
use Rattle.addresses.specs.Addresses.{written}
use Rattle.addresses.specs.declared.tagged.IndexLocation.{IndexLocation}
use Rattle.addresses.specs.declared.tagged.IndexLocation.TheVariants.{First, Second, Third}
use Rattle.autocoder_statements.specs.declared.constants.Constant as constant
use Rattle.autocoder_statements.specs.declared.constants.Constant.TheVariants.{Blanks}
use Rattle.autocoder_statements.specs.declared.constants.Constant.TheVariants as text
use Rattle.autocoder_statements.specs.declared.operands.Operand.{Operand}
use Rattle.autocoder_statements.specs.declared.operands.Operand.TheVariants.{Address, Literal}
use Rattle.autocoder_statements.specs.declared.operations.Instruction.{Instruction}
use Rattle.autocoder_statements.specs.declared.reading.Statement.TheVariants as statement
use Rattle.autocoder_layout.specs.Source.{Line}
use Rattle.autocoder_layout.specs.Names.{value_in}
use Rattle.autocoder_layout.specs.Slots.{is_closed, place_after}
use Rattle.autocoder_layout.specs.Literals.{Characters, literal_end}
use Rattle.autocoder_layout.specs.declared.cells.Cell.{Cell}
use Rattle.autocoder_layout.specs.declared.names.Value.{Value}
use Rattle.autocoder_layout.specs.declared.names.Value.TheVariants.{Unknown, Outside, At}
use Rattle.autocoder_layout.specs.declared.slots.Slot.{Slot}

-- a filled position: the position, its character, and whether it has a word mark
abbrev pub cell : ℕ → ℕ → Bool → Cell
cell position code marked = record { position = position; code = code; marked = marked }

-- the character blank
abbrev pub blank : ℕ
blank = blank_cell.0

-- the cells with these characters, without word marks, from a place on
unfoldable pub row : ℕ → List ℕ → List Cell
row place [] = []
row place (code ∷ codes) = cell place code false ∷ row (place + 1) codes

-- the cells with these characters from a place on, with or without a word mark on the first
unfoldable pub field : Bool → ℕ → List ℕ → List Cell
field marked place [] = []
field marked place (code ∷ codes) = cell place code marked ∷ row (place + 1) codes

-- the cells of the literals, one after the other from a place on, each with a word mark on its
-- first
unfoldable pub literal_cells : ℕ → List Characters → List Cell
literal_cells place [] = []
literal_cells place (literal ∷ literals) =
    field true place literal ++ literal_cells (place + length literal) literals

-- ---- an instruction

-- the zone over an address's middle character that names its index location
abbrev pub tag : Option IndexLocation → Zone
tag None = zone.Bare
tag (Some First) = zone.A
tag (Some Second) = zone.B
tag (Some Third) = zone.AB

-- the position of an operand's value; 0 if there is none, as then the card has a fault
abbrev pub position_in : Value → ℕ
position_in Unknown = 0
position_in Outside = 0
position_in (At position) = position

-- the three characters of an operand's address, none if there is no operand
abbrev pub operand_codes : ℕ → List Slot → List Characters → Option Operand → List ℕ
operand_codes size slots literals None = []
operand_codes size slots literals (Some (Address address)) =
    written (tag address.index) (position_in (value_in size slots address.expression))
operand_codes size slots literals (Some (Literal wanted)) =
    written zone.Bare (literal_end (place_after slots) literals wanted % largest_size)

-- the characters of an instruction: its operation, its addresses and its last character
unfoldable pub instruction_codes : ℕ → List Slot → List Characters → Instruction → List ℕ
instruction_codes size slots literals spelled =
    ((spelled.operation ∷ []) ++ operand_codes size slots literals spelled.first)
    ++ operand_codes size slots literals spelled.second ++ option_to_list spelled.modifier

-- the blank with a word mark after an instruction, if the next card with a place requires it
abbrev pub blank_after : List Slot → ℕ → List Cell
blank_after later place = if is_closed later then cell place blank true ∷ [] else []

-- ---- a card

-- the characters of a constant
abbrev pub constant_codes : constant.Constant → List ℕ
constant_codes (text.Characters characters) = characters
constant_codes (Blanks count) = replicate count blank

-- a constant with at most one blank more than storage has positions, as any further would change
-- nothing
abbrev pub cut_constant : ℕ → constant.Constant → constant.Constant
cut_constant size (text.Characters characters) = text.Characters characters
cut_constant size (Blanks count) = Blanks (min count (size + 1))

-- the cells that a card fills if its slot has no fault, with the names and literals of the whole
-- source
abbrev pub filled_by : ℕ → List Slot → List Characters → List Slot → Slot → Line → List Cell
filled_by size slots literals later slot (Ok (statement.Constant label marked constant)) =
    field marked slot.before (constant_codes constant)
filled_by size slots literals later slot (Ok (statement.Instruction label spelled)) =
    field true slot.before (instruction_codes size slots literals spelled)
    ++ blank_after later slot.after
filled_by size slots literals later slot (Ok (statement.End start labelled)) =
    literal_cells slot.before literals
filled_by size slots literals later slot line = []

-- the cells that a card fills; none if its slot has a fault
unfoldable pub cells_of : ℕ → List Slot → List Characters → List Slot → Slot → Line → List Cell
cells_of size slots literals later slot line = if is_some slot.fault then []
    else filled_by size slots literals later slot line
