-- the lowest fault of a card
use Rattle.std.specs.Prelude.{ℕ, ◌≡◌, ◌≤◌, ◌⊎◌, nat_lt, nat_le, nat_eq, Bool, true, false, ◌||◌, if◌then◌else◌, List, [], ◌++◌, Option, Some, None, Ok}
use Rattle.std.specs.List.{All, list_any}
use Rattle.autocoder_statements.specs.declared.expressions.Expression.{Expression}
use Rattle.autocoder_statements.specs.declared.operands.Operand.{Operand}
use Rattle.autocoder_statements.specs.declared.operands.Operand.TheVariants.{Address}
use Rattle.autocoder_statements.specs.declared.reading.Statement.TheVariants as statement
use Rattle.autocoder_layout.specs.Source.{Line}
use Rattle.autocoder_layout.specs.Names.{value_in}
use Rattle.autocoder_layout.specs.declared.cells.Cell.{Cell}
use Rattle.autocoder_layout.specs.declared.faults.SourceFault.{SourceFault}
use Rattle.autocoder_layout.specs.declared.faults.SourceFault.TheVariants.{UnknownName, Outside, Reserved, Filled}
use Rattle.autocoder_layout.specs.declared.names.Value.{Value}
use Rattle.autocoder_layout.specs.declared.names.Value.TheVariants as value
use Rattle.autocoder_layout.specs.declared.slots.Slot.{Slot}

-- the first position that a source may fill, since a card is read into those below it
abbrev pub first_free : ℕ
first_free = 81

-- ---- addresses

-- the expression of an operand that is an address
abbrev pub expression_in : Option Operand → Option Expression
expression_in (Some (Address address)) = Some address.expression
expression_in other = None

-- the expressions of a card's addresses, whose names any card of the source may define
unfoldable pub expressions_of : Line → Option Expression × Option Expression
expressions_of (Ok (statement.Instruction label spelled)) =
    (expression_in spelled.first, expression_in spelled.second)
expressions_of (Ok (statement.End start labelled)) = (start, None)
expressions_of line = (None, None)

-- whether a value is unknown, since its name is not defined
abbrev pub is_unknown : Value → Bool
is_unknown value.Unknown = true
is_unknown other = false

-- whether a value is no position of storage
abbrev pub is_outside : Value → Bool
is_outside value.Outside = true
is_outside other = false

-- whether an expression, if there is one, has a name that is not defined
abbrev pub has_unknown_name : ℕ → List Slot → Option Expression → Bool
has_unknown_name size slots None = false
has_unknown_name size slots (Some expression) = is_unknown (value_in size slots expression)

-- whether the value of an expression, if there is one, is no position of storage
abbrev pub has_value_outside : ℕ → List Slot → Option Expression → Bool
has_value_outside size slots None = false
has_value_outside size slots (Some expression) = is_outside (value_in size slots expression)

-- whether an address of the card has a name that is not defined
unfoldable pub names_unknown : ℕ → List Slot → Line → Bool
names_unknown size slots line = has_unknown_name size slots (expressions_of line).0
    || has_unknown_name size slots (expressions_of line).1

-- whether the value of an address of the card is no position of storage
unfoldable pub names_outside : ℕ → List Slot → Line → Bool
names_outside size slots line = has_value_outside size slots (expressions_of line).0
    || has_value_outside size slots (expressions_of line).1

-- ---- positions

-- whether the area that a DS card passes goes beyond storage
abbrev pub passes_outside : ℕ → Slot → Line → Bool
passes_outside size slot (Ok (statement.Area label positions)) = nat_lt size slot.after
passes_outside size slot line = false

-- whether one of these cells is beyond storage
abbrev pub fills_outside : ℕ → List Cell → Bool
fills_outside size cells = list_any (λ c. nat_le size c.position) cells

-- whether one of these cells is in a position that a source may not fill
abbrev pub fills_reserved : List Cell → Bool
fills_reserved cells = list_any (λ c. nat_lt c.position first_free) cells

-- whether one of these cells fills the position
abbrev pub is_filled : List Cell → ℕ → Bool
is_filled filled position = list_any (λ c. nat_eq c.position position) filled

-- whether one of the card's cells is in a position that is filled already
abbrev pub is_overlapping : List Cell → List Cell → Bool
is_overlapping filled cells = list_any (λ c. is_filled filled c.position) cells

-- a beginning of the card's cells that is enough to judge the card: all of them, or some with one
-- beyond storage when all others after them are too
pub record IsCut (size : ℕ) (cells cut : List Cell) : Type 0 where
  pub rest : List Cell
  pub all : cells ≡ cut ++ rest
  pub beyond : All (λ c. size ≤ c.position) rest
  pub enough : (rest ≡ []) ⊎ (fills_outside size cut ≡ true)

-- ---- the lowest fault

-- the first fault if there is one, else the second
abbrev pub fault_or : Option SourceFault → Option SourceFault → Option SourceFault
fault_or (Some fault) rest = Some fault
fault_or None rest = rest

-- whether an address or a position of the card is beyond storage
unfoldable pub is_beyond : ℕ → List Slot → Slot → List Cell → Line → Bool
is_beyond size slots slot cells line =
    names_outside size slots line || (passes_outside size slot line || fills_outside size cells)

-- the lowest fault of a card, by whether one of its positions is filled already
unfoldable pub fault_by : ℕ → List Slot → Bool → Slot → List Cell → Line → Option SourceFault
fault_by size slots overlaps slot cells line =
    fault_or slot.fault
    (if names_unknown size slots line then Some UnknownName
    else (if is_beyond size slots slot cells line then Some Outside
    else (if fills_reserved cells then Some Reserved
    else (if overlaps then Some Filled else None))))

-- the lowest fault of a card, where the earlier cards fill these cells
unfoldable pub fault_of : ℕ → List Slot → List Cell → Slot → List Cell → Line → Option SourceFault
fault_of size slots filled slot cells line =
    fault_by size slots (is_overlapping filled cells) slot cells line
