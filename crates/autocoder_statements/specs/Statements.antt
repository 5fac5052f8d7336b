-- a card of a source as a statement, or its lowest fault
use Rattle.std.specs.Prelude.{ℕ, ◌+◌, ◌-◌, ◌==◌, Bool, true, false, not, ◌||◌, if◌then◌else◌, List, take, drop, Option, Some, None, Result, Ok, Err, option_map, codes}
use Rattle.std.specs.List.{list_all}
use Rattle.cards.specs.declared.decks.Card.{Card}
use Rattle.core_store.specs.declared.sizes.Size.{Size}
use Rattle.core_store.specs.declared.sizes.Size.TheVariants.{Positions1400, Positions2000, Positions4000, Positions8000, Positions12000, Positions16000}
use Rattle.autocoder_statements.specs.Characters.{run, begins, is_blank, is_ended, with_blanks}
use Rattle.autocoder_statements.specs.Names.{name_of}
use Rattle.autocoder_statements.specs.Expressions.{positive, expression}
use Rattle.autocoder_statements.specs.Constants.{constant}
use Rattle.autocoder_statements.specs.Mnemonics.{operation_named, instruction}
use Rattle.autocoder_statements.specs.declared.characters.Class.TheVariants.{Filled}
use Rattle.autocoder_statements.specs.declared.names.Name.{Name}
use Rattle.autocoder_statements.specs.declared.expressions.Expression.{Expression}
use Rattle.autocoder_statements.specs.declared.faults.StatementFault.{StatementFault}
use Rattle.autocoder_statements.specs.declared.faults.StatementFault.TheVariants as fault
use Rattle.autocoder_statements.specs.declared.operations.Operation.{Operation}
use Rattle.autocoder_statements.specs.declared.operations.Operation.TheVariants as operation
use Rattle.autocoder_statements.specs.declared.reading.Statement.{Statement}
use Rattle.autocoder_statements.specs.declared.reading.Statement.TheVariants as statement

-- the number of columns of the operation field, 16 to 20
abbrev pub operation_columns : ℕ
operation_columns = 5

-- ---- the fields of a card

-- the characters of a card in the columns from the first to the last, numbered from 1
abbrev pub columns : ℕ → ℕ → Card → List ℕ
columns first last card = take (last + 1 - first) (drop (first - 1) card.0)

-- the label field of a card, columns 6 to 15
abbrev pub label_field : Card → List ℕ
label_field card = columns 6 15 card

-- the operation field of a card, columns 16 to 20
abbrev pub operation_field : Card → List ℕ
operation_field card = columns 16 20 card

-- the operand field of a card, columns 21 to 72
abbrev pub operand_field : Card → List ℕ
operand_field card = columns 21 72 card

-- whether a card is a comment: column 6 has an asterisk
unfoldable pub is_comment : Card → Bool
is_comment card = begins (codes "*") (label_field card)

-- how many characters a field has before its first blank
abbrev pub word_run : List ℕ → ℕ
word_run field = run Filled field

-- the word of a field: its characters before its first blank
abbrev pub word : List ℕ → List ℕ
word field = take (word_run field) field

-- whether a field has a character after its first blank that is not blank
unfoldable pub is_broken : List ℕ → Bool
is_broken field = not (list_all is_blank (drop (word_run field) field))

-- the operation that the word of an operation field names
unfoldable pub operation_in : List ℕ → Option Operation
operation_in field = operation_named (with_blanks operation_columns (word field))

-- the operation of a card, whatever other faults the card has
unfoldable pub operation_of : Card → Option Operation
operation_of card = if is_comment card then None else operation_in (operation_field card)

-- ---- labels

infixl 10 ◌>>=◌
-- the rest of the reading on what was read so far, or its fault
abbrev pub ◌>>=◌ : {A B : Type 0} → Result A StatementFault → (A → Result B StatementFault) →
    Result B StatementFault
Ok x >>= rest = rest x
Err fault >>= rest = Err fault

-- what was found, or this fault if there is nothing
abbrev pub or_fault : {A : Type 0} → StatementFault → Option A → Result A StatementFault
or_fault fault (Some x) = Ok x
or_fault fault None = Err fault

-- the label of a card that must have one, or the fault of a label
unfoldable pub must_label : List ℕ → Result Name StatementFault
must_label field = or_fault fault.Label (name_of (word field))

-- the label of a card that may have one, or the fault of a label
unfoldable pub may_label : List ℕ → Result (Option Name) StatementFault
may_label field = if word_run field == 0 then Ok None else (do
  name ← must_label field
  Ok (Some name))

-- whether a label field is not blank
abbrev pub is_labelled : List ℕ → Bool
is_labelled field = not (word_run field == 0)

-- the statement of a card that must not have a label, or the fault of a label
unfoldable pub may_not_label : List ℕ → Statement → Result Statement StatementFault
may_not_label field statement = if word_run field == 0 then Ok statement else Err fault.Label

-- ---- operand fields

-- what was read at the beginning of a field, if the field ends there
unfoldable pub whole : {A : Type 0} → List ℕ → Option (A × ℕ) → Option A
whole field None = None
whole field (Some found) = if is_ended (drop found.1 field) then Some found.0 else None

-- the size of storage by its digit in a CTL card: 1 to 6
unfoldable pub size : List ℕ → Option (Size × ℕ)
size text =
    if begins (codes "1") text then Some (Positions1400, 1)
    else (if begins (codes "2") text then Some (Positions2000, 1)
    else (if begins (codes "3") text then Some (Positions4000, 1)
    else (if begins (codes "4") text then Some (Positions8000, 1)
    else (if begins (codes "5") text then Some (Positions12000, 1)
    else (if begins (codes "6") text then Some (Positions16000, 1)
    else None)))))

-- where the program starts by the operand field of END: an expression, or nothing given if it is
-- blank
unfoldable pub start : List ℕ → Option (Option Expression)
start field = if is_ended field then Some None else option_map Some (whole field (expression field))

-- ---- statements

-- the statement of an operation with this label and operand field, or its fault, the operand
-- field's first; whether END may have its label depends on the whole source
unfoldable pub statement_of : Operation → List ℕ → List ℕ → Result Statement StatementFault
statement_of operation.Job label field = may_not_label label statement.Job
statement_of operation.Control label field = do
  size ← or_fault fault.Operand (whole field (size field))
  may_not_label label (statement.Control size)
statement_of operation.Origin label field = do
  expression ← or_fault fault.Operand (whole field (expression field))
  may_not_label label (statement.Origin expression)
statement_of operation.Equate label field = do
  expression ← or_fault fault.Operand (whole field (expression field))
  name ← must_label label
  Ok (statement.Equate name expression)
statement_of operation.MarkedConstant label field = do
  constant ← or_fault fault.Operand (whole field (constant field))
  name ← may_label label
  Ok (statement.Constant name true constant)
statement_of operation.Constant label field = do
  constant ← or_fault fault.Operand (whole field (constant field))
  name ← may_label label
  Ok (statement.Constant name false constant)
statement_of operation.Area label field = do
  positions ← or_fault fault.Operand (whole field (positive field))
  name ← may_label label
  Ok (statement.Area name positions)
statement_of operation.End label field = do
  start ← or_fault fault.Operand (start field)
  Ok (statement.End start (is_labelled label))
statement_of (operation.Instruction mnemonic) label field = do
  instruction ← or_fault fault.Operand (instruction mnemonic field)
  name ← may_label label
  Ok (statement.Instruction name instruction)

-- the statement on a card, or the fault with the lowest number
unfoldable pub statement_on : Card → Result Statement StatementFault
statement_on card =
    if is_comment card then Ok statement.Comment
    else (if is_broken (label_field card) || is_broken (operation_field card)
    then Err fault.BrokenField
    else (do
      operation ← or_fault fault.UnknownOperation (operation_in (operation_field card))
      statement_of operation (label_field card) (operand_field card)))

-- the number of a statement's fault
abbrev pub fault_number : StatementFault → ℕ
fault_number fault.BrokenField = 40
fault_number fault.UnknownOperation = 41
fault_number fault.Operand = 42
fault_number fault.Label = 43
