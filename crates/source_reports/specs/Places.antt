-- the column of a card under which the caret of its fault stands
use Rattle.std.specs.Prelude.{ℕ, ◌+◌, Bool, not, if◌then◌else◌, List, drop, Option, Some, None, Ok, option_map, position}
use Rattle.std.specs.Option.{option_map_or}
use Rattle.cards.specs.declared.decks.Card.{Card}
use Rattle.core_store.specs.Storage.{positions_of}
use Rattle.autocoder_statements.specs.Characters.{is_blank}
use Rattle.autocoder_statements.specs.Operands.{operand}
use Rattle.autocoder_statements.specs.Statements.{word_run, label_field, operation_field, operand_field}
use Rattle.autocoder_statements.specs.declared.faults.StatementFault.TheVariants.{BrokenField, UnknownOperation, Operand, Label}
use Rattle.autocoder_statements.specs.declared.operand_kinds.OperandKind.{OperandKind}
use Rattle.autocoder_statements.specs.declared.operand_kinds.OperandKind.TheVariants.{Branch, Field}
use Rattle.autocoder_statements.specs.declared.operands.Operand as operand
use Rattle.autocoder_statements.specs.declared.operands.Operand.TheVariants.{Address, Literal}
use Rattle.autocoder_statements.specs.declared.reading.Statement.TheVariants as statement
use Rattle.autocoder_layout.specs.Source.{Line}
use Rattle.autocoder_layout.specs.Layout.{Layout}
use Rattle.autocoder_layout.specs.Judging.{expressions_of, has_unknown_name, has_value_outside}
use Rattle.autocoder_layout.specs.declared.faults.SourceFault.{SourceFault}
use Rattle.autocoder_layout.specs.declared.faults.SourceFault.TheVariants.{NoMemory, Statement, TakenLabel, UnknownName, Outside, Reserved, Filled, NoEnd}
use Rattle.source_reports.specs.OperandHints.{wrong_column}

-- the first column of the label field
abbrev pub label_column : ℕ
label_column = 6

-- the first column of the operation field
abbrev pub operation_column : ℕ
operation_column = 16

-- the first column of the operand field
abbrev pub operand_column : ℕ
operand_column = 21

-- ---- a field with a character behind a blank

-- how many characters of a field come before the first one behind a blank, if there is one
unfoldable pub stray : List ℕ → Option ℕ
stray field = option_map (λ count. word_run field + count)
    (position (λ code. not (is_blank code)) (drop (word_run field) field))

-- the column of the first character behind a blank, in a field that begins at this column; another
-- column if there is none
abbrev pub column_from : ℕ → ℕ → Option ℕ → ℕ
column_from first other None = other
column_from first other (Some count) = first + count

-- the column of the first character behind a blank in the label field, or else in the operation
-- field
unfoldable pub broken_column : Card → ℕ
broken_column card = column_from label_column
    (column_from operation_column operation_column (stray (operation_field card)))
    (stray (label_field card))

-- ---- an operand

-- the kind by which an operand that was read is read again
abbrev pub kind_of : operand.Operand → OperandKind
kind_of (Address address) = Branch
kind_of (Literal text) = Field

-- how many characters this operand takes at the beginning of a field
unfoldable pub length_in : List ℕ → operand.Operand → ℕ
length_in field first = option_map_or (λ found. found.1) (operand (kind_of first) field) 0

-- the column of the second of two operands, behind the first one and a comma
abbrev pub column_of_second : Card → Option operand.Operand → Option operand.Operand → ℕ
column_of_second card (Some first) (Some second) =
    operand_column + (length_in (operand_field card) first + 1)
column_of_second card first second = operand_column

-- the column of the second operand of a card, if it has two
abbrev pub second_column : Card → Line → ℕ
second_column card (Ok (statement.Instruction label spelled)) =
    column_of_second card spelled.first spelled.second
second_column card line = operand_column

-- the column of an address: of the first one if that is at fault, or else of the second one if that
-- is at fault, or else another column
abbrev pub address_column : Card → Line → Bool → Bool → ℕ → ℕ
address_column card line first second other = if first then operand_column
    else (if second then second_column card line else other)

-- the column of the first name that is not defined
unfoldable pub unknown_column : Layout → Card → Line → ℕ
unknown_column layout card line = address_column card line
    (has_unknown_name (positions_of layout.source.size) layout.slots (expressions_of line).0)
    (has_unknown_name (positions_of layout.source.size) layout.slots (expressions_of line).1)
    operand_column

-- the column of what is outside the storage if that is no operand of an instruction or of END: the
-- operand of ORG and of EQU, or else the operation, since the card's own positions are
abbrev pub place_column : Line → ℕ
place_column (Ok (statement.Origin expression)) = operand_column
place_column (Ok (statement.Equate label expression)) = operand_column
place_column line = operation_column

-- the column of the first address that is outside the storage, or of the operation
unfoldable pub outside_column : Layout → Card → Line → ℕ
outside_column layout card line = address_column card line
    (has_value_outside (positions_of layout.source.size) layout.slots (expressions_of line).0)
    (has_value_outside (positions_of layout.source.size) layout.slots (expressions_of line).1)
    (place_column line)

-- ---- a fault

-- the column under which the caret of a card's fault stands; a missing END has none
unfoldable pub place_of : Layout → Card → Line → SourceFault → Option ℕ
place_of layout card line NoMemory = None
place_of layout card line (Statement BrokenField) = Some (broken_column card)
place_of layout card line (Statement UnknownOperation) = Some operation_column
place_of layout card line (Statement Operand) = Some (wrong_column card)
place_of layout card line (Statement Label) = Some label_column
place_of layout card line TakenLabel = Some label_column
place_of layout card line UnknownName = Some (unknown_column layout card line)
place_of layout card line Outside = Some (outside_column layout card line)
place_of layout card line Reserved = Some operation_column
place_of layout card line Filled = Some operation_column
place_of layout card line NoEnd = None
