-- what holds of the operations and the operands that a report tells, and of the caret under them
use Rattle.std.specs.Prelude.{ℕ, ◌≡◌, ◌+◌, ◌<◌, ◌≤◌, true, List, length, Option, Some}
use Rattle.cards.specs.declared.decks.Card.{Card}
use Rattle.autocoder_statements.specs.Laws.{names}
use Rattle.autocoder_statements.specs.Mnemonics.{operation_named}
use Rattle.autocoder_statements.specs.Statements.{operand_field}
use Rattle.autocoder_statements.specs.declared.operand_forms.OperandForms.{OperandForms}
use Rattle.autocoder_statements.specs.declared.operations.Operation.{Operation}
use Rattle.source_reports.specs.ExpectedOperands.{expected_text, forms_text}
use Rattle.source_reports.specs.OperandHints.{wrong_column}
use Rattle.source_reports.specs.OperandStops.{stop_of}
use Rattle.source_reports.specs.OperationNames.{is_near, name_at}

-- a name is one of the table of operations, an operation field nearly is it, and no other name of
-- the table is one that the field nearly is
pub record IsOnlyNearName (field name : List ℕ) : Type 0 where
  pub index : ℕ
  pub within : index < length names
  pub listed : name_at names index ≡ name
  pub near : is_near field name ≡ true
  pub only : (k : ℕ) → k < length names → is_near field (name_at names k) ≡ true → k ≡ index

-- what is told as the operands of the operation that this word names are the forms of its row in the
-- table of mnemonics
pub record AreFormsOfRow (word : List ℕ) (row : ℕ × Option ℕ × OperandForms) : Type 0 where
  pub operation : Operation
  pub named : operation_named word ≡ Some operation
  pub told : expected_text operation ≡ forms_text row.2

-- the caret under a wrong operand stands at or before the first character behind what can be read of
-- the operand field by the card's operation
abbrev pub IsCaretAtStop : Card → Operation → Type 0
IsCaretAtStop card known =
    wrong_column card ≤ 21 + (stop_of known (operand_field card)).count
