-- instructions as statements, and what the assembler makes of these
use Rattle.std.specs.Prelude.{ℕ, ◌≡◌, ◌<◌, ⊤, List, [], ◌++◌, Option, Some, None}
use Rattle.core_store.specs.Storage.{largest_size}
use Rattle.autocoder_statements.specs.Mnemonics.{instruction}
use Rattle.autocoder_statements.specs.Statements.{operation_in}
use Rattle.autocoder_statements.specs.declared.expressions.Base.TheVariants.{Number}
use Rattle.autocoder_statements.specs.declared.expressions.Adjustment.TheVariants.{Nothing}
use Rattle.autocoder_statements.specs.declared.operands.Operand.{Operand}
use Rattle.autocoder_statements.specs.declared.operands.Operand.TheVariants.{Address, Literal}
use Rattle.autocoder_statements.specs.declared.operations.Instruction.{Instruction}
use Rattle.autocoder_statements.specs.declared.operations.Mnemonic.{Mnemonic}
use Rattle.autocoder_statements.specs.declared.operations.Operation.TheVariants as operation
use Rattle.autocoder_layout.specs.Cells.{instruction_codes}
use Rattle.autocoder_layout.specs.Literals.{Characters}
use Rattle.autocoder_layout.specs.declared.slots.Slot.{Slot}
use Rattle.disassembly.specs.Texts.{operand_text}
use Rattle.disassembly.specs.declared.statements.Statement.{Statement}
use Rattle.autocoder_laws.specs.Texts.{characters, IsEnd}

-- the assembler makes these characters of a statement: its name in the operation field is that of a
-- mnemonic; its text without names in the operand field, whatever comment comes after it, is read
-- as one instruction; and this has the characters, whatever the layout of its source
pub record IsMadeOf (statement : Statement) (word : List ℕ) : Type 0 where
  pub mnemonic : Mnemonic
  pub spelled : Instruction
  pub named : operation_in (characters statement.name) ≡ Some (operation.Instruction mnemonic)
  pub read : (rest : List ℕ) → IsEnd rest →
      instruction mnemonic (operand_text [] statement ++ rest) ≡ Some spelled
  pub made : (slots : List Slot) (literals : List Characters) →
      instruction_codes largest_size slots literals spelled ≡ word

-- an operand, if there is one, is a number below 16000, with or without an index location
abbrev pub IsNumbered : Option Operand → Type 0
IsNumbered None = ⊤
IsNumbered (Some (Literal text)) = ⊥
IsNumbered (Some (Address address)) = (n : ℕ) × (n < largest_size)
    × (address.expression ≡ record { base = Number n; adjustment = Nothing })
