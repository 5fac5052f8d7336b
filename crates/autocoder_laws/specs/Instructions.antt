-- instructions as the assembler makes them and the machine reads them
use Rattle.std.specs.Prelude.{ℕ, ◌≡◌, ◌+◌, ◌-◌, ⊤, nat_lt, true, List, length, slice_index, Option, Some, None, Ok, is_some}
use Rattle.std.specs.List.{All}
use Rattle.core_store.specs.Storage.{Storage, cell_at, is_marked}
use Rattle.core_store.specs.Checked.{and_then}
use Rattle.core_store.specs.declared.registers.Registers.{Registers}
use Rattle.machine.specs.Operations.{Form, form_of}
use Rattle.machine.specs.Word as machine
use Rattle.machine.specs.declared.named.Decoded.{Decoded}
use Rattle.machine.specs.declared.named.Modifier as modifier
use Rattle.autocoder_statements.specs.Mnemonics.{entry, instruction_length}
use Rattle.autocoder_statements.specs.Operands.{is_modifier}
use Rattle.autocoder_statements.specs.declared.operand_forms.OperandForm.{OperandForm}
use Rattle.autocoder_statements.specs.declared.operand_forms.OperandForm.TheVariants.{Empty, Modifier, One, OneAndModifier, Two, TwoAndModifier}
use Rattle.autocoder_statements.specs.declared.modifiers.Modifiers.{Modifiers}
use Rattle.autocoder_statements.specs.declared.operands.Operands.{Operands}
use Rattle.autocoder_statements.specs.declared.operations.Instruction.{Instruction}
use Rattle.autocoder_layout.specs.Cells.{field, instruction_codes}
use Rattle.autocoder_layout.specs.Literals.{Characters}
use Rattle.autocoder_layout.specs.declared.cells.Cell.{Cell}
use Rattle.autocoder_layout.specs.declared.slots.Slot.{Slot}
use Rattle.autocoder_laws.specs.Meanings.{Meaning, meanings}

-- ---- the forms of a mnemonic

-- how many addresses a form has
abbrev pub address_count : OperandForm → ℕ
address_count Empty = 0
address_count (Modifier modifiers) = 0
address_count (One kind) = 1
address_count (OneAndModifier kind modifiers) = 1
address_count (Two kind other) = 2
address_count (TwoAndModifier kind other modifiers) = 2

-- the characters of which a form ends in one
abbrev pub last_characters : OperandForm → Option Modifiers
last_characters Empty = None
last_characters (Modifier modifiers) = Some modifiers
last_characters (One kind) = None
last_characters (OneAndModifier kind modifiers) = Some modifiers
last_characters (Two kind other) = None
last_characters (TwoAndModifier kind other modifiers) = Some modifiers

-- a last character is there where the form has one, and the form allows it
abbrev pub IsAllowed : Option Modifiers → Option ℕ → Type 0
IsAllowed None None = ⊤
IsAllowed None (Some code) = ⊥
IsAllowed (Some modifiers) None = ⊥
IsAllowed (Some modifiers) (Some code) = is_modifier modifiers code ≡ true

-- operands of a form: as many addresses as it has, and a last character that it allows
pub record IsOfForm (form : OperandForm) (operands : Operands) : Type 0 where
  pub first : is_some operands.first ≡ nat_lt 0 (address_count form)
  pub second : is_some operands.second ≡ nat_lt 1 (address_count form)
  pub last : IsAllowed (last_characters form) operands.modifier

-- ---- how the machine reads them

-- the storage holds these cells
abbrev pub Holds : Storage → List Cell → Type 0
Holds s cells = All (λ c. cell_at s c.position ≡ (c.code, c.marked)) cells

-- an instruction with this meaning and so many characters, that works at these two positions
abbrev pub decoded_as : Meaning → modifier.Modifier → ℕ → ℕ × ℕ → Decoded
decoded_as meaning modifier count at =
    record {
      operation = meaning.operation;
      length = count;
      a = at.0;
      b = at.1;
      modifier = modifier;
    }

-- the machine reads these characters at a position, and decodes them by their meaning and their
-- form in the table of operations: no check of operation, form or last character refuses them, and
-- only an address can still be at fault
pub record IsReadAs (meaning : Meaning) (codes : List ℕ) (s : Storage) (i : ℕ) : Type 0 where
  pub form : Form
  pub listed : form_of (slice_index codes 0) (length codes) ≡ Some form
  pub modifier : modifier.Modifier
  pub says : meaning.says (slice_index codes (length codes - 1)) ≡ Some modifier
  pub word : machine.word s i ≡ Some codes
  pub decoded : (r : Registers) → machine.decoded s r codes
      ≡ and_then (machine.operands_of s form.addresses r codes) (λ at. Ok (decoded_as meaning modifier (length codes) at))

-- characters are an instruction of a mnemonic, of this length: wherever they are in storage with a
-- word mark on the first and one after the last, the machine reads them as what the mnemonic means
pub record IsInstructionOf (mnemonic : List ℕ) (count : ℕ) (codes : List ℕ) : Type 0 where
  pub meaning : Meaning
  pub named : entry meanings mnemonic ≡ Some meaning
  pub long : length codes ≡ count
  pub read : (s : Storage) (i : ℕ) → Holds s (field true i codes) →
      is_marked s (i + length codes) ≡ true → IsReadAs meaning codes s i

-- whatever the layout of its source, an instruction has the characters of one of the mnemonic, as
-- many as the layout counts
abbrev pub IsAssembledAs : List ℕ → Instruction → Type 0
IsAssembledAs mnemonic spelled =
    (size : ℕ) (slots : List Slot) (literals : List Characters) →
    IsInstructionOf mnemonic (instruction_length spelled)
    (instruction_codes size slots literals spelled)
