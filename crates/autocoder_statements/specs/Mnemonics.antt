-- the names in the operation field: orders to the assembler, and mnemonics of instructions
use Rattle.std.specs.Prelude.{ℕ, ◌≡◌, ◌⊎◌, ◌+◌, ◌*◌, ◌-◌, ◌==◌, if◌then◌else◌, List, [], ◌∷◌, ◌++◌, length, replicate, Option, Some, None, option_map, unwrap_or, codes, position}
use Rattle.bcd.specs.Table.{glyphs, byte}
use Rattle.autocoder_statements.specs.Characters.{begins}
use Rattle.autocoder_statements.specs.Operands.{operands}
use Rattle.autocoder_statements.specs.declared.operand_forms.OperandForm.{OperandForm}
use Rattle.autocoder_statements.specs.declared.operand_forms.OperandForm.TheVariants.{Empty, Modifier, One, OneAndModifier, Two, TwoAndModifier}
use Rattle.autocoder_statements.specs.declared.operand_kinds.OperandKind.TheVariants.{Branch, Field}
use Rattle.autocoder_statements.specs.declared.modifiers.Modifiers.TheVariants.{Any, Switches, ZonesAndMarks, Carriage, Pockets}
use Rattle.autocoder_statements.specs.declared.operands.Operands.{Operands}
use Rattle.autocoder_statements.specs.declared.operand_forms.OperandForms.{OperandForms}
use Rattle.autocoder_statements.specs.declared.operations.Mnemonic.{Mnemonic}
use Rattle.autocoder_statements.specs.declared.operations.Operation.{Operation}
use Rattle.autocoder_statements.specs.declared.operations.Operation.TheVariants as operation
use Rattle.autocoder_statements.specs.declared.operations.Instruction.{Instruction}

-- ---- the table

-- a name with blanks after it, as wide as the five columns of the operation field
abbrev pub name_field : List ℕ → List ℕ
name_field name = name ++ replicate (5 - length name) (byte (codes " "))

-- the operand forms of an operation that has one form
abbrev pub one_form : OperandForm → OperandForms
one_form form = record { form = form; other = None; third = None }

-- the operand forms of an operation that has either of two
abbrev pub two_forms : OperandForm → OperandForm → OperandForms
two_forms form other = record { form = form; other = Some other; third = None }

-- the operand forms of an operation that has any of three
abbrev pub three_forms : OperandForm → OperandForm → OperandForm → OperandForms
three_forms form other third = record { form = form; other = Some other; third = Some third }

-- the form is one of these
abbrev pub IsAmong : OperandForms → OperandForm → Type 0
IsAmong forms form = (forms.form ≡ form) ⊎ ((forms.other ≡ Some form) ⊎ (forms.third ≡ Some form))

-- a row of the table of mnemonics: name, operation character, last character if it is fixed,
-- operand forms
abbrev pub Row : Type 0
Row = List ℕ × (ℕ × Option ℕ × OperandForms)

-- the row of a mnemonic without a fixed last character
abbrev pub plain : List ℕ → List ℕ → OperandForms → Row
plain name operation forms = (name_field name, (byte operation, None, forms))

-- the row of a mnemonic with a fixed last character, the instruction's d-character
abbrev pub fixed : List ℕ → List ℕ → List ℕ → OperandForms → Row
fixed name operation last forms = (name_field name, (byte operation, Some (byte last), forms))

-- the forms with no operand, or with an address to branch to
abbrev pub none_or_branch : OperandForms
none_or_branch = two_forms Empty (One Branch)

-- the forms with no operand, or with two fields
abbrev pub none_or_two : OperandForms
none_or_two = two_forms Empty (Two Field Field)

-- the forms with no operand, or with one field or two
abbrev pub none_one_or_two : OperandForms
none_one_or_two = three_forms Empty (One Field) (Two Field Field)

-- the form with an address to branch to
abbrev pub branch : OperandForms
branch = one_form (One Branch)

-- the table of mnemonics
unfoldable pub mnemonics : List Row
mnemonics =
    plain (codes "A") (codes "A") none_one_or_two
    ∷ plain (codes "S") (codes "S") none_one_or_two
    ∷ plain (codes "ZA") (codes "?") none_one_or_two
    ∷ plain (codes "ZS") (codes "!") none_one_or_two
    ∷ plain (codes "MCW") (codes "M") none_or_two
    ∷ plain (codes "LCA") (codes "L") none_or_two
    ∷ plain (codes "MN") (codes "D") none_or_two
    ∷ plain (codes "MZ") (codes "Y") none_or_two
    ∷ plain (codes "MCS") (codes "Z") none_or_two
    ∷ plain (codes "MCE") (codes "E") none_or_two
    ∷ plain (codes "C") (codes "C") none_or_two
    ∷ plain (codes "MA") (codes "#") (one_form (Two Field Field))
    ∷ plain (codes "SW") (codes ",") (two_forms (One Field) (Two Field Field))
    ∷ plain (codes "CW") (codes ")") (two_forms (One Field) (Two Field Field))
    ∷ plain (codes "CS") (codes "/") (three_forms Empty (One Field) (Two Branch Field))
    ∷ plain (codes "B") (codes "B") branch
    ∷ fixed (codes "BLC") (codes "B") (codes "A") branch
    ∷ fixed (codes "BCV") (codes "B") (codes "@") branch
    ∷ fixed (codes "BU") (codes "B") (codes "/") branch
    ∷ fixed (codes "BE") (codes "B") (codes "S") branch
    ∷ fixed (codes "BL") (codes "B") (codes "T") branch
    ∷ fixed (codes "BH") (codes "B") (codes "U") branch
    ∷ fixed (codes "BAV") (codes "B") (codes "Z") branch
    ∷ plain (codes "BSS") (codes "B") (one_form (OneAndModifier Branch Switches))
    ∷ plain (codes "BCE") (codes "B") (one_form (TwoAndModifier Branch Field Any))
    ∷ plain (codes "BWZ") (codes "V") (one_form (TwoAndModifier Branch Field ZonesAndMarks))
    ∷ fixed (codes "BW") (codes "V") (codes "1") (one_form (Two Branch Field))
    ∷ plain (codes "R") (codes "1") none_or_branch
    ∷ plain (codes "W") (codes "2") none_or_branch
    ∷ plain (codes "WR") (codes "3") none_or_branch
    ∷ plain (codes "P") (codes "4") none_or_branch
    ∷ plain (codes "RP") (codes "5") none_or_branch
    ∷ plain (codes "WP") (codes "6") none_or_branch
    ∷ plain (codes "WRP") (codes "7") none_or_branch
    ∷ plain (codes "CC") (codes "F") (one_form (Modifier Carriage))
    ∷ plain (codes "SS") (codes "K") (one_form (Modifier Pockets))
    ∷ plain (codes "H") (codes ".") none_or_branch
    ∷ plain (codes "SBR") (codes "H") (one_form (One Field))
    ∷ plain (codes "SAR") (codes "Q") (one_form (One Field))
    ∷ plain (codes "NOP") (codes "N") (one_form Empty)
    ∷ []

-- the table of orders to the assembler
unfoldable pub orders : List (List ℕ × Operation)
orders =
    (name_field (codes "JOB"), operation.Job)
    ∷ (name_field (codes "CTL"), operation.Control)
    ∷ (name_field (codes "ORG"), operation.Origin)
    ∷ (name_field (codes "EQU"), operation.Equate)
    ∷ (name_field (codes "DCW"), operation.MarkedConstant)
    ∷ (name_field (codes "DC"), operation.Constant)
    ∷ (name_field (codes "DS"), operation.Area)
    ∷ (name_field (codes "END"), operation.End)
    ∷ []

-- ---- the operation that a word names

-- the entry of the first row whose name a word begins with, if there is one
unfoldable pub entry : {A : Type 0} → List (List ℕ × A) → List ℕ → Option A
entry [] word = None
entry (row ∷ rows) word = if begins row.0 word then Some row.1 else entry rows word

-- the first of two things if it is there, else the second
abbrev pub or_else : {A : Type 0} → Option A → Option A → Option A
or_else (Some x) other = Some x
or_else None other = other

-- the mnemonic of a row's operation character, last character and operand forms
abbrev pub mnemonic_of : (ℕ × Option ℕ × OperandForms) → Mnemonic
mnemonic_of row = record { operation = row.0; modifier = row.1; forms = row.2 }

-- the operation that a word of five characters names, if it names one
unfoldable pub operation_named : List ℕ → Option Operation
operation_named word = or_else (entry orders word)
    (option_map (λ row. operation.Instruction (mnemonic_of row)) (entry mnemonics word))

-- ---- the instruction of a mnemonic

-- the number of the character with this glyph
unfoldable pub code_of : ℕ → ℕ
code_of glyph = unwrap_or (position (λ g. g == glyph) glyphs) 0

-- the operands in a field, if there is a form and the field has it
abbrev pub operands_if : Option OperandForm → List ℕ → Option Operands
operands_if None text = None
operands_if (Some form) text = operands form text

-- the operands in a field, by the first of the forms that it has
unfoldable pub operands_in : OperandForms → List ℕ → Option Operands
operands_in forms text = or_else (operands forms.form text)
    (or_else (operands_if forms.other text) (operands_if forms.third text))

-- the instruction of a mnemonic with these operands; its last character is the field's, or else the
-- mnemonic's own
abbrev pub instruction_with : Mnemonic → Operands → Instruction
instruction_with mnemonic operands = record {
  operation = code_of mnemonic.operation;
  first = operands.first;
  second = operands.second;
  modifier = or_else operands.modifier (option_map code_of mnemonic.modifier);
}

-- the instruction of a mnemonic with a whole operand field
unfoldable pub instruction : Mnemonic → List ℕ → Option Instruction
instruction mnemonic text = option_map (instruction_with mnemonic) (operands_in mnemonic.forms text)

-- how many there are: 1, or 0 if there is none
abbrev pub present : {A : Type 0} → Option A → ℕ
present None = 0
present (Some x) = 1

-- how many positions an instruction takes: 1 for the operation, 3 for each address, and 1 for the
-- last character if there is one
abbrev pub instruction_length : Instruction → ℕ
instruction_length instruction = 1 + 3 * present instruction.first + 3 * present instruction.second
    + present instruction.modifier
