-- operands as they are spelled, in each form
use Rattle.std.specs.Prelude.{ℕ, ◌≡◌, not, true, List, [], ◌∷◌, Option, Some, None, Bool, codes}
use Rattle.autocoder_statements.specs.declared.operand_forms.OperandForm.{OperandForm}
use Rattle.autocoder_statements.specs.declared.operand_forms.OperandForm.TheVariants.{Empty, Modifier, One, OneAndModifier, Two, TwoAndModifier}
use Rattle.autocoder_statements.specs.declared.operand_kinds.OperandKind.{OperandKind}
use Rattle.autocoder_statements.specs.declared.operand_kinds.OperandKind.TheVariants.{Branch, Field}
use Rattle.autocoder_statements.specs.declared.modifiers.Modifiers.{Modifiers}
use Rattle.autocoder_statements.specs.declared.modifiers.Modifiers.TheVariants.{Any, Switches, ZonesAndMarks, Carriage, Pockets}
use Rattle.autocoder_statements.specs.declared.operands.Operand.{Operand}
use Rattle.autocoder_statements.specs.declared.operands.Operand.TheVariants.{Address, Literal}
use Rattle.autocoder_statements.specs.declared.operands.Operands.{Operands}
use Rattle.autocoder_laws.specs.Texts.{is_one_of, Joined, AfterComma}
use Rattle.autocoder_laws.specs.Addresses.{IsAddress}
use Rattle.autocoder_laws.specs.Constants.{IsLiteral}

-- an operand: an address, or for a field also a literal
abbrev pub IsOperand : OperandKind → Operand → List ℕ → Type 0
IsOperand kind (Address address) text = IsAddress address text
IsOperand Branch (Literal held) text = ⊥
IsOperand Field (Literal held) text = IsLiteral held text

-- whether a character may be the last of an instruction that takes these
abbrev pub is_allowed : Modifiers → ℕ → Bool
is_allowed Any code = not (is_one_of (codes " ") code)
is_allowed Switches code = is_one_of (codes "BCDEFG") code
is_allowed ZonesAndMarks code = is_one_of (codes "12BKS3CLT") code
is_allowed Carriage code = is_one_of (codes "JKL/ST1A") code
is_allowed Pockets code = is_one_of (codes "1248") code

-- the last character of an instruction
pub record IsLast (modifiers : Modifiers) (code : ℕ) (text : List ℕ) : Type 0 where
  pub allowed : is_allowed modifiers code ≡ true
  pub said : text ≡ code ∷ []

-- these operands and this last character, where they are there
abbrev pub operands_with : Option Operand → Option Operand → Option ℕ → Operands
operands_with first second last = record { first = first; second = second; modifier = last }

-- the operands of a form, with a comma between each two of them
abbrev pub AreOperands : OperandForm → Operands → List ℕ → Type 0
AreOperands Empty operands text = (operands ≡ operands_with None None None) × (text ≡ [])
AreOperands (Modifier modifiers) operands text =
    (c : ℕ) × (operands ≡ operands_with None None (Some c)) × IsLast modifiers c text
AreOperands (One kind) operands text =
    (a : Operand) × (operands ≡ operands_with (Some a) None None) × IsOperand kind a text
AreOperands (OneAndModifier kind modifiers) operands text =
    (a : Operand) × (c : ℕ) × (operands ≡ operands_with (Some a) None (Some c))
    × Joined (IsOperand kind a) (AfterComma (IsLast modifiers c)) text
AreOperands (Two kind other) operands text =
    (a : Operand) × (b : Operand) × (operands ≡ operands_with (Some a) (Some b) None)
    × Joined (IsOperand kind a) (AfterComma (IsOperand other b)) text
AreOperands (TwoAndModifier kind other modifiers) operands text =
    (a : Operand) × (b : Operand) × (c : ℕ) × (operands ≡ operands_with (Some a) (Some b) (Some c))
    × Joined (IsOperand kind a)
    (Joined (AfterComma (IsOperand other b)) (AfterComma (IsLast modifiers c))) text
