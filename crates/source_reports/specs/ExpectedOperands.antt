-- what the operand field of an operation should be, in the letters of the manual: a and b fields, i
-- an address to branch to, d a character
use Rattle.std.specs.Prelude.{ℕ, if◌then◌else◌, List, [], ◌∷◌, ◌++◌, Option, Some, None, codes}
use Rattle.std.specs.List.{flat_map, range_with_len}
use Rattle.bcd.specs.Table.{glyph_of}
use Rattle.autocoder_statements.specs.Operands.{is_modifier}
use Rattle.autocoder_statements.specs.declared.modifiers.Modifiers.{Modifiers}
use Rattle.autocoder_statements.specs.declared.modifiers.Modifiers.TheVariants.{Any}
use Rattle.autocoder_statements.specs.declared.operand_forms.OperandForm.{OperandForm}
use Rattle.autocoder_statements.specs.declared.operand_forms.OperandForm.TheVariants as form
use Rattle.autocoder_statements.specs.declared.operand_forms.OperandForms.{OperandForms}
use Rattle.autocoder_statements.specs.declared.operand_kinds.OperandKind.{OperandKind}
use Rattle.autocoder_statements.specs.declared.operand_kinds.OperandKind.TheVariants.{Branch, Field}
use Rattle.autocoder_statements.specs.declared.operations.Operation.{Operation}
use Rattle.autocoder_statements.specs.declared.operations.Operation.TheVariants as operation

-- ---- the last character

-- the glyph of the character of this number, if the character may be the last of an instruction
abbrev pub glyph_if_taken : Modifiers → ℕ → List ℕ
glyph_if_taken modifiers number = if is_modifier modifiers number then glyph_of number ∷ [] else []

-- the glyphs of all characters that may be the last of an instruction
unfoldable pub taken_glyphs : Modifiers → List ℕ
taken_glyphs modifiers = flat_map (glyph_if_taken modifiers) (range_with_len 0 64)

-- these words and the characters that d may be, if it may not be each
abbrev pub choice_text : List ℕ → Modifiers → List ℕ
choice_text words Any = []
choice_text words modifiers = words ++ taken_glyphs modifiers

-- ---- a form

-- the letter of the first operand: i for an address to branch to, or for a field this one
abbrev pub letter_of : List ℕ → OperandKind → List ℕ
letter_of field Branch = codes "i"
letter_of field Field = field

-- a form in letters, where a field that stands alone has this letter
unfoldable pub form_text : List ℕ → OperandForm → List ℕ
form_text alone form.Empty = codes "nothing"
form_text alone (form.Modifier modifiers) = codes "d" ++ choice_text (codes " of ") modifiers
form_text alone (form.One kind) = letter_of alone kind
form_text alone (form.OneAndModifier kind modifiers) =
    letter_of alone kind ++ (codes ",d" ++ choice_text (codes " with d of ") modifiers)
form_text alone (form.Two kind other) = letter_of (codes "a") kind ++ codes ",b"
form_text alone (form.TwoAndModifier kind other modifiers) =
    letter_of (codes "a") kind ++ (codes ",b,d" ++ choice_text (codes " with d of ") modifiers)

-- one more form, if there is one
abbrev pub or_form_text : List ℕ → Option OperandForm → List ℕ
or_form_text alone None = []
or_form_text alone (Some other) = codes " or " ++ form_text alone other

-- the letter of a field that stands alone: b where a field also stands behind an address to branch
-- to, as it does for CS
abbrev pub alone_by : Option OperandForm → List ℕ
alone_by (Some (form.Two Branch other)) = codes "b"
alone_by third = codes "a"

-- the forms of an instruction in letters
unfoldable pub forms_text : OperandForms → List ℕ
forms_text forms = form_text (alone_by forms.third) forms.form
    ++ (or_form_text (alone_by forms.third) forms.other
    ++ or_form_text (alone_by forms.third) forms.third)

-- ---- an operation

-- what the operand field of an operation should be
unfoldable pub expected_text : Operation → List ℕ
expected_text operation.Job = codes "any text"
expected_text operation.Control = codes "a digit from 1 to 6"
expected_text operation.Origin = codes "an address, as AREA&5"
expected_text operation.Equate = codes "an address, as AREA&5"
expected_text operation.MarkedConstant = codes "@text@, 125, &125, -125 or #12"
expected_text operation.Constant = codes "@text@, 125, &125, -125 or #12"
expected_text operation.Area = codes "a number from 1 on"
expected_text operation.End = codes "nothing or an address, as START"
expected_text (operation.Instruction mnemonic) = forms_text mnemonic.forms
