-- the operand field of an instruction, by the forms that it may have
use Rattle.std.specs.Prelude.{ℕ, ◌+◌, ◌==◌, Bool, not, if◌then◌else◌, List, [], ◌∷◌, drop, Option, Some, None, option_map, codes}
use Rattle.std.specs.List.{list_any}
use Rattle.bcd.specs.Table.{glyph_of}
use Rattle.autocoder_statements.specs.Characters.{begins, is_blank, is_ended}
use Rattle.autocoder_statements.specs.Expressions.{◌>>=◌, address}
use Rattle.autocoder_statements.specs.Constants.{literal}
use Rattle.autocoder_statements.specs.declared.operand_kinds.OperandKind.{OperandKind}
use Rattle.autocoder_statements.specs.declared.operand_kinds.OperandKind.TheVariants.{Branch, Field}
use Rattle.autocoder_statements.specs.declared.modifiers.Modifiers.{Modifiers}
use Rattle.autocoder_statements.specs.declared.modifiers.Modifiers.TheVariants.{Any, Switches, ZonesAndMarks, Carriage, Pockets}
use Rattle.autocoder_statements.specs.declared.operand_forms.OperandForm.{OperandForm}
use Rattle.autocoder_statements.specs.declared.operand_forms.OperandForm.TheVariants.{Empty, Modifier, One, OneAndModifier, Two, TwoAndModifier}
use Rattle.autocoder_statements.specs.declared.operands.Operand.{Operand}
use Rattle.autocoder_statements.specs.declared.operands.Operand.TheVariants.{Address, Literal}
use Rattle.autocoder_statements.specs.declared.operands.Operands.{Operands}

-- whether a text begins as literals do, and addresses do not: with @, & or -
abbrev pub begins_literal : List ℕ → Bool
begins_literal text = list_any (λ glyph. begins (glyph ∷ []) text) (codes "@&-")

-- an operand of this kind: an address, or for a field also a literal
unfoldable pub operand : OperandKind → List ℕ → Option (Operand × ℕ)
operand Branch text = option_map (λ found. (Address found.0, found.1)) (address text)
operand Field text =
    if begins_literal text then option_map (λ found. (Literal found.0, found.1)) (literal text)
    else option_map (λ found. (Address found.0, found.1)) (address text)

-- an operand of this kind after a comma
unfoldable pub next_operand : OperandKind → List ℕ → Option (Operand × ℕ)
next_operand kind text =
    if begins (codes ",") text
    then option_map (λ found. (found.0, 1 + found.1)) (operand kind (drop 1 text))
    else None

-- whether a character's glyph is one of these
abbrev pub is_among : List ℕ → ℕ → Bool
is_among glyphs code = list_any (λ glyph. glyph == glyph_of code) glyphs

-- whether a character may be the last of an instruction that takes these
unfoldable pub is_modifier : Modifiers → ℕ → Bool
is_modifier Any code = not (is_blank code)
is_modifier Switches code = is_among (codes "BCDEFG") code
is_modifier ZonesAndMarks code = is_among (codes "12BKS3CLT") code
is_modifier Carriage code = is_among (codes "JKL/ST1A") code
is_modifier Pockets code = is_among (codes "1248") code

-- the last character of an instruction, alone at the end of the field
unfoldable pub modifier : Modifiers → List ℕ → Option ℕ
modifier modifiers [] = None
modifier modifiers (code ∷ text) =
    if is_modifier modifiers code then (if is_ended text then Some code else None) else None

-- the last character of an instruction, after a comma at the end of the field
unfoldable pub next_modifier : Modifiers → List ℕ → Option ℕ
next_modifier modifiers text =
    if begins (codes ",") text then modifier modifiers (drop 1 text) else None

-- the operands of an instruction with a last character
abbrev pub with_modifier : Option Operand → Option Operand → ℕ → Operands
with_modifier first second code = record { first = first; second = second; modifier = Some code }

-- the operands of an instruction without a last character, if the field ends here
abbrev pub without_modifier : Option Operand → Option Operand → List ℕ → Option Operands
without_modifier first second text = if is_ended text
    then Some (record { first = first; second = second; modifier = None }) else None

-- the operands of a whole operand field in this form
unfoldable pub operands : OperandForm → List ℕ → Option Operands
operands Empty text = without_modifier None None text
operands (Modifier modifiers) text = option_map (with_modifier None None) (modifier modifiers text)
operands (One kind) text = do
  first ← operand kind text
  without_modifier (Some first.0) None (drop first.1 text)
operands (OneAndModifier kind modifiers) text = do
  first ← operand kind text
  option_map (with_modifier (Some first.0) None) (next_modifier modifiers (drop first.1 text))
operands (Two kind other) text = do
  first ← operand kind text
  second ← next_operand other (drop first.1 text)
  without_modifier (Some first.0) (Some second.0) (drop second.1 (drop first.1 text))
operands (TwoAndModifier kind other modifiers) text = do
  first ← operand kind text
  second ← next_operand other (drop first.1 text)
  option_map (with_modifier (Some first.0) (Some second.0))
      (next_modifier modifiers (drop second.1 (drop first.1 text)))
