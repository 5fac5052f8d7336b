-- how far the operand field of a card can be read, and what the field should have there
use Rattle.std.specs.Prelude.{ℕ, ◌+◌, ◌-◌, ◌==◌, nat_lt, nat_le, Bool, false, not, ◌&&◌, ◌||◌, if◌then◌else◌, List, length, take, drop, slice_index_or, Option, Some, None, option_map, is_some, codes}
use Rattle.std.specs.List.{list_all}
use Rattle.bcd.specs.Table.{glyph_of, byte}
use Rattle.autocoder_statements.specs.Characters.{is_blank}
use Rattle.autocoder_statements.specs.Expressions.{digit_run, most_digits}
use Rattle.autocoder_statements.specs.Operands.{operand, is_modifier}
use Rattle.autocoder_statements.specs.declared.modifiers.Modifiers.{Modifiers}
use Rattle.autocoder_statements.specs.declared.operand_forms.OperandForm.{OperandForm}
use Rattle.autocoder_statements.specs.declared.operand_forms.OperandForm.TheVariants as form
use Rattle.autocoder_statements.specs.declared.operand_forms.OperandForms.{OperandForms}
use Rattle.autocoder_statements.specs.declared.operand_kinds.OperandKind.{OperandKind}
use Rattle.autocoder_statements.specs.declared.operand_kinds.OperandKind.TheVariants.{Branch, Field}
use Rattle.autocoder_statements.specs.declared.operands.Operand as operands
use Rattle.autocoder_statements.specs.declared.operands.Operand.TheVariants.{Address, Literal}
use Rattle.autocoder_statements.specs.declared.operations.Operation.{Operation}
use Rattle.autocoder_statements.specs.declared.operations.Operation.TheVariants as operation
use Rattle.source_reports.specs.declared.operand_stops.Stop.{Stop}
use Rattle.source_reports.specs.declared.operand_stops.Wanted.{Wanted}
use Rattle.source_reports.specs.declared.operand_stops.Wanted.TheVariants as wanted

-- ---- the characters of a field

-- the character of a field behind so many others, or a blank behind the field's end
abbrev pub character_at : List ℕ → ℕ → ℕ
character_at field count = slice_index_or field count 0

-- the glyph of a field behind so many characters, or a blank behind the field's end
abbrev pub glyph_at : List ℕ → ℕ → ℕ
glyph_at field count = glyph_of (character_at field count)

-- whether a field has a comma behind so many characters
abbrev pub has_comma : List ℕ → ℕ → Bool
has_comma field count =
    nat_lt count (length field) && (glyph_of (slice_index_or field count 0) == byte (codes ","))

-- whether the operands end behind so many characters: the next two columns are blank, as far as the
-- field has columns
abbrev pub ends_at : List ℕ → ℕ → Bool
ends_at field count = nat_le (length field) count
    || (is_blank (slice_index_or field count 0) && is_blank (character_at field (count + 1)))

-- ---- a stop

-- a stop behind so many characters, where this is wanted
abbrev pub at : ℕ → Wanted → Stop
at count what = record { count = count; wanted = what }

-- the one of two stops that is farther on, or else the second one
abbrev pub farther : Stop → Stop → Stop
farther one other = if nat_lt other.count one.count then one else other

-- ---- instructions

-- how many characters of a field come before the end of an operand of this kind that begins behind
-- so many of them, if there is one
abbrev pub operand_end : OperandKind → ℕ → List ℕ → Option ℕ
operand_end kind count field =
    option_map (λ found. count + found.1) (operand kind (drop count field))

-- the stop at the last character of an instruction, which is wanted behind so many characters
abbrev pub character_stop : Modifiers → ℕ → List ℕ → Stop
character_stop modifiers count field = if is_modifier modifiers (character_at field count)
    then at (count + 1) wanted.LastEnd else at count (wanted.Last modifiers)

-- the stop behind an operand: the field's end is wanted there, or a comma and a last character
abbrev pub stop_behind : Option Modifiers → ℕ → List ℕ → Stop
stop_behind None count field = at count wanted.End
stop_behind (Some modifiers) count field = if has_comma field count
    then character_stop modifiers (count + 1) field else at count wanted.Comma

-- the stop where an operand of this kind ends here, if there is one, with or without a last
-- character behind it
abbrev pub stop_by_end : OperandKind → Option Modifiers → ℕ → List ℕ → Option ℕ → Stop
stop_by_end kind last count field None = at count (wanted.Operand kind)
stop_by_end kind last count field (Some end) = stop_behind last end field

-- the stop of one operand behind so many characters, with or without a last character behind it
abbrev pub stop_of_one : OperandKind → Option Modifiers → ℕ → List ℕ → Stop
stop_of_one kind last count field =
    stop_by_end kind last count field (operand_end kind count field)

-- the stop of two operands of which the first ends here, if there is one
abbrev pub stop_by_first : OperandKind → OperandKind → Option Modifiers → List ℕ → Option ℕ → Stop
stop_by_first kind other last field None = at 0 (wanted.Operand kind)
stop_by_first kind other last field (Some end) = if has_comma field end
    then stop_of_one other last (end + 1) field else at end wanted.Comma

-- the stop of two operands with a comma between them, with or without a last character behind them
abbrev pub stop_of_two : OperandKind → OperandKind → Option Modifiers → List ℕ → Stop
stop_of_two kind other last field =
    stop_by_first kind other last field (operand_end kind 0 field)

-- the stop of a field that is read in this form
unfoldable pub form_stop : OperandForm → List ℕ → Stop
form_stop form.Empty field = at 0 wanted.End
form_stop (form.Modifier modifiers) field = character_stop modifiers 0 field
form_stop (form.One kind) field = stop_of_one kind None 0 field
form_stop (form.OneAndModifier kind modifiers) field = stop_of_one kind (Some modifiers) 0 field
form_stop (form.Two kind other) field = stop_of_two kind other None field
form_stop (form.TwoAndModifier kind other modifiers) field =
    stop_of_two kind other (Some modifiers) field

-- the farther of a stop and the one of this form, if there is a form
abbrev pub or_farther : Stop → Option OperandForm → List ℕ → Stop
or_farther stop None field = stop
or_farther stop (Some other) field = farther stop (form_stop other field)

-- the stop of a field that may have any of these forms: the farthest one
unfoldable pub forms_stop : OperandForms → List ℕ → Stop
forms_stop forms field =
    or_farther (or_farther (form_stop forms.form field) forms.other field) forms.third field

-- ---- cards that are no instructions

-- how many characters an operand of so many takes without its index location, which takes three
abbrev pub plain_length : operands.Operand → ℕ → ℕ
plain_length (Address address) count = if is_some address.index then count - 3 else count
plain_length (Literal text) count = count

-- the stop of an address, if there is one, which has no index location
abbrev pub address_stop : Option (operands.Operand × ℕ) → Stop
address_stop None = at 0 (wanted.Operand Branch)
address_stop (Some found) = at (plain_length found.0 found.1) wanted.End

-- whether all of these characters are the digit 0
abbrev pub are_zeros : List ℕ → Bool
are_zeros digits = list_all (λ code. glyph_of code == byte (codes "0")) digits

-- whether a text begins with a number of one to five digits that is not 0
unfoldable pub begins_positive : List ℕ → Bool
begins_positive text = if digit_run text == 0 then false
    else (if nat_lt most_digits (digit_run text) then false
    else not (are_zeros (take (digit_run text) text)))

-- the stop of a number that is not 0, behind so many characters
abbrev pub number_stop : ℕ → List ℕ → Stop
number_stop count field = if begins_positive (drop count field)
    then at (count + digit_run (drop count field)) wanted.End else at count wanted.Number

-- whether literals begin with this glyph: @, & or -
abbrev pub opens_literal : ℕ → Bool
opens_literal glyph = (glyph == byte (codes "@"))
    || ((glyph == byte (codes "&")) || (glyph == byte (codes "-")))

-- the stop of a constant
unfoldable pub constant_stop : List ℕ → Stop
constant_stop field =
    if glyph_at field 0 == byte (codes "#") then number_stop 1 field
    else (if nat_lt 0 (digit_run field) then at (digit_run field) wanted.End
    else (if opens_literal (glyph_at field 0) then stop_of_one Field None 0 field
    else at 0 wanted.Constant))

-- whether a glyph is one of the digits that give a size, 1 to 6
abbrev pub gives_size : ℕ → Bool
gives_size glyph = nat_le (byte (codes "1")) glyph && nat_le glyph (byte (codes "6"))

-- the stop of a size
abbrev pub size_stop : List ℕ → Stop
size_stop field = if gives_size (glyph_at field 0) then at 1 wanted.End else at 0 wanted.Size

-- the stop of the start of a program, which may be left out
abbrev pub start_stop : List ℕ → Stop
start_stop field = if ends_at field 0 then at 0 wanted.End else address_stop (operand Branch field)

-- ---- an operation

-- where the reading of an operand field stops, by the operation
unfoldable pub stop_of : Operation → List ℕ → Stop
stop_of operation.Job field = at 0 wanted.End
stop_of operation.Control field = size_stop field
stop_of operation.Origin field = address_stop (operand Branch field)
stop_of operation.Equate field = address_stop (operand Branch field)
stop_of operation.MarkedConstant field = constant_stop field
stop_of operation.Constant field = constant_stop field
stop_of operation.Area field = number_stop 0 field
stop_of operation.End field = start_stop field
stop_of (operation.Instruction mnemonic) field = forms_stop mnemonic.forms field
