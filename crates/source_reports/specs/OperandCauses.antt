-- what is wrong where the reading of a card's operand field stops, and how it is told
use Rattle.std.specs.Prelude.{ℕ, ◌+◌, ◌==◌, nat_lt, nat_le, Bool, ◌&&◌, ◌||◌, if◌then◌else◌, List, drop, Option, Some, None, codes}
use Rattle.bcd.specs.Table.{byte}
use Rattle.autocoder_statements.specs.Expressions.{digit_run, most_digits}
use Rattle.autocoder_statements.specs.Names.{name_run, longest_name}
use Rattle.autocoder_statements.specs.declared.operand_kinds.OperandKind.{OperandKind}
use Rattle.autocoder_statements.specs.declared.operand_kinds.OperandKind.TheVariants.{Branch, Field}
use Rattle.source_reports.specs.OperandStops.{glyph_at, ends_at, opens_literal}
use Rattle.source_reports.specs.declared.operand_causes.Cause.{Cause}
use Rattle.source_reports.specs.declared.operand_causes.Cause.TheVariants as cause
use Rattle.source_reports.specs.declared.operand_stops.Stop.{Stop}
use Rattle.source_reports.specs.declared.operand_stops.Wanted.{Wanted}
use Rattle.source_reports.specs.declared.operand_stops.Wanted.TheVariants as wanted

-- ---- what stands at a stop

-- whether this glyph is the one of this text
abbrev pub is_the : List ℕ → ℕ → Bool
is_the text glyph = glyph == byte text

-- a blank where an operand or a part of one is wanted: the first one of the field, or one behind a
-- comma
abbrev pub early_blank : ℕ → Cause
early_blank count = if count == 0 then cause.LateStart else cause.BlankBehindComma

-- a blank behind operands, which only one more would end
abbrev pub late_blank : ℕ → Cause
late_blank count = if count == 0 then cause.LateStart else cause.OneBlank

-- whether these two glyphs begin an index location
abbrev pub begins_index : ℕ → ℕ → Bool
begins_index glyph next = is_the (codes "&") glyph && is_the (codes "X") next

-- whether a glyph is a sign of numbers
abbrev pub is_sign : ℕ → Bool
is_sign glyph = is_the (codes "&") glyph || is_the (codes "-") glyph

-- a character behind an operand, by its glyph and the next one
abbrev pub behind_operand : ℕ → ℕ → Cause
behind_operand glyph next =
    if is_the (codes ",") glyph then cause.TooMany
    else (if is_the (codes "+") glyph then cause.Plus
    else (if begins_index glyph next then cause.Index
    else (if is_sign glyph then cause.Sign
    else cause.Misplaced)))

-- what follows operands, and does not end them
abbrev pub follower : ℕ → List ℕ → Cause
follower count field =
    if is_the (codes " ") (glyph_at field count) then late_blank count
    else (if count == 0 then cause.TooMany
    else behind_operand (glyph_at field count) (glyph_at field (count + 1)))

-- what follows the last character of an instruction: a blank, or the rest of a word
abbrev pub last_follower : ℕ → List ℕ → Cause
last_follower count field =
    if is_the (codes " ") (glyph_at field count) then late_blank count else cause.OneCharacter

-- whether a glyph is the number of an index location
abbrev pub is_index_number : ℕ → Bool
is_index_number glyph = nat_le (byte (codes "1")) glyph && nat_le glyph (byte (codes "3"))

-- whether the letters and digits that a text begins with name an index location
abbrev pub is_index : List ℕ → Bool
is_index text = is_the (codes "X") (glyph_at text 0)
    && (name_run text == 2 && is_index_number (glyph_at text 1))

-- a text that begins with letters and digits, a letter first, and with no address
abbrev pub wrong_name : List ℕ → Cause
wrong_name text = if nat_lt longest_name (name_run text) then cause.LongName
    else (if is_index text then cause.IndexAlone else cause.LongNumber)

-- a literal that is none, by its first two glyphs
abbrev pub wrong_literal : ℕ → ℕ → Cause
wrong_literal glyph next = if is_sign glyph then cause.Sign
    else (if is_the (codes "@") next then cause.EmptyText else cause.OpenText)

-- a text that begins with @, & or -, and with no operand of this kind
abbrev pub literal_cause : OperandKind → List ℕ → Cause
literal_cause Branch text = cause.Literal
literal_cause Field text = wrong_literal (glyph_at text 0) (glyph_at text 1)

-- a text that begins with no letter or digit, and with no operand of this kind
abbrev pub sign_cause : OperandKind → List ℕ → Cause
sign_cause kind text =
    if is_the (codes ",") (glyph_at text 0) then cause.Missing
    else (if is_the (codes "+") (glyph_at text 0) then cause.Plus
    else (if is_the (codes "*") (glyph_at text 0) then cause.Asterisk
    else (if opens_literal (glyph_at text 0) then literal_cause kind text
    else cause.NoOperand)))

-- a text that is no blank, and begins with no operand of this kind
abbrev pub operand_cause : OperandKind → List ℕ → Cause
operand_cause kind text = if nat_lt 0 (digit_run text) then cause.LongNumber
    else (if nat_lt 0 (name_run text) then wrong_name text else sign_cause kind text)

-- a text that is no blank, and begins with no constant
abbrev pub constant_cause : List ℕ → Cause
constant_cause text =
    if is_the (codes "+") (glyph_at text 0) then cause.Plus else cause.NoQuotes

-- a text that is no blank, and begins with no number, with one of over five digits, or with 0
abbrev pub number_cause : List ℕ → Cause
number_cause text = if digit_run text == 0 then cause.NoNumber
    else (if nat_lt most_digits (digit_run text) then cause.LongNumber else cause.Zero)

-- a text that is no blank, and whose first character may not be the last of the instruction
abbrev pub last_cause : List ℕ → Cause
last_cause text =
    if is_the (codes " ") (glyph_at text 1) then cause.OtherCharacter else cause.OneCharacter

-- what is wrong with a text, which is no blank, where a part of an operand field is wanted
abbrev pub part_cause : Wanted → List ℕ → Cause
part_cause (wanted.Operand kind) text = operand_cause kind text
part_cause (wanted.Last modifiers) text = last_cause text
part_cause wanted.Constant text = constant_cause text
part_cause wanted.Number text = number_cause text
part_cause other text = cause.OtherSize

-- what is wrong where a part of an operand field is wanted
abbrev pub wrong_part : Wanted → ℕ → List ℕ → Cause
wrong_part what count field = if is_the (codes " ") (glyph_at field count) then early_blank count
    else part_cause what (drop count field)

-- what is wrong where a field does not end
abbrev pub cause_at : Wanted → ℕ → List ℕ → Cause
cause_at wanted.End count field = follower count field
cause_at wanted.Comma count field = follower count field
cause_at wanted.LastEnd count field = last_follower count field
cause_at other count field = wrong_part other count field

-- what is wrong where a field ends, if the end is not what is wanted
abbrev pub ended_cause : Wanted → Option Cause
ended_cause wanted.End = None
ended_cause wanted.LastEnd = None
ended_cause other = Some cause.Missing

-- what is wrong with an operand field, by the stop of its reading, if it is not right
unfoldable pub cause_of : Stop → List ℕ → Option Cause
cause_of stop field = if ends_at field stop.count then ended_cause stop.wanted
    else Some (cause_at stop.wanted stop.count field)

-- ---- the words

-- the words for what is wrong
unfoldable pub cause_text : Cause → List ℕ
cause_text cause.Missing = codes "; an operand is missing"
cause_text cause.TooMany = codes "; an operand too many"
cause_text cause.LateStart = codes "; operands begin in 21, comments in 23"
cause_text cause.BlankBehindComma = codes "; leave out the blank behind the comma"
cause_text cause.OneBlank = codes "; put two blanks before a comment"
cause_text cause.Plus = codes "; plus is &"
cause_text cause.Sign = codes "; a sign stands before digits"
cause_text cause.Index = codes "; an index location may not stand here"
cause_text cause.Misplaced = codes "; this character does not belong here"
cause_text cause.OneCharacter = codes "; d is one character"
cause_text cause.OtherCharacter = codes "; this d is not known"
cause_text cause.LongName = codes "; a name has at most six letters and digits"
cause_text cause.IndexAlone = codes "; X1, X2 and X3 stand behind & alone"
cause_text cause.LongNumber = codes "; a number has at most five digits"
cause_text cause.EmptyText = codes "; nothing stands between the two @"
cause_text cause.OpenText = codes "; the closing @ is missing"
cause_text cause.Literal = codes "; a literal may not stand here"
cause_text cause.Asterisk = codes "; * is no address: name a label"
cause_text cause.NoOperand = codes "; no operand begins so"
cause_text cause.NoQuotes = codes "; put a text between two @"
cause_text cause.NoNumber = codes "; a number is wanted"
cause_text cause.Zero = codes "; 0 is too few"
cause_text cause.OtherSize = codes "; this is no size"
