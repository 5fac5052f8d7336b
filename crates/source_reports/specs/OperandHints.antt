-- of an operand that is wrong: what stands there, what the operation takes, and where the caret is
use Rattle.std.specs.Prelude.{ℕ, ◌+◌, List, [], ◌++◌, min, Option, Some, None, codes}
use Rattle.cards.specs.declared.decks.Card.{Card}
use Rattle.autocoder_statements.specs.Statements.{word, operation_field, operand_field, operation_of}
use Rattle.autocoder_statements.specs.declared.operations.Operation.{Operation}
use Rattle.autocoder_statements.specs.declared.operations.Operation.TheVariants as operation
use Rattle.autocoder.specs.Listing.{glyphs_of}
use Rattle.source_reports.specs.ExpectedOperands.{expected_text}
use Rattle.source_reports.specs.OperandCauses.{cause_of, cause_text}
use Rattle.source_reports.specs.OperandStops.{stop_of}
use Rattle.source_reports.specs.declared.operand_causes.Cause.{Cause}

-- the operation as it stands on a card
abbrev pub operation_text : Card → List ℕ
operation_text card = glyphs_of (word (operation_field card))

-- what the operand of a card's operation should be
abbrev pub takes_text : Card → Operation → List ℕ
takes_text card known =
    codes "; " ++ operation_text card ++ codes " takes " ++ expected_text known

-- of an operand in which nothing is wrong, what is wrong with the card: it is a second CTL, or an
-- END in a source without an instruction
abbrev pub whole_text : Card → Operation → List ℕ
whole_text card operation.Control = codes "; only the first CTL counts, so leave this one out"
whole_text card operation.End = codes "; there is no instruction to start at, so write an address"
whole_text card other = takes_text card other

-- what is wrong with an operand field, if anything is, and what the operation takes
abbrev pub wrong_text : Card → Operation → Option Cause → List ℕ
wrong_text card known None = whole_text card known
wrong_text card known (Some wrong) = cause_text wrong ++ takes_text card known

-- what is wrong with the operand field of a card that has this operation, if it is not right
abbrev pub card_cause : Card → Operation → Option Cause
card_cause card known = cause_of (stop_of known (operand_field card)) (operand_field card)

-- the hint for a card that has this operation, if it has one
abbrev pub hint_by : Card → Option Operation → List ℕ
hint_by card None = []
hint_by card (Some known) = wrong_text card known (card_cause card known)

-- of an operand that is wrong: what stands there, and what the operation takes
unfoldable pub operand_hint : Card → List ℕ
operand_hint card = hint_by card (operation_of card)

-- ---- the caret

-- how many characters come before what is wrong in the operand field of a card; none where it is
-- the card as a whole
abbrev pub count_by_cause : Option Cause → ℕ → ℕ
count_by_cause None count = 0
count_by_cause (Some wrong) count = count

-- the column of what is wrong in the operand field of a card that has this operation, if it has
-- one; behind the field it is the field's last one
abbrev pub column_by : Card → Option Operation → ℕ
column_by card None = 21
column_by card (Some known) = 21 + min 51
    (count_by_cause (card_cause card known) (stop_of known (operand_field card)).count)

-- the column of what is wrong in the operand field of a card
unfoldable pub wrong_column : Card → ℕ
wrong_column card = column_by card (operation_of card)
