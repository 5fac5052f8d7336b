-- of a label that is wrong: what is wrong with it, and what a label is
use Rattle.std.specs.Prelude.{ℕ, ◌==◌, nat_lt, if◌then◌else◌, List, [], ◌++◌, length, Option, Some, None, codes}
use Rattle.cards.specs.declared.decks.Card.{Card}
use Rattle.autocoder_statements.specs.Names.{name_run, longest_name}
use Rattle.autocoder_statements.specs.Statements.{word, word_run, label_field, operation_of}
use Rattle.autocoder_statements.specs.Expressions.{digit_run}
use Rattle.autocoder_statements.specs.declared.operations.Operation.{Operation}
use Rattle.autocoder_statements.specs.declared.operations.Operation.TheVariants as operation

-- what a label is
abbrev pub rule_text : List ℕ
rule_text = codes "; a label is one to six letters and digits, a letter first"

-- what is wrong with a word that is no label
abbrev pub word_text : List ℕ → List ℕ
word_text label = if nat_lt longest_name (length label)
    then codes "; it has over six characters" ++ rule_text
    else (if nat_lt (name_run label) (length label)
    then codes "; it has a sign in it" ++ rule_text
    else (if nat_lt 0 (digit_run label) then codes "; it begins with a digit" ++ rule_text
    else codes "; X1, X2 and X3 name index locations, so choose another name"))

-- what is wrong with the label of a card that has this operation
abbrev pub label_text : Card → Operation → List ℕ
label_text card operation.Job = codes "; JOB has no label, so leave columns 6 to 15 blank"
label_text card operation.Control = codes "; CTL has no label, so leave columns 6 to 15 blank"
label_text card operation.Origin = codes "; ORG has no label, so leave columns 6 to 15 blank"
label_text card operation.End = codes "; END has no label, so leave columns 6 to 15 blank"
label_text card operation.Equate = if word_run (label_field card) == 0
    then codes "; EQU must have a label, from column 6 on" else word_text (word (label_field card))
label_text card other = word_text (word (label_field card))

-- what is wrong with the label of a card that has this operation, if it has one
abbrev pub label_hint_by : Card → Option Operation → List ℕ
label_hint_by card None = []
label_hint_by card (Some known) = label_text card known

-- of a label that is wrong: what is wrong with it, and what a label is
unfoldable pub label_hint : Card → List ℕ
label_hint card = label_hint_by card (operation_of card)
