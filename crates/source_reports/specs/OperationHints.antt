-- of an operation that is none: what is known of it
use Rattle.std.specs.Prelude.{ℕ, ◌==◌, Bool, if◌then◌else◌, List, ◌++◌, Option, Some, None, codes}
use Rattle.cards.specs.declared.decks.Card.{Card}
use Rattle.autocoder_statements.specs.Statements.{word_run, operation_field}
use Rattle.source_reports.specs.FieldHints.{comment_text, looks_like_comment}
use Rattle.source_reports.specs.LeftOut.{advice}
use Rattle.source_reports.specs.OperationNames.{near_operation, shown_name}
use Rattle.source_reports.specs.SourceColumns.{are_columns_off}

-- the question whether this name is meant
abbrev pub question_text : List ℕ → List ℕ
question_text name = codes "; did you mean " ++ shown_name name ++ codes "?"

-- a name that is nearly what stands on a card, if there is one, or else where all names are
abbrev pub near_hint : Option (List ℕ) → List ℕ
near_hint None = codes "; docs/AUTOCODER.md lists them"
near_hint (Some name) = question_text name

-- what to write for an operation, or else a name that is nearly the same
abbrev pub known_hint : List ℕ → Option (List ℕ) → List ℕ
known_hint field None = near_hint (near_operation field)
known_hint field (Some written) = written

-- of a blank operation, where operations stand; nothing if that is told of the whole source
abbrev pub blank_hint : Bool → List ℕ
blank_hint is_told = if is_told then codes ""
    else codes "; an operation stands in column 16, and a comment has * in column 6"

-- of an operation that is none: that the card looks like a comment, or where operations stand, or
-- what to write for it, or the name that it nearly is, or where all names are
unfoldable pub operation_hint : List Card → Card → List ℕ
operation_hint source card = if looks_like_comment card then comment_text
    else (if word_run (operation_field card) == 0 then blank_hint (are_columns_off source)
    else known_hint (operation_field card) (advice (operation_field card)))
