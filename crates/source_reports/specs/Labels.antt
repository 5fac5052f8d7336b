-- a label that is taken: the card that has it first
use Rattle.std.specs.Prelude.{ℕ, List, [], ◌++◌, Option, Some, None, Ok, codes, decimal}
use Rattle.autocoder_statements.specs.declared.names.Name as name
use Rattle.autocoder_statements.specs.declared.reading.Statement.TheVariants as statement
use Rattle.autocoder_layout.specs.Source.{Line}
use Rattle.autocoder_layout.specs.Layout.{Layout}
use Rattle.autocoder_layout.specs.declared.slots.Slot.{Slot}
use Rattle.source_reports.specs.Names.{first_card}

-- the label that a card says it defines, if it has one
abbrev pub label_of : Line → Option name.Name
label_of (Ok (statement.Equate label expression)) = Some label
label_of (Ok (statement.Constant label marked constant)) = label
label_of (Ok (statement.Area label positions)) = label
label_of (Ok (statement.Instruction label spelled)) = label
label_of line = None

-- the card that has a label first
abbrev pub first_text : Option ℕ → List ℕ
first_text None = []
first_text (Some card) = codes "; card " ++ decimal card ++ codes " has it first"

-- the card that has this label first, if a card has it
abbrev pub taken_by : List Slot → Option name.Name → List ℕ
taken_by slots None = []
taken_by slots (Some label) = first_text (first_card label slots)

-- of a label that is taken: the card that has it first
unfoldable pub taken_hint : Layout → Line → List ℕ
taken_hint layout line = taken_by layout.slots (label_of line)
