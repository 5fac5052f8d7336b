-- a name that is not defined, and what the layout knows of it
use Rattle.std.specs.Prelude.{ℕ, Bool, true, false, List, [], ◌++◌, take, Option, Some, None, Ok, codes, decimal}
use Rattle.core_store.specs.Storage.{positions_of}
use Rattle.autocoder_statements.specs.declared.names.Name as name
use Rattle.autocoder_statements.specs.declared.expressions.Base.{Base}
use Rattle.autocoder_statements.specs.declared.expressions.Base.TheVariants.{Number, Name}
use Rattle.autocoder_statements.specs.declared.expressions.Expression.{Expression}
use Rattle.autocoder_statements.specs.declared.reading.Statement.TheVariants as statement
use Rattle.autocoder_layout.specs.Source.{Line}
use Rattle.autocoder_layout.specs.Layout.{Layout}
use Rattle.autocoder_layout.specs.Judging.{expressions_of, has_unknown_name}
use Rattle.autocoder_layout.specs.declared.slots.Slot.{Slot}
use Rattle.source_reports.specs.Names.{name_text, first_card, near_name}
use Rattle.source_reports.specs.declared.names.Known.{Known}

-- the name of a base, if it is one
abbrev pub name_of_base : Base → Option name.Name
name_of_base (Number number) = None
name_of_base (Name wanted) = Some wanted

-- the name that an expression begins with, if there is an expression and it begins with a name
abbrev pub name_in : Option Expression → Option name.Name
name_in None = None
name_in (Some expression) = name_of_base expression.base

-- the name of the first of two expressions if that one is at fault, else of the second
abbrev pub name_of_either : Bool → Option Expression → Option Expression → Option name.Name
name_of_either true first second = name_in first
name_of_either false first second = name_in second

-- the first name of a card that is not defined, where the card has fault 45
unfoldable pub unknown_name : Layout → Line → Option name.Name
unknown_name layout (Ok (statement.Origin expression)) = name_of_base expression.base
unknown_name layout (Ok (statement.Equate label expression)) = name_of_base expression.base
unknown_name layout line = name_of_either
    (has_unknown_name (positions_of layout.source.size) layout.slots (expressions_of line).0)
    (expressions_of line).0 (expressions_of line).1

-- the cards whose names a card may use: of ORG and EQU those before it, by its number from 0
abbrev pub usable_by : Line → ℕ → List Slot → List Slot
usable_by (Ok (statement.Origin expression)) index slots = take index slots
usable_by (Ok (statement.Equate label expression)) index slots = take index slots
usable_by line index slots = slots

-- a name that is nearly the same as another one, and the card that defines it
abbrev pub near_text : Known → List ℕ
near_text known = codes "; did you mean " ++ name_text known.name
    ++ (codes " (card " ++ decimal known.card ++ codes ")?")

-- the card that has a name too late, or else the name that is nearly the same, if there is one
abbrev pub known_text : Option ℕ → Option Known → List ℕ
known_text (Some card) near = codes "; card " ++ decimal card ++ codes " has it, which is too late"
known_text None None = []
known_text None (Some known) = near_text known

-- a name that is not defined, and what is known of it: the cards that count are these
abbrev pub name_hint : List Slot → List Slot → Option name.Name → List ℕ
name_hint slots usable None = []
name_hint slots usable (Some wanted) = codes ": " ++ name_text wanted
    ++ known_text (first_card wanted slots) (near_name wanted usable)

-- of a name that is not defined: the name, and what is known of it
unfoldable pub unknown_hint : Layout → ℕ → Line → List ℕ
unknown_hint layout index line =
    name_hint layout.slots (usable_by line index layout.slots) (unknown_name layout line)
