-- the names of a source: how they are shown, and which card defines one
use Rattle.std.specs.Prelude.{ℕ, ◌+◌, ◌==◌, Bool, false, not, if◌then◌else◌, List, Option, Some, None, option_map, option_and_then, position, count_by, zip, slice_index_or}
use Rattle.autocoder_statements.specs.declared.names.Name.{Name}
use Rattle.autocoder_statements.specs.Statements.{word}
use Rattle.autocoder_layout.specs.Names.{defines}
use Rattle.autocoder_layout.specs.Slots.{origin}
use Rattle.autocoder_layout.specs.declared.slots.Definition.{Definition}
use Rattle.autocoder_layout.specs.declared.slots.Slot.{Slot}
use Rattle.autocoder.specs.Listing.{glyphs_of}
use Rattle.source_reports.specs.declared.names.Known.{Known}

-- a name as it is shown: its letters and digits
abbrev pub name_text : Name → List ℕ
name_text wanted = glyphs_of (word wanted.characters)

-- the number of the first of these cards that defines a name, if one does
abbrev pub first_card : Name → List Slot → Option ℕ
first_card wanted slots = option_map (λ index. index + 1) (position (defines wanted) slots)

-- in how many of their six characters two names differ
abbrev pub differences : List ℕ → List ℕ → ℕ
differences one other = count_by (λ pair. not (pair.0 == pair.1)) (zip one other)

-- whether a definition, if there is one, is of a name that differs from this one in one character
abbrev pub is_of_near : Name → Option Definition → Bool
is_of_near wanted None = false
is_of_near wanted (Some definition) =
    differences definition.name.characters wanted.characters == 1

-- whether a card defines a name that differs from this one in one character
abbrev pub defines_near : Name → Slot → Bool
defines_near wanted slot = is_of_near wanted slot.defines

-- a name that the card of this number, from 0, defines, if it defines one
abbrev pub known_at : List Slot → ℕ → Option Known
known_at slots index =
    option_map (λ definition. record { name = definition.name; card = index + 1 })
    (slice_index_or slots index origin).defines

-- the defined name that differs from this one in one character, if there is exactly one
unfoldable pub near_name : Name → List Slot → Option Known
near_name wanted slots = if count_by (defines_near wanted) slots == 1
    then option_and_then (known_at slots) (position (defines_near wanted) slots) else None
