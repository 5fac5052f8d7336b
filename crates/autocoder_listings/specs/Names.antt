-- the names of a source: their addresses, and the cards that use them
use Rattle.std.specs.Prelude.{ℕ, ◌-◌, Bool, false, ◌||◌, List, [], ◌∷◌, ◌++◌, length, map, flat_map, replicate, Option, Some, None, Ok, bytes_eq, codes}
use Rattle.std.specs.List.{range_with_len, items_where_true}
use Rattle.autocoder_statements.specs.declared.names.Name as name
use Rattle.autocoder_statements.specs.declared.expressions.Base.{Base}
use Rattle.autocoder_statements.specs.declared.expressions.Base.TheVariants.{Number, Name}
use Rattle.autocoder_statements.specs.declared.operands.Operand.{Operand}
use Rattle.autocoder_statements.specs.declared.operands.Operand.TheVariants.{Address, Literal}
use Rattle.autocoder_statements.specs.declared.reading.Statement.TheVariants as statement
use Rattle.autocoder_layout.specs.Source.{Line}
use Rattle.autocoder_layout.specs.declared.slots.Definition.{Definition}
use Rattle.autocoder_layout.specs.declared.slots.Slot.{Slot}
use Rattle.autocoder.specs.Listing.{blank, right, position_field, glyphs_of, line_text}
use Rattle.autocoder_listings.specs.Rows.{rows_of, row_of}
use Rattle.autocoder_listings.specs.declared.widths.Width.{Width}
use Rattle.autocoder_listings.specs.declared.widths.Width.TheVariants.{Wide, Narrow}

-- ---- which cards use a name

-- an address begins with the name
abbrev pub is_name : name.Name → Base → Bool
is_name wanted (Number number) = false
is_name wanted (Name found) = bytes_eq found.characters wanted.characters

-- an operand is an address that begins with the name
abbrev pub has_name : name.Name → Option Operand → Bool
has_name wanted None = false
has_name wanted (Some (Literal text)) = false
has_name wanted (Some (Address address)) = is_name wanted address.expression.base

-- a card uses the name in one of its addresses
unfoldable pub uses : name.Name → Line → Bool
uses wanted (Ok (statement.Origin expression)) = is_name wanted expression.base
uses wanted (Ok (statement.Equate label expression)) = is_name wanted expression.base
uses wanted (Ok (statement.End (Some expression) labelled)) = is_name wanted expression.base
uses wanted (Ok (statement.Instruction label spelled)) =
    has_name wanted spelled.first || has_name wanted spelled.second
uses wanted line = false

-- the numbers of the cards that use the name
unfoldable pub users : name.Name → List Line → List ℕ
users wanted lines = items_where_true (map (uses wanted) lines) (range_with_len 1 (length lines))

-- ---- the table

-- how many cards that use a name stand on a line
abbrev pub users_on_line : Width → ℕ
users_on_line Wide = 20
users_on_line Narrow = 10

-- numbers of cards, each in five places
abbrev pub numbers_of : List ℕ → List ℕ
numbers_of row = flat_map (right blank 5) row

-- the line of a name: its six characters, its address, and the first row of the cards that use it
unfoldable pub name_line : ℕ → Definition → List ℕ → List ℕ
name_line many definition cards =
    ((glyphs_of definition.name.characters ++ blank ∷ []) ++ position_field definition.address)
    ++ numbers_of (row_of many cards 0)

-- the line of a further row of cards, below the first one
unfoldable pub users_line : ℕ → List ℕ → ℕ → List ℕ
users_line many cards number = replicate 12 blank ++ numbers_of (row_of many cards number)

-- the lines of the further rows
unfoldable pub users_lines : ℕ → List ℕ → List ℕ
users_lines many cards =
    flat_map (λ number. line_text (users_line many cards number))
    (range_with_len 1 (rows_of many (length cards) - 1))

-- the lines of a name with the cards that use it
unfoldable pub lines_of_name : ℕ → Definition → List ℕ → List ℕ
lines_of_name many definition cards =
    line_text (name_line many definition cards) ++ users_lines many cards

-- the lines of the name that a card defines, if it defines one
unfoldable pub lines_of_defined : ℕ → List Line → Option Definition → List ℕ
lines_of_defined many lines None = []
lines_of_defined many lines (Some definition) =
    lines_of_name many definition (users definition.name lines)

-- the line above the names
abbrev pub heading : List ℕ
heading = codes "NAME   PLACE CARDS"

-- the table of the names of a source, in the order of the cards that define them, with so many
-- users on a line
unfoldable pub table_of_names : ℕ → List Line → List Slot → List ℕ
table_of_names many lines slots =
    line_text heading ++ flat_map (λ slot. lines_of_defined many lines slot.defines) slots
