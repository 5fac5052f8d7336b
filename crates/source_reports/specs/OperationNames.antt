-- the names of operations, and the one that is nearly what stands on a card
use Rattle.std.specs.Prelude.{ℕ, ◌+◌, ◌==◌, nat_lt, Bool, false, not, ◌&&◌, ◌||◌, if◌then◌else◌, List, [], take, drop, zip, slice_index_or, Option, Some, None, option_map, find, position, count_by, unwrap_or, codes}
use Rattle.std.specs.List.{range_with_len}
use Rattle.bcd.specs.Table.{glyph_of, byte}
use Rattle.autocoder_statements.specs.Laws.{names}

-- ---- an operation field and a name

-- in how many characters a text differs from these glyphs, as far as both go
abbrev pub mismatches : List ℕ → List ℕ → ℕ
mismatches text glyphs = count_by (λ pair. not (glyph_of pair.0 == pair.1)) (zip text glyphs)

-- whether a text has these glyphs, as far as both go
abbrev pub has_glyphs : List ℕ → List ℕ → Bool
has_glyphs text glyphs = mismatches text glyphs == 0

-- whether a field has in a column the glyph that a name has in a column, both numbered from 0
abbrev pub is_same_at : List ℕ → ℕ → List ℕ → ℕ → Bool
is_same_at field column name other =
    glyph_of (slice_index_or field column 0) == slice_index_or name other 0

-- the first column in which an operation field differs from a name, if it does
abbrev pub first_difference : List ℕ → List ℕ → Option ℕ
first_difference field name =
    find (λ column. not (is_same_at field column name column)) (range_with_len 0 5)

-- whether a field is a name but for two neighbours that are exchanged, from this column on
abbrev pub are_exchanged : List ℕ → List ℕ → ℕ → Bool
are_exchanged field name column = if nat_lt column 4
    then is_same_at field column name (column + 1)
    && (is_same_at field (column + 1) name column
    && has_glyphs (drop (column + 2) field) (drop (column + 2) name))
    else false

-- whether behind their first difference, in this column, a field and a name are the same but for
-- another character there, one too much, one missing, or two that are exchanged
abbrev pub is_near_from : List ℕ → List ℕ → ℕ → Bool
is_near_from field name column = has_glyphs (drop (column + 1) field) (drop (column + 1) name)
    || (has_glyphs (drop (column + 1) field) (drop column name)
    || (has_glyphs (drop column field) (drop (column + 1) name)
    || are_exchanged field name column))

-- the same by the first difference, if there is one
abbrev pub is_near_by : List ℕ → List ℕ → Option ℕ → Bool
is_near_by field name None = false
is_near_by field name (Some column) = is_near_from field name column

-- whether an operation field is nearly a name: the name but for one character that is another, too
-- much or missing, or but for two neighbours that are exchanged
unfoldable pub is_near : List ℕ → List ℕ → Bool
is_near field name = is_near_by field name (first_difference field name)

-- ---- the table

-- the name of this number, from 0, in a table
abbrev pub name_at : List (List ℕ) → ℕ → List ℕ
name_at table index = slice_index_or table index []

-- the one of these names that an operation field nearly is, if there is exactly one
unfoldable pub near_in : List (List ℕ) → List ℕ → Option (List ℕ)
near_in table field = if count_by (is_near field) table == 1
    then option_map (name_at table) (position (is_near field) table) else None

-- the name of an operation that an operation field nearly is, if there is exactly one
abbrev pub near_operation : List ℕ → Option (List ℕ)
near_operation field = near_in names field

-- how many characters a name has before the blanks behind it
abbrev pub shown_length : List ℕ → ℕ
shown_length name = unwrap_or (position (λ glyph. glyph == byte (codes " ")) name) 5

-- a name as it is shown: without the blanks behind it
unfoldable pub shown_name : List ℕ → List ℕ
shown_name name = take (shown_length name) name
