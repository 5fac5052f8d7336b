-- a table of the filled positions
use Rattle.std.specs.Prelude.{ℕ, ◌≡◌, ◌<◌, Bool, if◌then◌else◌, List, [], ◌∷◌, Option, Some, None, is_some, slice_index_or, slice_set}
use Rattle.std.specs.List.{list_any}
use Rattle.autocoder_layout.specs.declared.cells.Cell.{Cell}
use Rattle.autocoder_layout.specs.Image.{cell_at, cons_some}

-- the table has, at each position of storage, the first of the filled cells at that position
abbrev pub IsTableOf : ℕ → List (Option Cell) → List Cell → Type 0
IsTableOf size table filled = (position : ℕ) → position < size →
    slice_index_or table position None ≡ cell_at filled position

-- the table with one more cell, unless its position has one already
abbrev pub filled_with : List (Option Cell) → Cell → List (Option Cell)
filled_with table c = if is_some (slice_index_or table c.position None) then table
    else slice_set table c.position (Some c)

-- the table with these cells too, where a position keeps the first cell that it is given
unfoldable pub filled_table : List (Option Cell) → List Cell → List (Option Cell)
filled_table table [] = table
filled_table table (c ∷ cells) = filled_table (filled_with table c) cells

-- the cells of a table, in rising order of positions
unfoldable pub cells_in : List (Option Cell) → List Cell
cells_in [] = []
cells_in (entry ∷ table) = cons_some entry (cells_in table)

-- whether the table has a cell at the position of one of these
abbrev pub is_taken : List (Option Cell) → List Cell → Bool
is_taken table cells = list_any (λ c. is_some (slice_index_or table c.position None)) cells
