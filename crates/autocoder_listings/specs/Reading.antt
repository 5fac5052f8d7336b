-- the code that a listing shows, as its reader takes it: each row from its address on
use Rattle.std.specs.Prelude.{ℕ, ◌+◌, List, [], ◌∷◌, length, flat_map}
use Rattle.std.specs.List.{range_with_len}
use Rattle.cards.specs.declared.decks.Card.{Card}
use Rattle.autocoder_layout.specs.Cells.{cell}
use Rattle.autocoder_layout.specs.declared.cells.Cell.{Cell}
use Rattle.autocoder.specs.Programs.{layout_for}
use Rattle.autocoder_listings.specs.Rows.{rows_for, row_at, address_of}

-- characters with their word marks in the positions from a place on
unfoldable pub read_from : ℕ → List Cell → List Cell
read_from place [] = []
read_from place (c ∷ row) = cell place c.code c.marked ∷ read_from (place + 1) row

-- a row: its characters in the positions from its address on
abbrev pub row_read : List Cell → List Cell
row_read row = read_from (address_of row) row

-- the rows of a card
unfoldable pub rows_read : List Cell → List Cell
rows_read cells =
    flat_map (λ number. row_read (row_at cells number)) (range_with_len 0 (rows_for (length cells)))

-- all that is shown of the code of a source, card by card
unfoldable pub code_shown : List Card → List Cell
code_shown source = flat_map (λ laid. rows_read laid.fills) (layout_for source)
