-- the cards of a source with the code of each
use Rattle.std.specs.Prelude.{ℕ, ◌-◌, List, [], ◌∷◌, ◌++◌, length, flat_map, replicate}
use Rattle.std.specs.List.{range_with_len}
use Rattle.cards.specs.declared.decks.Card.{Card}
use Rattle.autocoder_layout.specs.declared.cells.Cell.{Cell}
use Rattle.autocoder_layout.specs.declared.slots.Slot.{Slot}
use Rattle.autocoder.specs.Listing.{blank, right, line_text, card_line}
use Rattle.autocoder_listings.specs.Rows.{rows_for, row_at, with_row}

-- a card with how many characters it places
unfoldable pub counted_line : ℕ → Slot → Card → ℕ → List ℕ
counted_line number slot card count =
    ((card_line number slot card ++ blank ∷ []) ++ right blank 5 count) ++ blank ∷ []

-- the line of a card: as it is listed without code, and if it places characters, their number and
-- the first row of them
unfoldable pub first_line : ℕ → Slot → Card → List Cell → List ℕ
first_line number slot card [] = card_line number slot card
first_line number slot card (c ∷ cells) =
    with_row (counted_line number slot card (length (c ∷ cells))) (row_at (c ∷ cells) 0)

-- the line of a further row, below the first one
unfoldable pub further_line : List Cell → ℕ → List ℕ
further_line cells number = with_row (replicate 98 blank) (row_at cells number)

-- the lines of the further rows
unfoldable pub further_lines : List Cell → List ℕ
further_lines cells =
    flat_map (λ number. line_text (further_line cells number))
    (range_with_len 1 (rows_for (length cells) - 1))

-- the lines of a card with this number, where it places these characters
unfoldable pub lines_with_code : ℕ → Slot → Card → List Cell → List ℕ
lines_with_code number slot card cells =
    line_text (first_line number slot card cells) ++ further_lines cells
