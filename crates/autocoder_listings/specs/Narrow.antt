-- the cards of a source in 80 columns, with the code of each below it
use Rattle.std.specs.Prelude.{ℕ, ◌-◌, Bool, true, if◌then◌else◌, List, [], ◌∷◌, ◌++◌, length, take, drop, flat_map}
use Rattle.std.specs.List.{range_with_len}
use Rattle.cards.specs.declared.decks.Card.{Card}
use Rattle.autocoder_layout.specs.declared.cells.Cell.{Cell}
use Rattle.autocoder_layout.specs.declared.slots.Slot.{Slot}
use Rattle.autocoder.specs.Listing.{fills, glyphs_of, line_text}
use Rattle.autocoder_listings.specs.Rows.{rows_for}
use Rattle.autocoder_listings.specs.Coded.{first_line, further_line}

-- a line of the wide listing without the columns 11 to 91, which have a blank and the card
abbrev pub without_card : List ℕ → List ℕ
without_card line = take 10 line ++ drop 91 line

-- whether a card has a place or places characters
abbrev pub is_placed : Slot → List Cell → Bool
is_placed slot [] = fills slot.role
is_placed slot (c ∷ cells) = true

-- the lines of the further rows
unfoldable pub further_rows : List Cell → List ℕ
further_rows cells =
    flat_map (λ number. line_text (without_card (further_line cells number)))
    (range_with_len 1 (rows_for (length cells) - 1))

-- the lines below a card: what the wide listing has beside it, if that is anything but its number
unfoldable pub lines_below : ℕ → Slot → Card → List Cell → List ℕ
lines_below number slot card cells = if is_placed slot cells
    then line_text (without_card (first_line number slot card cells)) ++ further_rows cells
    else []

-- the lines of a card: its 80 columns, and below them its number, its place and its code
unfoldable pub narrow_lines : ℕ → Slot → Card → List Cell → List ℕ
narrow_lines number slot card cells =
    line_text (glyphs_of card.0) ++ lines_below number slot card cells
