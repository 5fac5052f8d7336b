-- the code of a card in both widths of a listing, line by line
use Rattle.std.specs.Prelude.{ℕ, ◌-◌, List, ◌∷◌, length, map, drop}
use Rattle.std.specs.List.{range_with_len}
use Rattle.cards.specs.declared.decks.Card.{Card}
use Rattle.autocoder_layout.specs.declared.cells.Cell.{Cell}
use Rattle.autocoder_layout.specs.declared.slots.Slot.{Slot}
use Rattle.autocoder_listings.specs.Rows.{rows_for}
use Rattle.autocoder_listings.specs.Coded.{first_line, further_line}
use Rattle.autocoder_listings.specs.Narrow.{without_card}

-- the lines of a card in the wide listing, which has its code beside it
abbrev pub lines_beside : ℕ → Slot → Card → List Cell → List (List ℕ)
lines_beside number slot card cells = first_line number slot card cells
    ∷ map (further_line cells) (range_with_len 1 (rows_for (length cells) - 1))

-- the lines below a card in the narrow listing
abbrev pub lines_under : ℕ → Slot → Card → List Cell → List (List ℕ)
lines_under number slot card cells = map without_card (lines_beside number slot card cells)

-- what lines have behind this column
abbrev pub behind : ℕ → List (List ℕ) → List (List ℕ)
behind column lines = map (drop column) lines
