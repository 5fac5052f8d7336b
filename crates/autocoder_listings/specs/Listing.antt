-- the listing of a source that shows its code
use Rattle.std.specs.Prelude.{ℕ, false, List, ◌++◌, length, flat_map, zip}
use Rattle.std.specs.List.{range_with_len}
use Rattle.cards.specs.declared.decks.Card.{Card}
use Rattle.autocoder_layout.specs.Source.{source_of, lines_of}
use Rattle.autocoder_layout.specs.Layout.{Laid, slots_of}
use Rattle.autocoder_layout.specs.declared.cells.Cell.{Cell}
use Rattle.autocoder_layout.specs.declared.slots.Slot.{Slot}
use Rattle.autocoder.specs.Programs.{layout_for}
use Rattle.autocoder_listings.specs.Coded.{lines_with_code}
use Rattle.autocoder_listings.specs.Narrow.{narrow_lines}
use Rattle.autocoder_listings.specs.Names.{table_of_names, users_on_line}
use Rattle.autocoder_listings.specs.declared.widths.Width.{Width}
use Rattle.autocoder_listings.specs.declared.widths.Width.TheVariants.{Wide, Narrow}

-- the lines of a card with this number, where it places these characters
unfoldable pub lines_in : Width → ℕ → Slot → Card → List Cell → List ℕ
lines_in Wide number slot card cells = lines_with_code number slot card cells
lines_in Narrow number slot card cells = narrow_lines number slot card cells

-- the lines of cards, each with its number, from the first number on, and its part of the layout
unfoldable pub cards_in : Width → ℕ → List Card → List Laid → List ℕ
cards_in width first cards layout =
    flat_map (λ entry. lines_in width entry.0 entry.1.1.slot entry.1.0 entry.1.1.fills)
    (zip (range_with_len first (length cards)) (zip cards layout))

-- the listing of a source with its code: its cards, numbered from 1, by its one layout, and its
-- names
unfoldable pub listing_in : Width → List Card → List ℕ
listing_in width source = cards_in width 1 source (layout_for source)
    ++ table_of_names (users_on_line width) (lines_of false source) (slots_of (layout_for source))

-- the wide listing of a source
abbrev pub listing_with_code_of : List Card → List ℕ
listing_with_code_of source = listing_in Wide source

-- the wide listing of a deck: that of the source that it begins with
abbrev pub listing_with_code_for : List Card → List ℕ
listing_with_code_for deck = listing_with_code_of (source_of deck)
