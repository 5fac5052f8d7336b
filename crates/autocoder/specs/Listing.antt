-- the listing of a source: its cards and its literals, each with its place
use Rattle.std.specs.Prelude.{ℕ, ◌+◌, ◌-◌, ◌==◌, Bool, true, false, if◌then◌else◌, List, [], ◌∷◌, ◌++◌, length, map, take, replicate, codes, decimal}
use Rattle.std.specs.List.{suffix_len}
use Rattle.bcd.specs.Table.{glyph_of, byte}
use Rattle.cards.specs.declared.decks.Card.{Card}
use Rattle.autocoder_layout.specs.Source.{source_of, lines_of}
use Rattle.autocoder_layout.specs.Slots.{place_after}
use Rattle.autocoder_layout.specs.Literals.{Characters, literals_of}
use Rattle.autocoder_layout.specs.Layout.{slots_of}
use Rattle.autocoder.specs.Programs.{layout_for}
use Rattle.autocoder_layout.specs.declared.slots.Role.{Role}
use Rattle.autocoder_layout.specs.declared.slots.Role.TheVariants.{Instruction, Constant}
use Rattle.autocoder_layout.specs.declared.slots.Slot.{Slot}
use Rattle.cards.specs.Files.{line_feed}

-- the byte of a blank
abbrev pub blank : ℕ
blank = byte (codes " ")

-- the byte of the digit 0
abbrev pub zero_digit : ℕ
zero_digit = byte (codes "0")

-- a number at the right of a field of this width, with fillers before it
abbrev pub right : ℕ → ℕ → ℕ → List ℕ
right filler width number = replicate (width - length (decimal number)) filler ++ decimal number

-- a position in five digits
abbrev pub position_field : ℕ → List ℕ
position_field position = right zero_digit 5 position

-- the glyphs of a string of characters
abbrev pub glyphs_of : List ℕ → List ℕ
glyphs_of text = map glyph_of text

-- whether a card of this role fills positions
abbrev pub fills : Role → Bool
fills Instruction = true
fills Constant = true
fills role = false

-- the first position of an instruction or a constant in five digits; for any other card blanks
unfoldable pub place_field : Slot → List ℕ
place_field slot = if fills slot.role then position_field slot.before else replicate 5 blank

-- the line of a card: its number, its place and its 80 columns
unfoldable pub card_line : ℕ → Slot → Card → List ℕ
card_line number slot card =
    (((right blank 4 number ++ blank ∷ []) ++ place_field slot) ++ blank ∷ []) ++ glyphs_of card.0

-- the line of a literal: `LIT`, its place and its characters
unfoldable pub literal_line : ℕ → Characters → List ℕ
literal_line place literal =
    ((codes "LIT  " ++ position_field place) ++ blank ∷ []) ++ glyphs_of literal

-- a line without the blanks at its end, and with a line feed
unfoldable pub line_text : List ℕ → List ℕ
line_text line = take (length line - suffix_len (λ g. g == blank) line) line ++ line_feed ∷ []

-- the lines of these cards, which are numbered from this number on
unfoldable pub card_lines : ℕ → List Card → List Slot → List ℕ
card_lines number [] slots = []
card_lines number (card ∷ cards) [] = []
card_lines number (card ∷ cards) (slot ∷ slots) =
    line_text (card_line number slot card) ++ card_lines (number + 1) cards slots

-- the lines of these literals, which are placed one after the other from a place on
unfoldable pub literal_lines : ℕ → List Characters → List ℕ
literal_lines place [] = []
literal_lines place (literal ∷ literals) =
    line_text (literal_line place literal) ++ literal_lines (place + length literal) literals

-- the listing of these cards with their slots, and then of the literals
unfoldable pub listing_of : List Card → List Slot → List Characters → List ℕ
listing_of cards slots literals =
    card_lines 1 cards slots ++ literal_lines (place_after slots) literals

-- the listing of a source, by the slots and literals of its one layout
unfoldable pub listing_of_source : List Card → List ℕ
listing_of_source source = listing_of source (slots_of (layout_for source))
    (literals_of (lines_of false source) (slots_of (layout_for source)))

-- the listing of the source that a deck begins with
abbrev pub listing_for : List Card → List ℕ
listing_for deck = listing_of_source (source_of deck)
