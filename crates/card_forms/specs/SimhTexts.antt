-- decks as the texts that SimH's IBM 1401 reads and punches
use Rattle.std.specs.Prelude.{ℕ, ◌-◌, List, [], ◌∷◌, ◌++◌, length, map, replicate}
use Rattle.std.specs.List.{flat_map}
use Rattle.std.specs.Str.Lines.{lines}
use Rattle.cards.specs.declared.Card.{Card}
use Rattle.card_forms.specs.Signs.{filled, simh_glyph, simh_sign}

-- the line that is punched of a card: the signs of its characters up to the last one that is not
-- blank, and a line feed
abbrev pub simh_line_of : Card → List ℕ
simh_line_of card = map simh_sign (filled card.0) ++ 10 ∷ []

-- the text that is punched of a deck
abbrev pub simh_text_of : List Card → List ℕ
simh_text_of deck = flat_map simh_line_of deck

-- these glyphs filled up with blanks to the 80 columns of a card
abbrev pub filled_up : List ℕ → List ℕ
filled_up glyphs = glyphs ++ replicate (80 - length glyphs) 32

-- the line of a deck text for which a line stands: its signs as glyphs, filled up with blanks, and
-- a line feed
abbrev pub deck_line_of : List ℕ → List ℕ
deck_line_of line = filled_up (map simh_glyph line) ++ 10 ∷ []

-- the deck text for which a text stands: a line of it ends with a line feed, which may follow a
-- carriage return, or with the text
unfoldable pub deck_text_of : List ℕ → List ℕ
deck_text_of text = flat_map deck_line_of (lines text)
