-- the picture of a card
use Rattle.std.specs.Prelude.{ℕ, ◌+◌, ◌*◌, ◌==◌, bit_and, Bool, not, if◌then◌else◌, List, [], ◌∷◌, ◌++◌, length, map, filter, replicate, codes, decimal}
use Rattle.std.specs.List.{flat_map, range_with_len}
use Rattle.bcd.specs.Table.{row}
use Rattle.card_forms.specs.Signs.{filled}
use Rattle.card_forms.specs.declared.images.CardImage.{CardImage}
use Rattle.pictures.specs.Escapes.{card_glyphs}
use Rattle.pictures.specs.Places.{column_middle, corner, rows}
use Rattle.pictures.specs.declared.styles.TheConstants.{CARD_STYLE}

-- a blank and the place of a column
abbrev pub next_place : ℕ → List ℕ
next_place column = 32 ∷ decimal (column_middle column)

-- the places of the columns, with a blank between two
unfoldable pub places : List ℕ
places = decimal (column_middle 1) ++ flat_map next_place (range_with_len 2 79)

-- the digits of a row, one in each column
abbrev pub face_row : ℕ → List ℕ
face_row digit = codes "<text class=\"face\" y=\"" ++ decimal (781 + 250 * digit)
    ++ codes "\" x=\"" ++ places ++ codes "\">" ++ replicate 80 (48 + digit) ++ codes "</text>"

-- the rows of digits, 0 to 9
abbrev pub face : List ℕ
face = flat_map face_row (range_with_len 0 10)

-- the number of a column at its place
abbrev pub column_number : ℕ → List ℕ
column_number column = codes "<tspan x=\"" ++ decimal (column_middle column) ++ codes "\">"
    ++ decimal column ++ codes "</tspan>"

-- the numbers of the columns in one line at a height
abbrev pub column_numbers : ℕ → List ℕ
column_numbers height = codes "<text class=\"small\" y=\"" ++ decimal height ++ codes "\">"
    ++ flat_map column_number (range_with_len 1 80) ++ codes "</text>"

-- the paper of a card, whose upper left corner is cut
abbrev pub paper : List ℕ
paper = codes "<path class=\"stock\" d=\"M250 3H7300a72 72 0 0 1 72 72V3175"
    ++ codes "a72 72 0 0 1-72 72H75a72 72 0 0 1-72-72V436Z\"/>"

-- the stock of a card: its paper, the rows of digits, and the numbers of the columns in two lines
unfoldable pub stock : List ℕ
stock = paper ++ face ++ column_numbers 891 ++ column_numbers 3141

-- whether a pattern has a hole in a row
abbrev pub is_punched : ℕ → ℕ → Bool
is_punched pattern number = not (bit_and pattern (row number) == 0)

-- the holes of a pattern in a column: the column, and each row from row 12 down that has one
abbrev pub holes_in : ℕ → ℕ → List (ℕ × ℕ)
holes_in column pattern = map (λ number. (column, number)) (filter (is_punched pattern) rows)

-- the holes of patterns in columns from this one on
unfoldable pub holes_from : ℕ → List ℕ → List (ℕ × ℕ)
holes_from column [] = []
holes_from column (pattern ∷ patterns) =
    holes_in column pattern ++ holes_from (column + 1) patterns

-- the outline of the hole with this upper left corner
abbrev pub outline : ℕ × ℕ → List ℕ
outline place = 77 ∷ decimal place.0 ++ 32 ∷ decimal place.1 ++ codes "h55v125h-55z"

-- the outlines of holes, one behind the other
abbrev pub outlines : List (ℕ × ℕ) → List ℕ
outlines holes = flat_map (λ hole. outline (corner hole)) holes

-- the outlines of the holes of a pattern in a column
abbrev pub column_outlines : ℕ → ℕ → List ℕ
column_outlines column pattern = outlines (holes_in column pattern)

-- the outline of a hole with this left edge in a row, which is named by its bit and the upper edge
-- of its holes; nothing where the pattern has not that bit
abbrev pub hole_if_punched : ℕ → ℕ → ℕ × ℕ → List ℕ
hole_if_punched left pattern place =
    if bit_and pattern place.0 == 0 then [] else outline (left, place.1)

-- the outlines of the holes of a card, column by column
abbrev pub holes_path : CardImage → List ℕ
holes_path card = outlines (holes_from 1 card.0)

-- the holes of a card
abbrev pub holes_drawn : CardImage → List ℕ
holes_drawn card = codes "<path class=\"hole\" d=\"" ++ holes_path card ++ codes "\"/>"

-- the print of a card: the glyphs of its columns up to the last one that is not blank, at the upper
-- edge
abbrev pub print : CardImage → List ℕ
print card = codes "<text class=\"print\" y=\"150\" x=\"" ++ places
    ++ codes "\" xml:space=\"preserve\">" ++ card_glyphs card ++ codes "</text>"

-- the holes and the print of a card; nothing where the card is blank
unfoldable pub marks : CardImage → List ℕ
marks card = if length (filled card.0) == 0 then [] else holes_drawn card ++ print card

-- the title, the style and the stock of the picture of a card
abbrev pub titled : CardImage → List ℕ
titled card = codes "<title>" ++ card_glyphs card ++ codes "</title><style>"
    ++ CARD_STYLE.now ++ codes "</style>" ++ stock

-- the picture of a card: 7.375 by 3.25 inches, drawn in thousandths of an inch
unfoldable pub picture : CardImage → List ℕ
picture card =
    codes "<svg xmlns=\"http://www.w3.org/2000/svg\" viewBox=\"0 0 7375 3250\" "
    ++ codes "width=\"7.375in\" height=\"3.25in\">" ++ titled card ++ marks card
    ++ codes "</svg>\n"
