-- how pictures and pages are read back: the texts in them, and the holes
use Rattle.std.specs.Prelude.{ℕ, ◌≡◌, ◌≢◌, ◌≤◌, ◌↔◌, nat_eq, ◌==◌, ◌-◌, bit_and, if◌then◌else◌, List, [], ◌∷◌, ◌++◌, length, map, filter, drop, slice_index, codes}
use Rattle.std.specs.List.{Contains, flat_map, slice_split, starts_with, before_first, after_first, join_with_byte}
use Rattle.std.specs.Str.Parse.{digits_value}
use Rattle.bcd.specs.Table.{row}
use Rattle.card_forms.specs.Signs.{filled}
use Rattle.card_forms.specs.declared.images.CardImage.{CardImage}
use Rattle.pictures.specs.Cards.{places}
use Rattle.pictures.specs.Escapes.{glyph_printed}
use Rattle.pictures.specs.Places.{corner, rows}

-- the pieces of a text between the bytes that are this mark
abbrev pub pieces : ℕ → List ℕ → List (List ℕ)
pieces mark text = slice_split (λ byte. byte == mark) text

-- what stands in a page behind each tag that is this one, up to the next tag; tags are named
-- without their `<`
abbrev pub behind_tags : List ℕ → List ℕ → List (List ℕ)
behind_tags tag page =
    map (drop (length tag)) (filter (λ piece. starts_with nat_eq piece tag) (pieces 60 page))

-- what the piece of a text behind an `&` stands for
unfoldable pub piece_read : List ℕ → List ℕ
piece_read piece = if starts_with nat_eq piece (codes "amp;") then 38 ∷ drop 4 piece
    else (if starts_with nat_eq piece (codes "lt;") then 60 ∷ drop 3 piece
    else (if starts_with nat_eq piece (codes "gt;") then 62 ∷ drop 3 piece else 38 ∷ piece))

-- a text that is cut at each `&`, read
abbrev pub pieces_read : List (List ℕ) → List ℕ
pieces_read [] = []
pieces_read (first ∷ others) = first ++ flat_map piece_read others

-- the text that stands in a page so
unfoldable pub unescaped : List ℕ → List ℕ
unescaped text = pieces_read (pieces 38 text)

-- the texts that a page holds behind a tag, each unescaped
abbrev pub texts_read : List ℕ → List ℕ → List (List ℕ)
texts_read tag page = map unescaped (behind_tags tag page)

-- the tag before the lines of a form, with its line feed
abbrev pub form_tag : List ℕ
form_tag = codes "pre>\n"

-- the listing that the pages show: the texts of their forms, with a form feed between two
unfoldable pub listing_read : List ℕ → List ℕ
listing_read page = join_with_byte 12 (texts_read form_tag page)

-- the tag before the print of a card
abbrev pub print_tag : List ℕ
print_tag = codes "text class=\"print\" y=\"150\" x=\"" ++ places
    ++ codes "\" xml:space=\"preserve\">"

-- the print that a picture shows
unfoldable pub print_read : List ℕ → List ℕ
print_read image = flat_map (λ text. text) (texts_read print_tag image)

-- the two numbers at the beginning of a piece of a path: one up to the blank, and one up to the `h`
unfoldable pub corner_read : List ℕ → ℕ × ℕ
corner_read piece = (
  digits_value 10 (before_first (λ byte. byte == 32) piece),
  digits_value 10 (before_first (λ byte. byte == 104) (after_first (λ byte. byte == 32) piece)),
)

-- the upper left corners of the holes that a path outlines: each piece behind an `M` is one
unfoldable pub corners_in : List ℕ → List (ℕ × ℕ)
corners_in path = map corner_read (drop 1 (pieces 77 path))

-- the tag before the path of the holes
abbrev pub hole_tag : List ℕ
hole_tag = codes "path class=\"hole\" d=\""

-- the upper left corners of the holes in a picture
unfoldable pub corners_read : List ℕ → List (ℕ × ℕ)
corners_read image = flat_map corners_in (behind_tags hole_tag image)

-- a card is punched in a column and a row: the bit of the row is set in the pattern of the column
pub record IsPunched (card : CardImage) (column number : ℕ) : Type 0 where
  pub first : 1 ≤ column
  pub last : column ≤ 80
  pub is_row : Contains rows number
  pub punched : bit_and (slice_index card.0 (column - 1)) (row number) ≢ 0

-- an image has a hole whose upper left corner is this one
abbrev pub HasHole : List ℕ → ℕ × ℕ → Type 0
HasHole image place = Contains (corners_read image) place

-- the holes of an image are the punches of a card: the corners are those of the columns and rows in
-- which the card is punched, and no others
abbrev pub HasThePunches : List ℕ → CardImage → Type 0
HasThePunches image card = (place : ℕ × ℕ) → HasHole image place
    ↔ ((column : ℕ) × (number : ℕ) × (place ≡ corner (column, number))
    × IsPunched card column number)

-- the print of an image is the glyphs of a card up to the last column that is not blank, with a blank
-- for a column that is no character
abbrev pub HasThePrint : List ℕ → CardImage → Type 0
HasThePrint image card = print_read image ≡ map glyph_printed (filled card.0)

-- an image shows a card
abbrev pub Shows : List ℕ → CardImage → Type 0
Shows image card = HasThePunches image card × HasThePrint image card

-- the figures of a page: its lines that begin with the tag of a figure
unfoldable pub figures_read : List ℕ → List (List ℕ)
figures_read page = filter (λ line. starts_with nat_eq line (codes "<figure>")) (pieces 10 page)
