-- the listing of a deck's cards
use Rattle.std.specs.Prelude.{ℕ, ◌+◌, ◌%◌, ◌==◌, bit_and, ◌&&◌, if◌then◌else◌, List, [], ◌∷◌, ◌++◌, codes, map}
use Rattle.std.specs.List.{flat_map}
use Rattle.card_forms.specs.Signs.{filled}
use Rattle.card_forms.specs.declared.images.CardImage.{CardImage}
use Rattle.card_tools.specs.Lines.{in_four, numbered_card}
use Rattle.card_tools.specs.declared.listing.ListOptions.{ListOptions}

-- the ruler, with its first column under the bar's right neighbour
abbrev pub ruler : List ℕ
ruler = codes "     ....:....1....:....2....:....3....:....4"
    ++ codes "....:....5....:....6....:....7....:....8" ++ 10 ∷ []

-- the rows of a card from the top down: the name of each, and its bit in the pattern of a column
abbrev pub card_rows : List (ℕ × ℕ)
card_rows = (12, 2048) ∷ (11, 1024) ∷ (0, 512) ∷ (1, 256) ∷ (2, 128) ∷ (3, 64) ∷ (4, 32) ∷ (5, 16)
    ∷ (6, 8) ∷ (7, 4) ∷ (8, 2) ∷ (9, 1) ∷ []

-- what is shown of a column in a row: an asterisk where it has a hole, else a blank
unfoldable pub mark_of : ℕ → ℕ → ℕ
mark_of bit pattern = if bit_and pattern bit == 0 then 32 else 42

-- the line of a row under a card: its name, and the marks of the columns that the card's line shows
abbrev pub row_line : CardImage → ℕ × ℕ → List ℕ
row_line image row =
    in_four row.0 ++ (124 ∷ map (mark_of row.1) (filled image.0) ++ 124 ∷ 10 ∷ [])

-- the lines of the twelve rows
abbrev pub row_lines : CardImage → List ℕ
row_lines image = flat_map (row_line image) card_rows

-- the ruler, where it is wanted, before the first card and each fiftieth one after it
abbrev pub ruler_above : ListOptions → ℕ → List ℕ
ruler_above options number = if options.ruler && (number % 50 == 1) then ruler else []

-- the rows under a card, where they are wanted
abbrev pub rows_under : ListOptions → CardImage → List ℕ
rows_under options image = if options.punches then row_lines image else []

-- what is shown of a card with this number
abbrev pub card_shown : ListOptions → ℕ → CardImage → List ℕ
card_shown options number image =
    ruler_above options number ++ (numbered_card number image ++ 10 ∷ rows_under options image)

-- what is shown of cards that are numbered from this number on
unfoldable pub listing_from : ListOptions → ℕ → List CardImage → List ℕ
listing_from options number [] = []
listing_from options number (image ∷ images) =
    card_shown options number image ++ listing_from options (number + 1) images

-- the listing of cards
abbrev pub listing : ListOptions → List CardImage → List ℕ
listing options images = listing_from options 1 images
