-- lines that show a card
use Rattle.std.specs.Prelude.{ℕ, ◌-◌, List, [], ◌∷◌, ◌++◌, length, map, replicate, decimal}
use Rattle.bcd.specs.Table.{glyph_of}
use Rattle.card_forms.specs.Images.{glyph_shown}
use Rattle.card_forms.specs.Signs.{filled}
use Rattle.card_forms.specs.declared.images.CardImage.{CardImage}

-- a number at the right of four places, with blanks before it
abbrev pub in_four : ℕ → List ℕ
in_four number = replicate (4 - length (decimal number)) 32 ++ decimal number

-- the glyphs of characters
abbrev pub glyphs_of : List ℕ → List ℕ
glyphs_of codes = map glyph_of codes

-- columns as they are shown: each by its glyph, or by `~` where it is no character
abbrev pub columns_shown : List ℕ → List ℕ
columns_shown columns = map glyph_shown columns

-- a card up to the last column that is not blank, between bars
abbrev pub barred : CardImage → List ℕ
barred image = 124 ∷ columns_shown (filled image.0) ++ 124 ∷ []

-- the number of a card, and the card
abbrev pub numbered_card : ℕ → CardImage → List ℕ
numbered_card number image = in_four number ++ barred image
