-- the code of a card: the characters that it places, in rows
use Rattle.std.specs.Prelude.{ℕ, ◌*◌, if◌then◌else◌, List, [], ◌∷◌, ◌++◌, take, drop, flat_map, codes}
use Rattle.std.specs.Int.{div_ceil}
use Rattle.bcd.specs.Table.{glyph_of, byte}
use Rattle.autocoder_layout.specs.declared.cells.Cell.{Cell}
use Rattle.autocoder.specs.Listing.{blank, position_field}

-- the byte before a character with a word mark; it is the glyph of no character
abbrev pub mark_sign : ℕ
mark_sign = byte (codes "'")

-- a character as it is shown
abbrev pub glyphs_shown : Cell → List ℕ
glyphs_shown c = if c.marked then mark_sign ∷ glyph_of c.code ∷ [] else glyph_of c.code ∷ []

-- how many rows of this length so many things take
abbrev pub rows_of : ℕ → ℕ → ℕ
rows_of many count = div_ceil count many

-- the row of this number, from 0 on: so many things, or those that are left
abbrev pub row_of : {X : Type 0} → ℕ → List X → ℕ → List X
row_of many things number = take many (drop (many * number) things)

-- how many rows of twenty so many characters take
abbrev pub rows_for : ℕ → ℕ
rows_for count = rows_of 20 count

-- the row of this number: twenty characters, or those that are left
abbrev pub row_at : {X : Type 0} → List X → ℕ → List X
row_at things number = row_of 20 things number

-- the address of a row: its first position
abbrev pub address_of : List Cell → ℕ
address_of [] = 0
address_of (c ∷ row) = c.position

-- a line that begins with a text and goes on with a row: its address and its characters
unfoldable pub with_row : List ℕ → List Cell → List ℕ
with_row text row =
    ((text ++ position_field (address_of row)) ++ blank ∷ []) ++ flat_map glyphs_shown row
