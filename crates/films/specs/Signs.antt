-- the signs by which a film writes characters: one byte for each, of which none ends a word, a line
-- or an element of a page
use Rattle.std.specs.Prelude.{ℕ, ◌==◌, List, map, position, slice_index, codes, Option, Some, None}
use Rattle.std.specs.List.{range_with_len}
use Rattle.bcd.specs.Table.{glyph_of}
use Rattle.units.specs.Listing.{shown, without_trailing_blanks}
use Rattle.films.specs.declared.signs.Surface.{Surface}
use Rattle.films.specs.declared.signs.Surface.TheVariants.{OnPaper, OnCard}

-- the glyphs that are written by other signs
abbrev pub glyphs_replaced : List ℕ
glyphs_replaced = codes " &\\><\""

-- the signs of these glyphs; they are the glyphs of no character
abbrev pub their_signs : List ℕ
their_signs = codes "~abglq"

-- the sign of a glyph that is at this place among those that are written by other signs; of any
-- other glyph itself
abbrev pub sign_at : Option ℕ → ℕ → ℕ
sign_at None glyph = glyph
sign_at (Some place) glyph = slice_index their_signs place

-- the sign of a glyph
unfoldable pub sign_of : ℕ → ℕ
sign_of glyph = sign_at (position (λ other. other == glyph) glyphs_replaced) glyph

-- the signs of glyphs
abbrev pub signs_of : List ℕ → List ℕ
signs_of glyphs = map sign_of glyphs

-- the sign of a character
unfoldable pub sign_of_code : ℕ → ℕ
sign_of_code code = sign_of (glyph_of code)

-- the signs of the 64 characters
unfoldable pub signs : List ℕ
signs = map sign_of_code (range_with_len 0 64)

-- the glyph that stands on a surface for a character
abbrev pub glyph_on : Surface → ℕ → ℕ
glyph_on OnPaper code = shown code
glyph_on OnCard code = glyph_of code

-- the signs of characters on a surface, without the blanks at their end: of a printed line as a
-- listing shows it, of a card with each of its glyphs
unfoldable pub signs_on : Surface → List ℕ → List ℕ
signs_on surface codes = signs_of (without_trailing_blanks (map (glyph_on surface) codes))
