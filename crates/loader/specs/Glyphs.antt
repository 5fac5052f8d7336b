-- the bytes that are glyphs
use Rattle.std.specs.Prelude.{ℕ, ◌==◌, ◌&&◌, Bool, true, List, [], ◌∷◌, position, is_some}
use Rattle.bcd.specs.Table.{glyphs}

-- whether a byte is the glyph of a character
abbrev pub is_glyph : ℕ → Bool
is_glyph glyph = is_some (position (λ g. g == glyph) glyphs)

-- whether each byte of a text is the glyph of a character
abbrev pub are_glyphs : List ℕ → Bool
are_glyphs [] = true
are_glyphs (glyph ∷ text) = is_glyph glyph && are_glyphs text
