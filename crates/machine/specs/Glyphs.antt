-- the characters by their glyphs
use Rattle.std.specs.Prelude.{ℕ, ◌==◌, List, Bool}
use Rattle.bcd.specs.Table.{glyph_of, byte}

-- whether a character has this glyph
abbrev pub is_glyph : ℕ → List ℕ → Bool
is_glyph code text = glyph_of code == byte text
