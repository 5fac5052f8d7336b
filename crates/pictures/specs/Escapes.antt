-- texts as they stand in a page
use Rattle.std.specs.Prelude.{ℕ, ◌==◌, if◌then◌else◌, List, [], ◌∷◌, map, codes}
use Rattle.std.specs.List.{flat_map}
use Rattle.bcd.specs.Table.{glyph_of}
use Rattle.card_forms.specs.Images.{character_of, is_character}
use Rattle.card_forms.specs.Signs.{filled}
use Rattle.card_forms.specs.declared.images.CardImage.{CardImage}

-- how a byte stands in a page: `&`, `<` and `>` by their names, every other byte itself
unfoldable pub escape_of : ℕ → List ℕ
escape_of byte = if byte == 38 then codes "&amp;"
    else (if byte == 60 then codes "&lt;"
    else (if byte == 62 then codes "&gt;" else byte ∷ []))

-- how a text stands in a page
abbrev pub escaped : List ℕ → List ℕ
escaped text = flat_map escape_of text

-- what is printed of a column: the glyph of its character, or a blank where it is none
unfoldable pub glyph_printed : ℕ → ℕ
glyph_printed pattern = if is_character pattern then glyph_of (character_of pattern) else 32

-- how the glyphs of columns stand in a page
abbrev pub glyphs_shown : List ℕ → List ℕ
glyphs_shown patterns = escaped (map glyph_printed patterns)

-- how the glyphs of a card up to the last column that is not blank stand in a page
abbrev pub card_glyphs : CardImage → List ℕ
card_glyphs card = glyphs_shown (filled card.0)
