-- the signs of a text, and the glyphs that they stand for
use Rattle.std.specs.Prelude.{ℕ, ◌==◌, Bool, if◌then◌else◌}
use Rattle.std.specs.List.{list_any}
use Rattle.bcd.specs.Table.{glyphs}
use Rattle.card_forms.specs.Signs.{capital, simh_glyph}
use Rattle.card_texts.specs.declared.rules.Signs.{Signs}
use Rattle.card_texts.specs.declared.rules.Signs.TheVariants.{Bureau, Simh}

-- the glyph for which a byte stands by the rules
unfoldable pub glyph_by : Signs → Bool → ℕ → ℕ
glyph_by Bureau folds byte = if folds then capital byte else byte
glyph_by Simh folds byte = simh_glyph byte

-- whether a byte is the glyph of a character
unfoldable pub is_glyph : ℕ → Bool
is_glyph byte = list_any (λ glyph. glyph == byte) glyphs
