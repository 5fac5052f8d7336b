-- the characters of the digits under each zone
use Rattle.std.specs.Prelude.{ℕ, ◌==◌, List, codes, slice_index, position, unwrap_or}
use Rattle.bcd.specs.Table.{glyphs}
use Rattle.bcd.specs.declared.Zone.{Zone}
use Rattle.bcd.specs.declared.Zone.TheVariants.{Bare, A, B, AB}

-- the number of the character with this glyph, 64 if there is none
unfoldable pub code_of : ℕ → ℕ
code_of glyph = unwrap_or (position (λ g. g == glyph) glyphs) 64

-- the glyphs of the digits 0 to 9 under a zone
abbrev pub digits_under : Zone → List ℕ
digits_under Bare = codes "0123456789"
digits_under A = codes "|/STUVWXYZ"
digits_under B = codes "!JKLMNOPQR"
digits_under AB = codes "?ABCDEFGHI"

-- the character of a digit under a zone
unfoldable pub digit_under : Zone → ℕ → ℕ
digit_under zone digit = code_of (slice_index (digits_under zone) digit)
