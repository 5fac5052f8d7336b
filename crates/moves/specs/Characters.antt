-- characters by their glyphs, and by zone and numeric part
use Rattle.std.specs.Prelude.{ℕ, ◌≡◌, ◌<◌, ◌==◌, ◌+◌, ◌*◌, ◌%◌, ◌||◌, List, [], ◌∷◌, Bool, false, if◌then◌else◌, length}
use Rattle.bcd.specs.Table.{glyph_of, zone_of, zone_number}
use Rattle.bcd.specs.declared.Zone.{Zone}
use Rattle.bcd.specs.declared.Zone.TheVariants.{Bare}
use Rattle.core_store.specs.Storage.{blank_cell}

-- whether the glyph of a character is one of these
unfoldable pub is_any : List ℕ → ℕ → Bool
is_any [] code = false
is_any (glyph ∷ glyphs) code = glyph_of code == glyph || is_any glyphs code

-- the character blank
abbrev pub blank : ℕ
blank = blank_cell.0

-- the numeric part of a character: its bits 8, 4, 2 and 1
abbrev pub part_of : ℕ → ℕ
part_of code = code % 16

-- the character with this zone and this numeric part
abbrev pub of_parts : Zone → ℕ → ℕ
of_parts zone part = 16 * zone_number zone + part

-- the character has this zone and this numeric part
pub record IsOfParts (zone : Zone) (part code : ℕ) : Type 0 where
  pub character : code < 64
  pub zone_is : zone_of code ≡ zone
  pub part_is : part_of code ≡ part

-- a character without its zone
abbrev pub bare : ℕ → ℕ
bare code = of_parts Bare (part_of code)

-- the characters with the zone of the last one, the units, taken away
unfoldable pub bare_units : List ℕ → List ℕ
bare_units [] = []
bare_units (code ∷ codes) = (if length codes == 0 then bare code else code) ∷ bare_units codes

-- the character at this place from the right, counted from 0; a blank to the left of them all
unfoldable pub from_right : List ℕ → ℕ → ℕ
from_right [] place = blank
from_right (code ∷ codes) place = if place == length codes then code else from_right codes place
