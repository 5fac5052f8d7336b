-- the 64 characters of the machine, by their numbers 32*B + 16*A + (8421 part)
use Rattle.std.specs.Prelude.{ℕ, ◌≡◌, ◌<◌, ◌+◌, ◌/◌, ◌%◌, ◌^◌, ◌-◌, ◌==◌, nat_le, if◌then◌else◌, List, [], ◌∷◌, Option, Some, None, unwrap_or, slice_index, codes, position}
use Rattle.bcd.specs.declared.Zone.{Zone}
use Rattle.bcd.specs.declared.Zone.TheVariants.{Bare, A, B, AB}

-- the first byte of a text, which is used for texts of one letter
abbrev pub byte : List ℕ → ℕ
byte [] = 0
byte (b ∷ bs) = b

-- the glyphs of the characters 0 to 63, sixteen for each zone
abbrev pub glyphs : List ℕ
glyphs = codes " 1234567890#@:>\"^/STUVWXYZ|,%=\\+-JKLMNOPQR!$*];_&ABCDEFGHI?.)[<}"

-- the glyphs from the lowest rank to the highest
abbrev pub ranked : List ℕ
ranked = codes " .)[<}&$*];_-/,%=\\+^#@:>\"?ABCDEFGHI!JKLMNOPQR|STUVWXYZ0123456789"

-- the glyph of a character
unfoldable pub glyph_of : ℕ → ℕ
glyph_of n = slice_index glyphs n

-- the rank of a character: the place of its glyph among the ranked ones
unfoldable pub rank_of : ℕ → ℕ
rank_of n = unwrap_or (position (λ g. g == glyph_of n) ranked) 64

-- the number of a zone: its bits B and A
abbrev pub zone_number : Zone → ℕ
zone_number Bare = 0
zone_number A = 1
zone_number B = 2
zone_number AB = 3

-- the zone of a character
unfoldable pub zone_of : ℕ → Zone
zone_of n = if n / 16 == 0 then Bare
    else (if n / 16 == 1 then A else (if n / 16 == 2 then B else AB))

-- the digit of a character by its numeric part, if it has one: a part of 0 to 9 itself, and 0 for
-- part 10, the digit 0 of cards
unfoldable pub digit_of : ℕ → Option ℕ
digit_of n = if nat_le (n % 16) 9 then Some (n % 16) else (if n % 16 == 10 then Some 0 else None)

-- the bit of a card row, 0 to 9, 11 or 12, in a column of twelve bits
abbrev pub row : ℕ → ℕ
row r = if r == 12 then 2048 else (if r == 11 then 1024 else 2 ^ (9 - r))

-- the punch of a zone, as a bit of the column
abbrev pub zone_punch : Zone → ℕ
zone_punch Bare = 0
zone_punch A = row 0
zone_punch B = row 11
zone_punch AB = row 12

-- the punches of a numeric part: for 1 to 9 that row, for 11 to 15 rows 8 and the part less 8, for
-- 10 row 0, or rows 2 and 8 under zone A
abbrev pub part_punches : Zone → ℕ → ℕ
part_punches zone part =
    if part == 0 then 0
    else (if nat_le part 9 then row part
    else (if part == 10 then (if zone_number zone == 1 then row 2 + row 8 else row 0)
    else row 8 + row (part - 8)))

-- the punches of a character as twelve bits, row 12 the highest; the A bit alone is rows 2 and 8
unfoldable pub punches_of : ℕ → ℕ
punches_of n = if n == 16 then row 2 + row 8
    else zone_punch (zone_of n) + part_punches (zone_of n) (n % 16)

-- the function gives no two of the 64 characters the same number
abbrev pub IsOneToOne : (ℕ → ℕ) → Type 0
IsOneToOne f = (n m : ℕ) → n < 64 → m < 64 → f n ≡ f m → n ≡ m
