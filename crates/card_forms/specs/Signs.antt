-- the signs of SimH's IBM 1401, and the glyphs that they stand for
use Rattle.std.specs.Prelude.{ℕ, ◌-◌, nat_le, ◌==◌, Bool, ◌&&◌, if◌then◌else◌, List, [], ◌∷◌}
use Rattle.std.specs.List.{list_all}
use Rattle.bcd.specs.Table.{glyph_of}

-- whether a byte is a small letter
abbrev pub is_small : ℕ → Bool
is_small byte = nat_le 97 byte && nat_le byte 122

-- the capital of a small letter; every other byte itself
abbrev pub capital : ℕ → ℕ
capital byte = if is_small byte then byte - 32 else byte

-- the glyph of the character for which a byte stands in a deck of SimH: `{`, `~` and `"` are `"`,
-- `=` and `+`; `=`, `'`, `(`, `+` and a grave accent are `#`, `@`, `%`, `&` and the blank; small
-- letters are capitals, and every other byte is itself
unfoldable pub simh_glyph : ℕ → ℕ
simh_glyph byte = if byte == 123 then 34
    else (if byte == 126 then 61
    else (if byte == 34 then 43
    else (if byte == 61 then 35
    else (if byte == 39 then 64
    else (if byte == 40 then 37
    else (if byte == 43 then 38
    else (if byte == 96 then 32 else capital byte)))))))

-- the sign that SimH punches for a character: `{`, `~` and `"` for the numbers 15, 29 and 31, whose
-- glyphs are `"`, `=` and `+`, and for every other character its glyph
unfoldable pub simh_sign : ℕ → ℕ
simh_sign code = if code == 15 then 123
    else (if code == 29 then 126
    else (if code == 31 then 34 else glyph_of code))

-- whether each of these characters is the blank
abbrev pub are_blank : List ℕ → Bool
are_blank codes = list_all (λ code. code == 0) codes

-- the characters up to the last one that is not blank
unfoldable pub filled : List ℕ → List ℕ
filled [] = []
filled (code ∷ rest) = if are_blank (code ∷ rest) then [] else code ∷ filled rest
