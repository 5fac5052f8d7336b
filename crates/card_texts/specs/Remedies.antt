-- what helps where a character is none of the 64
use Rattle.std.specs.Prelude.{ℕ, nat_eq, Bool, ◌||◌, if◌then◌else◌, List, [], ◌∷◌, slice_index, Option, Some, None}
use Rattle.std.specs.List.{starts_with}
use Rattle.card_forms.specs.Signs.{simh_glyph}
use Rattle.card_texts.specs.declared.remedies.Remedy.{Remedy}
use Rattle.card_texts.specs.declared.remedies.Remedy.TheVariants.{SimhSign, Written}
use Rattle.card_texts.specs.Signs.{is_glyph}

-- whether bytes begin with the lozenge, U+2311 in UTF-8
abbrev pub is_lozenge : List ℕ → Bool
is_lozenge bytes = starts_with nat_eq bytes (226 ∷ 140 ∷ 145 ∷ [])

-- whether bytes begin with the record mark: the double dagger, U+2021 in UTF-8, or the byte 1E,
-- which separates records
abbrev pub is_record_mark : List ℕ → Bool
is_record_mark bytes =
    starts_with nat_eq bytes (226 ∷ 128 ∷ 161 ∷ []) || starts_with nat_eq bytes (30 ∷ [])

-- the glyph to be written for a character that no table of signs has: `)` stands for the lozenge,
-- and the vertical bar for the record mark
abbrev pub written_for : List ℕ → Option Remedy
written_for bytes = if is_lozenge bytes then Some (Written 41)
    else (if is_record_mark bytes then Some (Written 124) else None)

-- what helps where a character with these bytes is none: SimH's signs, if it is one of them, or else
-- the glyph to be written for it
abbrev pub remedy_of : List ℕ → Option Remedy
remedy_of bytes = if is_glyph (simh_glyph (slice_index bytes 0))
    then Some (SimhSign (simh_glyph (slice_index bytes 0))) else written_for bytes
