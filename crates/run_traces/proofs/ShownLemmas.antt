-- the glyphs of characters in storage, one after the other
use Rattle.std.proofs.Common.{◌≡◌, ℕ, ◌+◌, ◌<◌, List, [], ◌∷◌, ◌++◌, length, sym, ap, ◌∙◌, append-nil, append_assoc}
use Rattle.std.proofs.lemmas.List.{map-append}
use Rattle.bcd.specs.Table.{glyph_of}
use Rattle.core_store.specs.Storage.{Storage, code_at, codes_from}
use Rattle.core_store.proofs.Fields.{codes_from_more, codes_from_none}
use Rattle.autocoder.specs.Listing.{glyphs_of}

-- no glyph
pub glyph_none : (s : Storage) (first : ℕ) (start : List ℕ) → start ≡ start ++ glyphs_of (codes_from s first 0)
glyph_none s first start = sym (ap (λ codes. start ++ glyphs_of codes) (codes_from_none s first) ∙ append-nil start)

-- the glyph of one character more
pub glyph_on : (s : Storage) (first place : ℕ) (start done : List ℕ) → first + place < length s
    → done ≡ start ++ glyphs_of (codes_from s first place)
    → done ++ glyph_of (code_at s (first + place)) ∷ [] ≡ start ++ glyphs_of (codes_from s first (place + 1))
glyph_on s first place start done within before =
    ap (λ text. text ++ glyph_of (code_at s (first + place)) ∷ []) before
    ∙ append_assoc start (glyphs_of (codes_from s first place)) (glyph_of (code_at s (first + place)) ∷ [])
    ∙ ap (λ glyphs. start ++ glyphs) (sym (ap glyphs_of (codes_from_more s first place within) ∙ map-append glyph_of (codes_from s first place) (code_at s (first + place) ∷ [])))
