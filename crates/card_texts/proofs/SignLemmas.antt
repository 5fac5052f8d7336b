-- glyphs and bytes
use Rattle.std.proofs.Common.{arith, subst, ◌≡◌, ◌≢◌, ◌<◌, ℕ, ◌==◌, true, false, get_or, slice_index}
use Rattle.std.proofs.lemmas.List.Folds.{list_any_at, list_any_none}
use Rattle.std.proofs.lemmas.List.{get_or_default}
use Rattle.bcd.specs.Table.{glyphs, glyph_of}
use Rattle.card_texts.specs.Signs.{is_glyph}

-- a character's glyph is one
pub glyph_found : (code byte : ℕ) → code < 64 → glyph_of code ≡ byte → is_glyph byte ≡ true
unfolding is_glyph glyph_of
glyph_found code byte below same =
    list_any_at (λ glyph. glyph == byte) glyphs code 0 below (grind (arith, same))

-- a glyph within the list is read by any default
at_any_default : (k d : ℕ) → k < 64 → slice_index glyphs k ≡ get_or glyphs k d
at_any_default k d below = get_or_default glyphs k 0 d below

-- numbers that differ
unequal : (m n : ℕ) → m ≢ n → (m == n) ≡ false
unequal m n other = grind (arith, other)

-- a byte that is no character's glyph is none
pub glyph_missing : (byte : ℕ) → ((n : ℕ) → n < 64 → glyph_of n ≢ byte) → is_glyph byte ≡ false
unfolding is_glyph glyph_of
glyph_missing byte missing =
    list_any_none (λ glyph. glyph == byte) glyphs (λ k d below.
    unequal (get_or glyphs k d) byte (subst (λ glyph. glyph ≢ byte) (at_any_default k d below) (missing k below)))
