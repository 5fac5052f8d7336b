-- the character of a glyph
use Rattle.std.proofs.Common.{◌≡◌, ◌≢◌, ℕ, zero, suc, ◌<◌, ◌==◌, ◌&&◌, Bool, true, false, List, [], ◌∷◌, length, get_or, Option, Some, None, refl, sym, ◌∙◌, ap, eqb, arith}
use Rattle.std.specs.Prelude.{IsTrue, IsSome, IsNone, is_some}
use Rattle.std.specs.List.{position}
use Rattle.std.proofs.lemmas.List.Quantifiers.{position-Some}
use Rattle.std.proofs.lemmas.Bool.{eqb-true}
use Rattle.bcd.proofs.Tables.{at_each}
use Rattle.bcd.specs.Table.{glyphs, glyph_of}
use Rattle.addresses.specs.Digits.{code_of}
use Rattle.loader.specs.Glyphs.{is_glyph, are_glyphs}

found_at : (code : ℕ) → code < 64 → code ≡ code_of (glyph_of code)
unfolding code_of glyph_of
found_at code h = sym (eqb-true _ _ (at_each (λ k. eqb (code_of (glyph_of k)) k) 64 refl code h))

pub code_found : (glyph code : ℕ) → code < 64 → glyph_of code ≡ glyph → code ≡ code_of glyph
code_found glyph code h e = found_at code h ∙ ap code_of e

some_at : (glyph : ℕ) → ((n : ℕ) → n < 64 → glyph_of n ≢ glyph) → (found : Option ℕ) → position (λ g. g == glyph) glyphs ≡ found → IsTrue (is_some found) → ⊥
unfolding glyph_of
some_at glyph none None e h = cc
some_at glyph none (Some i) e h =
    let at = position-Some (λ g. g == glyph) glyphs i 0 e in
    none i at.0 (eqb-true _ _ at.1)

-- a glyph is the glyph of some character
pub glyph_found : (glyph : ℕ) → IsTrue (is_glyph glyph) → (found : Option ℕ) → (IsNone found → (n : ℕ) → n < 64 → glyph_of n ≢ glyph) → IsSome found
glyph_found glyph h (Some code) none = refl
glyph_found glyph h None none = absurd (some_at glyph (none refl) (position (λ g. g == glyph) glyphs) refl h)

and_first : (a b : Bool) → IsTrue (a && b) → IsTrue a
and_first true b h = refl
and_first false b h = absurd (cc)

and_second : (a b : Bool) → IsTrue (a && b) → IsTrue b
and_second true b h = h
and_second false b h = absurd (cc)

-- each byte of a text of glyphs is one
pub glyph_at : (text : List ℕ) (i : ℕ) → i < length text → IsTrue (are_glyphs text) → IsTrue (is_glyph (get_or text i 0))
glyph_at [] i h t = absurd (omega arith)
glyph_at (glyph ∷ text) zero h t = and_first (is_glyph glyph) (are_glyphs text) t
glyph_at (glyph ∷ text) (suc i) h t = glyph_at text i (omega arith) (and_second (is_glyph glyph) (are_glyphs text) t)
