-- the tables of signs
use Rattle.std.proofs.Common.{◌≡◌, ℕ, ◌<◌, ◌≤◌, ◌==◌, ◌&&◌, Bool, true, false, if◌then◌else◌, refl, sym, ap, ◌∙◌, arith, eqb, get_or}
use Rattle.std.proofs.Math.Decide.{dec_lt}
use Rattle.std.specs.List.{list_any}
use Rattle.std.proofs.lemmas.Bool.{eqb-true, eq-eqb, ne_eqb}
use Rattle.std.proofs.lemmas.List.{get_or_past}
use Rattle.bcd.proofs.Tables.{at_each}
use Rattle.bcd.specs.Table.{glyph_of, glyphs}
use Rattle.units.specs.Listing.{blank, not_on_the_chain, shown}
use Rattle.films.specs.Signs.{glyph_on, sign_of, sign_of_code}
use Rattle.films.specs.declared.signs.Surface.{Surface}
use Rattle.films.specs.declared.signs.Surface.TheVariants.{OnCard, OnPaper}
use Rattle.films.specs.declared.signs.TheConstants.{SIGNS, SIGNS_PRINTED}

pub sign_at : (n : ℕ) → n < 64 → get_or SIGNS n 0 ≡ sign_of_code n
unfolding sign_of_code sign_of glyph_of
sign_at n h = eqb-true _ _ (at_each (λ k. eqb (get_or SIGNS k 0) (sign_of_code k)) 64 refl n h)

pub printed_at : (n : ℕ) → n < 64 → get_or SIGNS_PRINTED n 0 ≡ sign_of (shown n)
unfolding sign_of shown glyph_of
printed_at n h = eqb-true _ _ (at_each (λ k. eqb (get_or SIGNS_PRINTED k 0) (sign_of (shown k))) 64 refl n h)

-- ---- the signs of glyphs

pub other : (glyph : ℕ) → (32 == glyph) ≡ false → (38 == glyph) ≡ false → (92 == glyph) ≡ false → (62 == glyph) ≡ false → (60 == glyph) ≡ false → (34 == glyph) ≡ false → sign_of glyph ≡ glyph
unfolding sign_of
other glyph blank and back more less quote = rw (blank, and, back, more, less, quote) refl

pub above : (glyph : ℕ) → 128 ≤ glyph → sign_of glyph ≡ glyph
above glyph high =
    let differs : (n : ℕ) → n < 128 → (n == glyph) ≡ false = λ n low. ne_eqb n glyph (λ is. omega (arith, is, low, high)) in
    other glyph (differs 32 (omega arith)) (differs 38 (omega arith)) (differs 92 (omega arith)) (differs 62 (omega arith)) (differs 60 (omega arith)) (differs 34 (omega arith))

-- ---- the sign of the blank

pub blank_sign : sign_of blank ≡ 126
unfolding sign_of
blank_sign = refl

-- whether a glyph has another sign than the blank, or is the blank
fits : ℕ → Bool
fits glyph = if eqb (sign_of glyph) 126 then eqb glyph blank else true

glyphs_fit : (n : ℕ) → n < 64 → fits (glyph_of n) && fits (shown n) ≡ true
unfolding fits sign_of shown glyph_of
glyphs_fit n h = at_each (λ k. fits (glyph_of k) && fits (shown k)) 64 refl n h

both : (a b : Bool) → (a && b) ≡ true → (a ≡ true) × (b ≡ true)
both true b h = (refl, h)
both false b h = absurd (cc)

is_blank_by : (glyph : ℕ) → fits glyph ≡ true → sign_of glyph ≡ 126 → glyph ≡ blank
unfolding fits
is_blank_by glyph test is =
    eqb-true glyph blank (sym (ap (λ b. if b then eqb glyph blank else true) (eq-eqb (sign_of glyph) 126 is)) ∙ test)

pub no_glyph : (n : ℕ) → 64 ≤ n → glyph_of n ≡ 0
unfolding glyph_of
no_glyph n h = get_or_past glyphs n 0 h

pub none_shown : (n : ℕ) → 64 ≤ n → shown n ≡ 0
unfolding shown
none_shown n h = ap (λ g. if list_any (λ other. eqb g other) not_on_the_chain then blank else g) (no_glyph n h)

none_is_other : sign_of 0 ≡ 126 → ⊥
unfolding sign_of
none_is_other is = absurd (omega (arith, is))

-- what stands for a character is blank if its sign is that of the blank
pub sign_blank : (surface : Surface) (n : ℕ) → sign_of (glyph_on surface n) ≡ 126 → glyph_on surface n ≡ blank
sign_blank OnPaper n is =
    elim (dec_lt n 64) [
      | yes low ↦ is_blank_by (shown n) (both (fits (glyph_of n)) (fits (shown n)) (glyphs_fit n low)).1 is
      | no high ↦ absurd (none_is_other (sym (ap sign_of (none_shown n (omega arith))) ∙ is))
    ]
sign_blank OnCard n is =
    elim (dec_lt n 64) [
      | yes low ↦ is_blank_by (glyph_of n) (both (fits (glyph_of n)) (fits (shown n)) (glyphs_fit n low)).0 is
      | no high ↦ absurd (none_is_other (sym (ap sign_of (no_glyph n (omega arith))) ∙ is))
    ]

pub blank_signed : (surface : Surface) (n : ℕ) → glyph_on surface n ≡ blank → sign_of (glyph_on surface n) ≡ 126
blank_signed surface n is = ap sign_of is ∙ blank_sign
