-- glyphs, and lines of them
use Rattle.std.proofs.Common.{arith, refl, ap, subst, ◌∙◌, ◌≡◌, ◌<◌, ◌≤◌, ◌-◌, ◌==◌, ℕ, nat_le, nat_lt, Bool, true, false, ◌&&◌, not, if◌then◌else◌, List, [], ◌∷◌, ◌++◌, length, take, replicate, zero, suc, inl, inr, min}
use Rattle.std.specs.List.{list_all}
use Rattle.std.proofs.lemmas.Bool.{cases_Bool}
use Rattle.std.proofs.lemmas.List.{get_or_default}
use Rattle.std.proofs.lemmas.List.Folds.{list_all-append, Any-from_list_any}
use Rattle.bcd.specs.Table.{glyphs, glyph_of}
use Rattle.bcd.proofs.Tables.{at_each}
use Rattle.card_texts.specs.declared.rules.Signs.{Signs}
use Rattle.card_texts.specs.declared.rules.Signs.TheVariants.{Bureau, Simh}
use Rattle.card_texts.specs.Columns.{blank}
use Rattle.card_forms.specs.Signs.{is_small, simh_glyph}
use Rattle.card_texts.specs.Signs.{glyph_by, is_glyph}

-- each of the bytes is a glyph
abbrev pub are_glyphs : List ℕ → Bool
are_glyphs bytes = list_all is_glyph bytes

-- a glyph is a printable character below 127, and no small letter
abbrev pub is_plain : ℕ → Bool
is_plain byte = nat_le 32 byte && (nat_lt byte 127 && not (is_small byte))

plain_at : (code : ℕ) → code < 64 → is_plain (glyph_of code) ≡ true
unfolding glyph_of
plain_at code below = at_each (λ k. is_plain (glyph_of k)) 64 refl code below

-- the character of a glyph
pub record IsGlyphOf (byte code : ℕ) : Type 0 where
  pub below : code < 64
  pub glyph : glyph_of code ≡ byte

same_number : (m n : ℕ) → (m == n) ≡ true → m ≡ n
same_number m n same = grind (arith, same)

pub code_of_glyph : (byte : ℕ) → is_glyph byte ≡ true → (code : ℕ) × IsGlyphOf byte code
unfolding is_glyph glyph_of
code_of_glyph byte is =
    let found = Any-from_list_any (λ glyph. glyph == byte) glyphs is in (
      found.0,
      record {
        below = found.2;
        glyph = get_or_default glyphs found.0 0 found.1 found.2 ∙ found.3
            ∙ same_number found.1 byte found.4;
      },
    )

-- a glyph is a printable character, and no small letter
pub glyph_plain : (byte : ℕ) → is_glyph byte ≡ true → is_plain byte ≡ true
glyph_plain byte is =
    let found = code_of_glyph byte is in
    subst (λ b. is_plain b ≡ true) found.1.glyph (plain_at found.0 found.1.below)

-- what it is to be one of these characters
pub record IsPlain (byte : ℕ) : Type 0 where
  pub above : 32 ≤ byte
  pub below : byte < 127
  pub no_letter : is_small byte ≡ false

plain_by : (byte : ℕ) → is_plain byte ≡ true → IsPlain byte
plain_by byte is = record {
  above = grind (arith, is);
  below = grind (arith, is);
  no_letter = grind (arith, is);
}

pub plain : (byte : ℕ) → is_glyph byte ≡ true → IsPlain byte
plain byte is = plain_by byte (glyph_plain byte is)

-- a glyph is read as itself among glyphs
pub glyph_kept : (folds : Bool) (byte : ℕ) → is_glyph byte ≡ true → glyph_by Bureau folds byte ≡ byte
unfolding glyph_by
glyph_kept false byte is = refl
glyph_kept true byte is = ap (λ small. if small then byte - 32 else byte) (plain byte is).no_letter

-- what holds of both
pub both : (a b : Bool) → (a && b) ≡ true → (a ≡ true) × (b ≡ true)
both true b is = (refl, is)
both false b is = absurd (cc)

-- a byte beyond the letters stands for itself
beyond : (signs : Signs) (folds : Bool) (byte : ℕ) → 127 ≤ byte → glyph_by signs folds byte ≡ byte
unfolding glyph_by simh_glyph
beyond Bureau false byte high = refl
beyond Bureau true byte high = grind (arith, high)
beyond Simh folds byte high = grind (arith, high)

-- a byte that stands for a glyph does not begin a character of several bytes
pub glyph_alone : (signs : Signs) (folds : Bool) (byte : ℕ) → is_glyph (glyph_by signs folds byte) ≡ true → nat_le 192 byte ≡ false
glyph_alone signs folds byte is =
    elim (cases_Bool (nat_le 192 byte)) [
      | inl high ↦
          let far : 127 ≤ byte = grind (arith, high) in
          let same = beyond signs folds byte far in
          let low = (plain byte (subst (λ b. is_glyph b ≡ true) same is)).below in
          absurd (omega (arith, far, low))
      | inr low ↦ low
    ]

-- a blank is a glyph
pub blank_is_glyph : is_glyph blank ≡ true
unfolding is_glyph
blank_is_glyph = refl

-- blanks are glyphs
pub blanks_are_glyphs : (count : ℕ) → are_glyphs (replicate count blank) ≡ true
blanks_are_glyphs zero = refl
blanks_are_glyphs (suc count) = rw blank_is_glyph (blanks_are_glyphs count)

-- of glyphs the first ones are glyphs
pub first_are_glyphs : (n : ℕ) (xs : List ℕ) → are_glyphs xs ≡ true → are_glyphs (take n xs) ≡ true
first_are_glyphs zero xs all = refl
first_are_glyphs (suc n) [] all = refl
first_are_glyphs (suc n) (x ∷ xs) all =
    let parts = both (is_glyph x) (are_glyphs xs) all in
    rw parts.0 (first_are_glyphs n xs parts.1)

-- glyphs behind glyphs
pub joined_are_glyphs : (xs ys : List ℕ) → are_glyphs xs ≡ true → are_glyphs ys ≡ true
    → are_glyphs (xs ++ ys) ≡ true
joined_are_glyphs xs ys first second = rw (list_all-append is_glyph xs ys) (rw first second)

-- the first so many of two lists, one behind the other
pub take_joined : (n : ℕ) (xs ys : List ℕ)
    → take n (xs ++ ys) ≡ take n xs ++ take (n - length xs) ys
take_joined zero xs ys =
    let none : zero - length xs ≡ zero = omega arith in rw none refl
take_joined (suc n) [] ys =
    let all : suc n - zero ≡ suc n = omega arith in rw all refl
take_joined (suc n) (x ∷ xs) ys =
    let less : suc n - suc (length xs) ≡ n - length xs = omega arith in
    rw less (ap (λ rest. x ∷ rest) (take_joined n xs ys))

-- the first so many of the first so many
pub take_twice : (n k : ℕ) (xs : List ℕ) → take n (take k xs) ≡ take (min n k) xs
take_twice zero k xs = let none : min zero k ≡ zero = omega arith in rw none refl
take_twice (suc n) zero xs =
    let none : min (suc n) zero ≡ zero = omega arith in rw none refl
take_twice (suc n) (suc k) [] =
    let less : min (suc n) (suc k) ≡ suc (min n k) = omega arith in rw less refl
take_twice (suc n) (suc k) (x ∷ xs) =
    let less : min (suc n) (suc k) ≡ suc (min n k) = omega arith in
    rw less (ap (λ rest. x ∷ rest) (take_twice n k xs))
