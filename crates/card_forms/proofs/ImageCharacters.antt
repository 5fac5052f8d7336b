-- the characters of patterns
use Rattle.std.proofs.Common.{◌≡◌, ◌≢◌, ℕ, zero, suc, ◌<◌, ◌≤◌, ◌==◌, true, false, List, get_or, Option, Some, None, is_some, refl, ap, sym, ◌∙◌, arith, inl, inr}
use Rattle.std.proofs.lemmas.Bool.{cases_lt, eqb-true, eqb-false, lt-ltb, ltb-true, ne_eqb}
use Rattle.std.proofs.lemmas.List.Quantifiers.{position-Some}
use Rattle.bcd.proofs.Tables.{punches_differ}
use Rattle.bcd.specs.Table.{glyph_of, punches_of}
use Rattle.card_forms.specs.Images.{character_among, character_of, glyph_shown, is_character, odd_card, odd_column, sign_shown}
use Rattle.card_forms.specs.Signs.{simh_sign}
use Rattle.card_forms.specs.declared.images.CardImage.{CardImage}

-- among the characters below a number the one with the punches is found
among_is : (n code pattern : ℕ) → n ≤ 64 → code < n → punches_of code ≡ pattern → character_among n pattern ≡ code
unfolding character_among
among_is zero code pattern most below is = absurd (omega arith)
among_is (suc n) code pattern most below is =
    (elim (punches_of n == pattern) as (λ b. (punches_of n == pattern) ≡ b → character_among (suc n) pattern ≡ code) [
      | true ↦ λ same. rw same (punches_differ n code (omega arith) (omega arith) (eqb-true (punches_of n) pattern same ∙ sym is))
      | false ↦ λ other. rw other (elim (cases_lt code n) [
        | inl low ↦ among_is n code pattern (omega arith) low is
        | inr high ↦
            let same : n ≡ code = omega arith in
            absurd (eqb-false (punches_of n) pattern other (ap punches_of same ∙ is))
      ])
    ]) refl

-- and where none has them none is found
among_none : (n pattern : ℕ) → ((code : ℕ) → code < n → punches_of code ≢ pattern) → character_among n pattern ≡ 64
unfolding character_among
among_none zero pattern none = refl
among_none (suc n) pattern none =
    rw (ne_eqb (punches_of n) pattern (none n (omega arith))) (among_none n pattern (λ code below. none code (omega arith)))

-- what is found has the punches
among_back : (n pattern : ℕ) → n ≤ 64 → character_among n pattern < 64 → punches_of (character_among n pattern) ≡ pattern
unfolding character_among
among_back zero pattern most below = absurd (omega arith)
among_back (suc n) pattern most below =
    (elim (punches_of n == pattern) as (λ b. (punches_of n == pattern) ≡ b → punches_of (character_among (suc n) pattern) ≡ pattern) [
      | true ↦ λ same. rw same (eqb-true (punches_of n) pattern same)
      | false ↦ λ other. let less = rw other at below in rw other (among_back n pattern (omega arith) less)
    ]) refl

pub character_is : (code pattern : ℕ) → code < 64 → punches_of code ≡ pattern → character_of pattern ≡ code
unfolding character_of
character_is code pattern below is = among_is 64 code pattern (omega arith) below is

pub character_none : (pattern : ℕ) → ((code : ℕ) → code < 64 → punches_of code ≢ pattern) → character_of pattern ≡ 64
unfolding character_of
character_none pattern none = among_none 64 pattern none

pub punches_back : (pattern : ℕ) → is_character pattern ≡ true → punches_of (character_of pattern) ≡ pattern
unfolding character_of
punches_back pattern is = among_back 64 pattern (omega arith) (ltb-true (character_of pattern) 64 is)

-- a character's punches are a character's
pub is_one : (code : ℕ) → code < 64 → is_character (punches_of code) ≡ true
is_one code below = rw (character_is code (punches_of code) below refl) (lt-ltb code 64 below)

-- and are shown by its glyph and its sign
pub glyph_of_character : (pattern : ℕ) → is_character pattern ≡ true → glyph_shown pattern ≡ glyph_of (character_of pattern)
unfolding glyph_shown
glyph_of_character pattern is = rw is refl

pub glyph_is : (code : ℕ) → code < 64 → glyph_shown (punches_of code) ≡ glyph_of code
glyph_is code below =
    glyph_of_character (punches_of code) (is_one code below) ∙ ap glyph_of (character_is code (punches_of code) below refl)

sign_of_character : (pattern : ℕ) → is_character pattern ≡ true → sign_shown pattern ≡ simh_sign (character_of pattern)
unfolding sign_shown
sign_of_character pattern is = rw is refl

pub sign_is : (code : ℕ) → code < 64 → sign_shown (punches_of code) ≡ simh_sign code
sign_is code below =
    sign_of_character (punches_of code) (is_one code below) ∙ ap simh_sign (character_is code (punches_of code) below refl)

-- the first card with an odd column has one
pub odd_there : (images : List CardImage) (card : ℕ) (d : CardImage) → odd_card images ≡ Some card
    → odd_column (get_or images card d) ≡ None → ⊥
odd_there images card d first none =
    let found = position-Some (λ image. is_some (odd_column image)) images card d first in
    let both : is_some (odd_column (get_or images card d)) ≡ true = found.1 in
    let other : is_some (odd_column (get_or images card d)) ≡ false = ap is_some none in
    let same : true ≡ false = sym both ∙ other in
    absurd (cc)
