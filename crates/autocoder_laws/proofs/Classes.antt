-- for all laws: the classes of characters, by their glyphs and as the reader tests them
use Rattle.std.proofs.Common.{◌≡◌, ◌≢◌, ℕ, ◌<◌, ◌≤◌, ◌==◌, Bool, true, false, not, ◌&&◌, ◌||◌, nat_lt, nat_le, List, codes, refl, sym, ◌∙◌, ap, ap₂, subst, arith, true≢false}
use Rattle.std.proofs.Math.Decide.{dec_lt}
use Rattle.std.proofs.lemmas.Bool.{eqb-true, ltb-true}
use Rattle.std.proofs.lemmas.List.{get_or_past}
use Rattle.std.specs.List.{list_any}
use Rattle.bcd.proofs.Tables.{at_each, glyphs_differ}
use Rattle.bcd.specs.Table.{glyphs, glyph_of, digit_of}
use Rattle.bcd.specs.declared.Zone.TheVariants.{Bare}
use Rattle.addresses.specs.Digits.{code_of, digit_under}
use Rattle.autocoder_statements.specs.Characters.{is_of, is_digit, is_letter, is_blank, digit_value}
use Rattle.autocoder_statements.specs.declared.characters.Class.TheVariants.{Digit, LetterOrDigit, Filled, Quoted}
use Rattle.autocoder_laws.specs.Texts.{is_one_of, digits, letters}
use Rattle.autocoder_statements.proofs.Tests.{both}

-- whether two tests agree
abbrev same : Bool → Bool → Bool
same true b = b
same false b = not b

is_same : (a b : Bool) → same a b ≡ true → a ≡ b
is_same true true e = refl
is_same true false e = sym e
is_same false true e = e
is_same false false e = refl

pub past : (c : ℕ) → 64 ≤ c → glyph_of c ≡ 0
unfolding glyph_of
past c h = get_or_past glyphs c 0 h

-- what a test says of each glyph, it says of each character's
by_glyph : (test : ℕ → Bool) → ((k : ℕ) → k < 64 → test (glyph_of k) ≡ true) → test 0 ≡ true → (c : ℕ) → test (glyph_of c) ≡ true
by_glyph test all none c = elim (dec_lt c 64) [ yes low ↦ all c low | no high ↦ let e = past c (omega arith) in subst (λ g. test g ≡ true) (sym e) none ]

abbrev agrees : (ℕ → Bool) → (ℕ → Bool) → ℕ → Bool
agrees one other glyph = same (one glyph) (other glyph)

abbrev among : List ℕ → ℕ → Bool
among wanted glyph = list_any (λ g. g == glyph) wanted

pub digit_class : (c : ℕ) → is_digit c ≡ is_one_of digits c
unfolding glyph_of
digit_class c = is_same _ _ (by_glyph (agrees (λ g. nat_le 48 g && nat_le g 57) (among digits))
    (at_each (λ k. same (is_digit k) (is_one_of digits k)) 64 refl) refl c)

pub letter_class : (c : ℕ) → is_letter c ≡ is_one_of letters c
unfolding glyph_of
letter_class c = is_same _ _ (by_glyph (agrees (λ g. nat_le 65 g && nat_le g 90) (among letters))
    (at_each (λ k. same (is_letter k) (is_one_of letters k)) 64 refl) refl c)

pub blank_class : (c : ℕ) → is_blank c ≡ is_one_of (codes " ") c
unfolding glyph_of
blank_class c = is_same _ _ (by_glyph (agrees (λ g. g == 32) (among (codes " ")))
    (at_each (λ k. same (is_blank k) (is_one_of (codes " ") k)) 64 refl) refl c)

pub at_class : (c : ℕ) → (glyph_of c == 64) ≡ is_one_of (codes "@") c
unfolding glyph_of
at_class c = is_same _ _ (by_glyph (agrees (λ g. g == 64) (among (codes "@")))
    (at_each (λ k. same (glyph_of k == 64) (is_one_of (codes "@") k)) 64 refl) refl c)

-- ---- the classes of the reader

pub is_of_digit : (c : ℕ) → is_of Digit c ≡ is_one_of digits c
unfolding is_of
is_of_digit c = digit_class c

pub is_of_name : (c : ℕ) → is_of LetterOrDigit c ≡ (is_one_of letters c || is_one_of digits c)
unfolding is_of
is_of_name c = ap₂ (λ a b. a || b) (letter_class c) (digit_class c)

pub is_of_filled : (c : ℕ) → is_of Filled c ≡ not (is_one_of (codes " ") c)
unfolding is_of
is_of_filled c = ap not (blank_class c)

pub is_of_quoted : (c : ℕ) → is_of Quoted c ≡ not (is_one_of (codes "@") c)
unfolding is_of
is_of_quoted c = ap not (at_class c)

-- ---- the character of a glyph

pub same_glyph : (c k : ℕ) → k < 64 → glyph_of k ≢ 0 → glyph_of c ≡ glyph_of k → c ≡ k
same_glyph c k low some e = elim (dec_lt c 64) [
  | yes small ↦ glyphs_differ c k small low e
  | no high ↦ absurd (some (sym e ∙ past c (omega arith)))
]

implied : (a b : Bool) → (not a || b) ≡ true → a ≡ true → b ≡ true
implied true b h e = h
implied false b h e = absurd (cc)

-- a digit is the character of its value
pub digit_is : (c : ℕ) → is_one_of digits c ≡ true → (c ≡ digit_under Bare (digit_value c)) × (digit_value c < 10)
unfolding glyph_of digit_of digit_under code_of
digit_is c h = elim (dec_lt c 64) [
  | yes small ↦ let p = both (c == digit_under Bare (digit_value c)) (nat_lt (digit_value c) 10)
      (implied (is_one_of digits c) _ (at_each (λ k. not (is_one_of digits k) || ((k == digit_under Bare (digit_value k)) && nat_lt (digit_value k) 10)) 64 refl c small) h) in
      (eqb-true _ _ p.0, ltb-true _ _ p.1)
  | no high ↦ absurd (true≢false (sym h ∙ ap (among digits) (past c (omega arith))))
]

pub digit_named : (d : ℕ) → d < 10 → is_one_of digits (digit_under Bare d) ≡ true
unfolding glyph_of digit_under code_of
digit_named d h = at_each (λ k. is_one_of digits (digit_under Bare k)) 10 refl d h

implied_not : (a b : Bool) → (not a || not b) ≡ true → a ≡ true → b ≡ false
implied_not true true h e = sym h
implied_not true false h e = refl
implied_not false b h e = absurd (cc)

pub digits_no_letters : (c : ℕ) → is_one_of digits c ≡ true → is_one_of letters c ≡ false
unfolding glyph_of
digits_no_letters c h =
    implied_not (is_one_of digits c) (is_one_of letters c)
    (by_glyph (λ g. not (among digits g) || not (among letters g)) (at_each (λ k. not (is_one_of digits k) || not (is_one_of letters k)) 64 refl) refl c) h

-- 35 is the glyph #
pub digit_no_sign : (c : ℕ) → is_one_of digits c ≡ true → (glyph_of c == 35) ≡ false
unfolding glyph_of
digit_no_sign c h =
    implied_not (is_one_of digits c) (glyph_of c == 35)
    (by_glyph (λ g. not (among digits g) || not (g == 35)) (at_each (λ k. not (is_one_of digits k) || not (glyph_of k == 35)) 64 refl) refl c) h

-- whether a glyph is one with which literals begin, as the reader tests it
abbrev starts : ℕ → Bool
starts g = ((g == 64) && true) || (((g == 38) && true) || (((g == 45) && true) || false))

pub no_literal_start : (c : ℕ) → (is_one_of letters c || is_one_of digits c) ≡ true → starts (glyph_of c) ≡ false
unfolding glyph_of
no_literal_start c h =
    implied_not (is_one_of letters c || is_one_of digits c) (starts (glyph_of c))
    (by_glyph (λ g. not (among letters g || among digits g) || not (starts g)) (at_each (λ k. not (is_one_of letters k || is_one_of digits k) || not (starts (glyph_of k))) 64 refl) refl c) h

pub names_no_blank : (c : ℕ) → (is_one_of letters c || is_one_of digits c) ≡ true → is_one_of (codes " ") c ≡ false
unfolding glyph_of
names_no_blank c h =
    implied_not (is_one_of letters c || is_one_of digits c) (is_one_of (codes " ") c)
    (by_glyph (λ g. not (among letters g || among digits g) || not (among (codes " ") g)) (at_each (λ k. not (is_one_of letters k || is_one_of digits k) || not (is_one_of (codes " ") k)) 64 refl) refl c) h

-- 42 is the glyph *
pub letter_no_asterisk : (c : ℕ) → is_one_of letters c ≡ true → (glyph_of c == 42) ≡ false
unfolding glyph_of
letter_no_asterisk c h =
    implied_not (is_one_of letters c) (glyph_of c == 42)
    (by_glyph (λ g. not (among letters g) || not (g == 42)) (at_each (λ k. not (is_one_of letters k) || not (glyph_of k == 42)) 64 refl) refl c) h

-- 44 is the character *
pub asterisk_is : (c : ℕ) → (glyph_of c == 42) ≡ true → c ≡ 44
unfolding glyph_of
asterisk_is c h = same_glyph c 44 (omega arith) (λ e. absurd (cc)) (eqb-true _ _ h)

-- 0 is the blank
pub blank_is : (c : ℕ) → is_blank c ≡ true → c ≡ 0
unfolding glyph_of
blank_is c h = same_glyph c 0 (omega arith) (λ e. absurd (cc)) (eqb-true _ _ h)
