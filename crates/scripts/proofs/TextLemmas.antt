-- What words spell.
use Rattle.std.proofs.Common.{◌≡◌, ◌≢◌, ◌∙◌, ◌⊎◌, inl, inr, ℕ, zero, suc, ◌<◌, ◌^◌, Bool, true, false, List, [], ◌∷◌, refl, sym, ap, arith, decimal}
use Rattle.std.specs.Str.{IsUtf8, is_utf8}
use Rattle.std.specs.Prelude.{slice_index}
use Rattle.std.specs.Fmt.{digits}
use Rattle.std.specs.Str.Parse.{digits_value}
use Rattle.std.proofs.lemmas.Str.{IsUtf8-from_is_utf8, is_utf8-from_IsUtf8, IsUtf8-from_ascii}
use Rattle.std.proofs.lemmas.Fmt.{decimal_is_IsNumeral}
use Rattle.texts.specs.Numbers.{IsNumberOf}
use Rattle.scripts.specs.Texts.{IsCountOf, text_of}

-- a word in UTF-8 is its own text
pub own_text : (word : List ℕ) → IsUtf8 word → text_of word ≡ word
own_text word h = rw (is_utf8-from_IsUtf8 word h) refl

-- any other has none
pub no_text : (word : List ℕ) → ¬ IsUtf8 word → text_of word ≡ []
no_text word h = go (is_utf8 word) refl
  where
    go : (b : Bool) → is_utf8 word ≡ b → text_of word ≡ []
    go true e = absurd (h (IsUtf8-from_is_utf8 word e))
    go false e = rw e refl

-- the text of a word that has one byte
text_is : (word text : List ℕ) → text ≢ [] → text_of word ≡ text → word ≡ text
text_is word text some is = go (is_utf8 word) refl
  where
    go : (b : Bool) → is_utf8 word ≡ b → word ≡ text
    go true e = rw e at is
    go false e = absurd (some (sym (rw e at is)))

decimal_0 : decimal 0 ≡ 48 ∷ []
unfolding digits
decimal_0 = refl

zero_text : text_of (48 ∷ []) ≡ 48 ∷ []
zero_text = own_text (48 ∷ []) (IsUtf8-from_ascii (48 ∷ []) ascii)
  where
    ascii : (i : ℕ) → slice_index (48 ∷ []) i < 128
    ascii zero = omega arith
    ascii (suc i) = omega arith

-- the word of no card
pub zero_count : (word : List ℕ) → word ≡ 48 ∷ [] → IsCountOf word 0
zero_count word is = (omega arith, ap text_of is ∙ zero_text ∙ sym decimal_0)

same_number : (n m : ℕ) → n < 10 ^ 9 → m < 10 ^ 9 → decimal n ≡ decimal m → n ≡ m
same_number n m small other same =
    sym (decimal_is_IsNumeral n (omega (arith, small))).1 ∙ ap (digits_value 10) same ∙ (decimal_is_IsNumeral m (omega (arith, other))).1

-- a word that is no count of cards
pub no_count : (word : List ℕ) (number : ℕ) → word ≢ 48 ∷ [] → IsNumberOf (text_of word) number → (number ≡ 0) ⊎ (2000 < number) → (count : ℕ) → ¬ IsCountOf word count
no_count word number other (inl spelled) (inl none) count is = omega (arith, spelled.0, none)
no_count word number other (inl spelled) (inr many) count is =
    let same = same_number number count spelled.1 (omega (arith, is.0)) (sym spelled.2 ∙ is.1) in
    omega (arith, same, many, is.0)
no_count word number other (inr unspelled) more zero is = other (text_is word (48 ∷ []) (λ e. absurd (cc)) (is.1 ∙ decimal_0))
no_count word number other (inr unspelled) more (suc count) is = unspelled.1 (suc count) (omega arith) (omega (arith, is.0)) is.1
