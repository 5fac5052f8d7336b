-- what words spell
use Rattle.std.proofs.Common.{◌≡◌, ◌≢◌, ◌<◌, ◌≤◌, ◌∙◌, Bool, true, false, List, ℕ, zero, suc, [], ◌∷◌, refl, sym, arith, decimal}
use Rattle.std.specs.Str.{IsUtf8, bytes_eq, is_utf8}
use Rattle.std.proofs.lemmas.Fmt.{decimal_digit, decimal_injective}
use Rattle.std.proofs.lemmas.Slice.Eq.{bytes_eq-Decides}
use Rattle.core_store.specs.Storage.{largest_size}
use Rattle.console.specs.Readings.{IsCountOf, IsPositionOf, most_asked}
use Rattle.std.proofs.lemmas.Str.{IsUtf8-from_is_utf8, is_utf8-from_IsUtf8}
use Rattle.console.specs.Words.{text_of}

-- a word in UTF-8 is its own text
pub own_text : (word : List ℕ) → IsUtf8 word → text_of word ≡ word
own_text word h = rw (is_utf8-from_IsUtf8 word h) refl

-- any other has none
pub no_text : (word : List ℕ) → ¬ IsUtf8 word → text_of word ≡ []
no_text word h = go (is_utf8 word) refl
  where
    go : (b : Bool) → is_utf8 word ≡ b → text_of word ≡ []
    go true e = absurd (h (IsUtf8-from_is_utf8 word e))
    go false e = rw e refl

-- a text is no count that is a number past the most
pub no_count : (text : List ℕ) (number : ℕ) → most_asked < number → number < 1000000000 → text ≡ decimal number → (count : ℕ) → ¬ IsCountOf text count
no_count text number many small is count other =
    let same = decimal_injective number count (omega arith) (omega (arith, other.1)) (sym is ∙ other.2) in omega (arith, same, other.1)

-- a text is no position that is a number past the largest storage
pub no_position : (text : List ℕ) (number : ℕ) → largest_size ≤ number → number < 1000000000 → text ≡ decimal number → (position : ℕ) → ¬ IsPositionOf text position
no_position text number many small is position other =
    let same = decimal_injective number position (omega arith) (omega (arith, other.0)) (sym is ∙ other.1) in omega (arith, same, other.0)

-- nor is one that is no number
pub not_position : (text : List ℕ) → bytes_eq text (48 ∷ []) ≡ false → ((number : ℕ) → 0 < number → number < 1000000000 → text ≢ decimal number)
    → (position : ℕ) → ¬ IsPositionOf text position
not_position text other none zero is =
    let same : text ≡ 48 ∷ [] = is.1 ∙ decimal_digit 0 (omega arith) in
    let both : bytes_eq text (48 ∷ []) ≡ true = (bytes_eq-Decides text (48 ∷ [])).1 same in
    absurd (cc)
not_position text other none (suc position) is = none (suc position) (omega arith) (omega (arith, is.0)) is.1

pub zero_position : (text : List ℕ) → bytes_eq text (48 ∷ []) ≡ true → IsPositionOf text 0
zero_position text same = (omega arith, (bytes_eq-Decides text (48 ∷ [])).0 same ∙ sym (decimal_digit 0 (omega arith)))
