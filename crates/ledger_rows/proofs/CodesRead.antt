-- numbers that are read as characters one after another
use Rattle.std.proofs.Common.{◌≡◌, ℕ, ◌+◌, ◌<◌, Bool, true, false, ◌&&◌, Option, Some, None, List, [], ◌∷◌, ◌++◌, length, set, take, get_or, sym, ap, refl, ◌∙◌, arith}
use Rattle.std.specs.Prelude.{IfSome, IsSome, is_some, ◌↔◌}
use Rattle.std.specs.Option.{unwrap_or}
use Rattle.std.proofs.lemmas.List.{take_more, take_more_set}
use Rattle.std.proofs.lemmas.List.Elements.{All-get_or, All-more}
use Rattle.cards.specs.Decks.{AreCharacters}

both : (a b : Bool) → a && b ≡ true → (a ≡ true) × (b ≡ true)
both true true is = (refl, refl)
both true false is = absurd (let no = is in cc)
both false b is = absurd (let no = is in cc)

joined : (a b : Bool) → a ≡ true → b ≡ true → a && b ≡ true
joined a b one two = rw (one, two) refl

pub some_true : (found : Option ℕ) → IsSome found → is_some found ≡ true
some_true None some = some
some_true (Some x) some = refl

pub read_value : (found : Option ℕ) (blank n : ℕ) → (IsSome found ↔ (n < 64)) → IfSome found (λ code. code ≡ n) → is_some found ≡ true → (unwrap_or found blank ≡ n) × (n < 64)
read_value None blank n valid value is = absurd (let no = is in cc)
read_value (Some x) blank n valid value is = (value, valid.0 refl)

module _ (codes numbers : List ℕ) (i : ℕ) (are is : Bool) (code : ℕ) (within : i < length numbers) (size : length codes ≡ length numbers)
    (valid : get_or numbers i 0 < 64 → is ≡ true) (value : is ≡ true → (code ≡ get_or numbers i 0) × (get_or numbers i 0 < 64))
    (same : are ≡ true → take i codes ≡ take i numbers) (characters : are ≡ true → AreCharacters (take i numbers)) (all : AreCharacters numbers → are ≡ true) where
  pub one_read : are && is ≡ true → take (i + 1) (set codes i code) ≡ take (i + 1) numbers
  one_read good =
      let it = both are is good in
      take_more_set codes i code (omega (arith, within, size)) ∙ ap (λ xs. xs ++ code ∷ []) (same it.0) ∙ ap (λ n. take i numbers ++ n ∷ []) (value it.1).0 ∙ sym (take_more numbers i 0 within)

  pub one_character : are && is ≡ true → AreCharacters (take (i + 1) numbers)
  one_character good =
      let it = both are is good in
      All-more (λ n. n < 64) numbers i 0 within (characters it.0) (value it.1).1

  pub all_read : AreCharacters numbers → are && is ≡ true
  all_read each = joined are is (all each) (valid (All-get_or (λ n. n < 64) numbers i 0 within each))
