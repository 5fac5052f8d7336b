-- for `codes_from` of `stored`: the characters of a storage, copied one after the other
use Rattle.std.proofs.Common.{◌≡◌, ℕ, ◌+◌, ◌<◌, List, [], ◌∷◌, ◌++◌, length, take, set, sym, ap, ap₂, ◌∙◌, arith, length-set}
use Rattle.std.proofs.lemmas.List.{take_more_set}
use Rattle.core_store.specs.Storage.{Storage, code_at, codes_from}
use Rattle.core_store.proofs.Fields.{codes_from_more, codes_from_none}

pub copied_none : (s : Storage) (first : ℕ) → [] ≡ codes_from s first 0
copied_none s first = sym (codes_from_none s first)

-- so many are copied, of at most eight
abbrev pub IsCopied : Storage → ℕ → ℕ → List ℕ → Type 0
IsCopied s first place codes = (length codes ≡ 8) × (take place codes ≡ codes_from s first place)

pub copied_more : (s : Storage) (first place code : ℕ) (codes : List ℕ) → first + place < length s → place < 8 → code ≡ code_at s (first + place)
    → IsCopied s first place codes → IsCopied s first (place + 1) (set codes place code)
copied_more s first place code codes inside few e before = (
  length-set codes place code ∙ before.0,
  take_more_set codes place code (omega (arith, few, before.0)) ∙ ap₂ (λ done last. done ++ last ∷ []) before.1 e ∙ sym (codes_from_more s first place inside),
)

pub copied_all : (s : Storage) (first place count : ℕ) (codes : List ℕ) → place ≡ count → IsCopied s first place codes → take count codes ≡ codes_from s first count
copied_all s first place count codes e before = ap (λ n. take n codes) (sym e) ∙ before.1 ∙ ap (codes_from s first) e
