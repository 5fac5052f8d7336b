-- three characters put one after the other
use Rattle.std.proofs.Common.{◌≡◌, ℕ, ◌+◌, ◌-◌, ◌≤◌, List, [], ◌∷◌, refl, sym, ◌∙◌, ap, arith, length, get_or}
use Rattle.core_store.specs.Storage.{Storage, put, put_codes}

three : (codes : List ℕ) (d e f : ℕ) → length codes ≡ 3 → codes ≡ get_or codes 0 d ∷ get_or codes 1 e ∷ get_or codes 2 f ∷ []
three [] d e f h = absurd (omega arith)
three (x ∷ []) d e f h = absurd (omega arith)
three (x ∷ y ∷ []) d e f h = absurd (omega arith)
three (x ∷ y ∷ z ∷ []) d e f h = refl
three (x ∷ y ∷ z ∷ w ∷ rest) d e f h = absurd (omega arith)

module _ (s : Storage) (p : ℕ) (codes : List ℕ) (d e f : ℕ) (from : 2 ≤ p) (long : length codes ≡ 3) where
  put_in_turn : put (put (put s p (get_or codes 2 f)) (p - 1) (get_or codes 1 e)) (p - 2) (get_or codes 0 d) ≡ put_codes s (p - 2) codes
  unfolding put_codes
  put_in_turn =
      let first = get_or codes 0 d in
      let second = get_or codes 1 e in
      let third = get_or codes 2 f in
      let middle : p - 1 ≡ p - 2 + 1 = omega arith in
      let last : p ≡ p - 2 + 1 + 1 = omega arith in
      ap (λ n. put (put (put s n third) (p - 1) second) (p - 2) first) last
      ∙ ap (λ n. put (put (put s (p - 2 + 1 + 1) third) n second) (p - 2) first) middle
      ∙ ap (put_codes s (p - 2)) (sym (three codes d e f long))

  pub put_three : (one two all : Storage) → one ≡ put s p (get_or codes 2 f) → two ≡ put one (p - 1) (get_or codes 1 e) → all ≡ put two (p - 2) (get_or codes 0 d) → all ≡ put_codes s (p - 2) codes
  put_three one two all third second first =
      first ∙ ap (λ t. put t (p - 2) (get_or codes 0 d)) (second ∙ ap (λ t. put t (p - 1) (get_or codes 1 e)) third) ∙ put_in_turn
