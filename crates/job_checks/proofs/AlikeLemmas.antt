-- Lists that agree in their parts, from the first on.
use Rattle.std.proofs.Common.{◌≡◌, ◌<◌, ◌≤◌, ◌+◌, ◌↔◌, ℕ, List, ◌∷◌, drop, length, get_or, sym, ap, subst, ◌∙◌}
use Rattle.std.specs.List.{AllByRecursion}
use Rattle.std.proofs.lemmas.List.{drop_more}
use Rattle.std.proofs.Math.ListN.{drop_of_length-le}

module _ {T : Type 0} (Is : T → Type 0) where
  -- the lists are the same, and their parts can be compared
  abbrev pub Agree : List T → List T → Type 0
  Agree xs ys = (xs ≡ ys) × AllByRecursion Is ys

  -- the lists agree if and only if they do from a place on
  abbrev pub AgreeFrom : List T → List T → ℕ → Type 0
  AgreeFrom xs ys at = Agree xs ys ↔ Agree (drop at xs) (drop at ys)

  cons_agree : (x y : T) (xs ys : List T) → (x ≡ y) × Is y → Agree xs ys ↔ Agree (x ∷ xs) (y ∷ ys)
  cons_agree x y xs ys same = (λ it. (ap (λ z. z ∷ xs) same.0 ∙ ap (λ zs. y ∷ zs) it.0, (same.1, it.1)), λ it. (ap (drop 1) it.0, it.1.1))

  -- at a place of both
  split : (x y : T) (xs ys : List T) (at : ℕ) → at < length xs → at < length ys → get_or xs at x ≡ x → get_or ys at y ≡ y
      → Agree (drop at xs) (drop at ys) ≡ Agree (x ∷ drop (at + 1) xs) (y ∷ drop (at + 1) ys)
  split x y xs ys at less short is its =
      let one : drop at xs ≡ x ∷ drop (at + 1) xs = drop_more xs at x less ∙ ap (λ z. z ∷ drop (at + 1) xs) is in
      let other : drop at ys ≡ y ∷ drop (at + 1) ys = drop_more ys at y short ∙ ap (λ z. z ∷ drop (at + 1) ys) its in
      ap (λ zs. Agree zs (drop at ys)) one ∙ ap (λ zs. Agree (x ∷ drop (at + 1) xs) zs) other

  pub agree_next : (x y : T) (xs ys : List T) (at : ℕ) → at < length xs → at < length ys → get_or xs at x ≡ x → get_or ys at y ≡ y
      → (x ≡ y) × Is y → AgreeFrom xs ys at → AgreeFrom xs ys (at + 1)
  agree_next x y xs ys at less short is its same from =
      let here = split x y xs ys at less short is its in
      let next = cons_agree x y (drop (at + 1) xs) (drop (at + 1) ys) same in
      (λ it. next.1 (subst (λ (P : Type 0). P) here (from.0 it)), λ it. from.1 (subst (λ (P : Type 0). P) (sym here) (next.0 it)))

  pub all_agree : (xs ys : List T) (at : ℕ) → length xs ≤ at → length ys ≤ at → AgreeFrom xs ys at → Agree xs ys
  all_agree xs ys at past end from =
      from.1 (drop_of_length-le xs past ∙ sym (drop_of_length-le ys end), subst (AllByRecursion Is) (sym (drop_of_length-le ys end)) tt)
