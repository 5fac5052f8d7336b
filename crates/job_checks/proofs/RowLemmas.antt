-- Rows that are compared value by value.
use Rattle.std.proofs.Common.{◌≡◌, ◌<◌, ◌+◌, ℕ, zero, suc, List, [], ◌∷◌, map, filter, drop, length, get_or, Bool, true, false, cond, refl, ap, ◌∙◌, arith}
use Rattle.std.specs.List.{AllByRecursion}
use Rattle.std.proofs.lemmas.List.{drop_more}
use Rattle.sqlite.specs.Order.{Row, column}
use Rattle.sqlite_value.specs.declared.value.ValueRef.{ValueRef}
use Rattle.sqlite_value.specs.Value.{owned}

-- a row that has each of these values has no others
pub same_row : (row : Row) (wanted : List ValueRef) → length row ≡ length wanted → ((k : ℕ) (d : ValueRef) → k < length wanted → column row k ≡ owned (get_or wanted k d)) → row ≡ map owned wanted
same_row [] [] long each = refl
same_row [] (w ∷ ws) long each = absurd (omega (arith, long))
same_row (v ∷ row) [] long each = absurd (omega (arith, long))
same_row (v ∷ row) (w ∷ ws) long each =
    let first : v ≡ owned w = each 0 w (omega arith) in
    let others : row ≡ map owned ws = same_row row ws (omega (arith, long)) (λ k d less. each (suc k) d (omega (arith, less))) in
    ap (λ x. x ∷ row) first ∙ ap (λ xs. owned w ∷ xs) others

-- what holds at each place holds of all
pub all_of : {X : Type 0} (P : X → Type 0) (xs : List X) → ((k : ℕ) (d : X) → k < length xs → P (get_or xs k d)) → AllByRecursion P xs
all_of P [] each = tt
all_of P (x ∷ xs) each = (each 0 x (omega arith), all_of P xs (λ k d less. each (suc k) d (omega (arith, less))))

-- ---- the rows that pass a test, from a place on

module _ {X : Type 0} (p : X → Bool) (xs : List X) (at : ℕ) (d : X) (within : at < length xs) where
  pub kept_here : p (get_or xs at d) ≡ true → filter p (drop at xs) ≡ get_or xs at d ∷ filter p (drop (at + 1) xs)
  kept_here passes = ap (filter p) (drop_more xs at d within) ∙ ap (λ b. cond b (get_or xs at d ∷ filter p (drop (at + 1) xs)) (filter p (drop (at + 1) xs))) passes

  pub left_here : p (get_or xs at d) ≡ false → filter p (drop at xs) ≡ filter p (drop (at + 1) xs)
  left_here fails = ap (filter p) (drop_more xs at d within) ∙ ap (λ b. cond b (get_or xs at d ∷ filter p (drop (at + 1) xs)) (filter p (drop (at + 1) xs))) fails

-- within a list it is all the same what stands for the end
pub other_default : {X : Type 0} (xs : List X) (k : ℕ) (a b : X) → k < length xs → get_or xs k a ≡ get_or xs k b
other_default [] k a b less = absurd (omega (arith, less))
other_default (x ∷ xs) zero a b less = refl
other_default (x ∷ xs) (suc k) a b less = other_default xs k a b (omega (arith, less))
