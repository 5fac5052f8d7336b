-- more on lists
use Rattle.std.proofs.Common.{◌≡◌, ℕ, suc, ◌+◌, ◌<◌, ◌≤◌, List, [], ◌∷◌, ◌++◌, length, take, map, get_or, arith, ap, sym, ◌∙◌, append_assoc, length-append}
use Rattle.std.proofs.Math.Seq.{take-suc}
use Rattle.std.proofs.lemmas.List.{map-append, length-take-le}

-- one element more
pub take_next : {X : Type 0} → (xs : List X) (n : ℕ) (d : X) → n < length xs → take (n + 1) xs ≡ take n xs ++ get_or xs n d ∷ []
take_next xs n d h =
    let e : n + 1 ≡ suc n = omega arith in
    ap (λ k. take k xs) e ∙ take-suc xs n d h

-- one element more behind some others
pub behind_step : {X : Type 0} → (old now new xs : List X) (i : ℕ) (d : X) → i < length xs → now ≡ old ++ take i xs → new ≡ now ++ get_or xs i d ∷ [] →
    new ≡ old ++ take (i + 1) xs
behind_step old now new xs i d h n e =
    e
    ∙ ap (λ t. t ++ get_or xs i d ∷ []) n
    ∙ append_assoc old (take i xs) (get_or xs i d ∷ [])
    ∙ ap (λ t. old ++ t) (sym (take_next xs i d h))

pub map_step : {X : Type 0} → {Y : Type 0} → (f : X → Y) (old now new : List Y) (xs : List X) (i : ℕ) (d : X) → i < length xs → now ≡ old ++ map f (take i xs) →
    new ≡ now ++ f (get_or xs i d) ∷ [] → new ≡ old ++ map f (take (i + 1) xs)
map_step f old now new xs i d h n e =
    e
    ∙ ap (λ t. t ++ f (get_or xs i d) ∷ []) n
    ∙ append_assoc old (map f (take i xs)) (f (get_or xs i d) ∷ [])
    ∙ ap (λ t. old ++ t) (sym (map-append f (take i xs) (get_or xs i d ∷ [])))
    ∙ ap (λ t. old ++ map f t) (sym (take_next xs i d h))

-- so many of a list behind another, and more to come, are fewer than all
pub length_behind : {X : Type 0} → (old now xs : List X) (i : ℕ) → i < length xs → now ≡ old ++ take i xs → length now < length (old ++ xs)
length_behind old now xs i h n =
    let within : i ≤ length xs = omega arith in
    omega (arith, ap length n, length-append old (take i xs), length-append old xs, length-take-le i xs within)
