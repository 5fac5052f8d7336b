-- What stands among the things of a list.
use Rattle.std.proofs.Common.{◌≡◌, ◌<◌, ◌⊎◌, inl, inr, ℕ, zero, suc, List, [], ◌∷◌, map, filter, find, length, get_or, Bool, true, false, cond, Some, None, refl, sym, ap, subst, ◌∙◌, arith, true≢false}
use Rattle.std.specs.List.{AllByRecursion}

-- it is one of these
abbrev pub IsAmong : {X : Type 0} → X → List X → Type 0
IsAmong x [] = ⊥
IsAmong x (y ∷ ys) = (x ≡ y) ⊎ IsAmong x ys

pub all_among : {X : Type 0} (P : X → Type 0) (x : X) (xs : List X) → AllByRecursion P xs → IsAmong x xs → P x
all_among P x [] all among = absurd among
all_among P x (y ∷ ys) all (inl is) = subst P (sym is) all.0
all_among P x (y ∷ ys) all (inr more) = all_among P x ys all.1 more

pub from_among : {X : Type 0} (P : X → Type 0) (xs : List X) → ((x : X) → IsAmong x xs → P x) → AllByRecursion P xs
from_among P [] each = tt
from_among P (x ∷ xs) each = (each x (inl refl), from_among P xs (λ y among. each y (inr among)))

pub among_filter : {X : Type 0} (p : X → Bool) (x : X) (xs : List X) → IsAmong x xs → p x ≡ true → IsAmong x (filter p xs)
among_filter p x [] among passes = absurd among
among_filter p x (y ∷ ys) (inl is) passes = subst (λ b. IsAmong x (cond b (y ∷ filter p ys) (filter p ys))) (sym (ap p (sym is) ∙ passes)) (inl is)
among_filter p x (y ∷ ys) (inr more) passes =
    let rest = among_filter p x ys more passes in
    elim (p y) as (λ b. IsAmong x (cond b (y ∷ filter p ys) (filter p ys))) [ true ↦ inr rest | false ↦ rest ]

-- what is found is among them, and passes
pub found_among : {X : Type 0} (p : X → Bool) (x : X) (xs : List X) → find p xs ≡ Some x → IsAmong x xs × (p x ≡ true)
found_among p x [] is = absurd (let e = is in cc)
found_among p x (y ∷ ys) is = go (p y) refl is (found_among p x ys)
  where
    go : (b : Bool) → p y ≡ b → cond b (Some y) (find p ys) ≡ Some x → (find p ys ≡ Some x → IsAmong x ys × (p x ≡ true)) → IsAmong x (y ∷ ys) × (p x ≡ true)
    go true passes it rest = let same : y ≡ x = cc in (inl (sym same), ap p (sym same) ∙ passes)
    go false passes it rest = let more = rest it in (inr more.0, more.1)

pub none_found : {X : Type 0} (p : X → Bool) (x : X) (xs : List X) → find p xs ≡ None → IsAmong x xs → p x ≡ false
none_found p x [] is among = absurd among
none_found p x (y ∷ ys) is among = go (p y) refl is among (none_found p x ys)
  where
    go : (b : Bool) → p y ≡ b → cond b (Some y) (find p ys) ≡ None → IsAmong x (y ∷ ys) → (find p ys ≡ None → IsAmong x ys → p x ≡ false) → p x ≡ false
    go true passes it among rest = absurd (let e = it in cc)
    go false passes it (inl same) rest = ap p same ∙ passes
    go false passes it (inr more) rest = rest it more

-- what a mapped list holds comes of one of its things
pub contained : {X Y : Type 0} (f : X → Y) (xs : List X) (k : ℕ) (d : Y) → k < length (map f xs) → (x : X) × IsAmong x xs × (get_or (map f xs) k d ≡ f x)
contained f [] k d less = absurd (omega (arith, less))
contained f (x ∷ xs) zero d less = (x, inl refl, refl)
contained f (x ∷ xs) (suc k) d less = let it = contained f xs k d (omega (arith, less)) in (it.0, inr it.1, it.2)

-- a test that is narrower than another
pub filter_within : {X : Type 0} (p q : X → Bool) → ((x : X) → p x ≡ true → q x ≡ true) → (xs : List X) → filter p xs ≡ filter p (filter q xs)
filter_within p q within [] = refl
filter_within p q within (x ∷ xs) = go (p x) refl (q x) refl (filter_within p q within xs)
  where
    go : (a : Bool) → p x ≡ a → (b : Bool) → q x ≡ b → filter p xs ≡ filter p (filter q xs) → filter p (x ∷ xs) ≡ filter p (cond (q x) (x ∷ filter q xs) (filter q xs))
    go true one true two rest = rw (two, one) (ap (λ l. x ∷ l) rest)
    go true one false two rest = absurd (true≢false (sym (within x one) ∙ two))
    go false one true two rest = rw (two, one) rest
    go false one false two rest = rw (two, one) rest

pub none_pass : {X : Type 0} (p : X → Bool) (xs : List X) → AllByRecursion (λ x. p x ≡ false) xs → filter p xs ≡ []
none_pass p [] all = refl
none_pass p (x ∷ xs) all = rw all.0 (none_pass p xs all.1)
