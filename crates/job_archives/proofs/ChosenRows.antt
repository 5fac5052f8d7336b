-- Rows that are chosen among others, in their order.
use Rattle.std.proofs.Common.{◌≡◌, ℕ, zero, suc, arith, List, [], ◌∷◌, filter, Bool, true, ◌<◌, ◌+◌, ◌++◌, length, take, drop, get_or, take-append-drop, refl, sym, ap, ◌∙◌}
use Rattle.std.proofs.lemmas.List.{append_cancel_left, drop_more}
use Rattle.std.proofs.lemmas.List.Elements.{filter-append}

-- where the second are those of the first so far, and the next of the first is one of them, it comes next
pub next_is : {X : Type 0} (p : X → Bool) (first second : List X) (i at : ℕ) (d : X) → take at second ≡ filter p (take i first) → i < length first → p (get_or first i d) ≡ true → second ≡ filter p first
    → drop at second ≡ get_or first i d ∷ filter p (drop (i + 1) first)
next_is p first second i at d begun less passes is =
    let rest : filter p (drop i first) ≡ get_or first i d ∷ filter p (drop (i + 1) first) = rw (drop_more first i d less, passes) refl in
    append_cancel_left (take at second) _ _
    (take-append-drop at second ∙ is ∙ ap (filter p) (sym (take-append-drop i first)) ∙ filter-append p (take i first) (drop i first)
    ∙ ap (λ xs. xs ++ filter p (drop i first)) (sym begun) ∙ ap (λ xs. take at second ++ xs) rest)

pub there : {X : Type 0} (s : List X) (at : ℕ) (x d : X) (r : List X) → drop at s ≡ x ∷ r → (at < length s) × (get_or s at d ≡ x)
there [] zero x d r e = absurd (let it = e in cc)
there [] (suc at) x d r e = absurd (let it = e in cc)
there (y ∷ ys) zero x d r e = (omega arith, let it = e in cc)
there (y ∷ ys) (suc at) x d r e = let it = there ys at x d r e in (omega (arith, it.0), it.1)
