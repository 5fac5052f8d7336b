-- places filled behind others
use Rattle.std.proofs.Common.{◌≡◌, ℕ, suc, ◌+◌, ◌-◌, ◌<◌, ◌≤◌, List, [], ◌∷◌, ◌++◌, length, replicate, arith, sym, ap, ◌∙◌, append_assoc}
use Rattle.std.specs.List.{concat}
use Rattle.std.proofs.lemmas.List.{append-nil}
use Rattle.loader.specs.Cards.{marking}

one_more : (place : List ℕ) (n k : ℕ) → k < n → replicate (n - k) place ≡ place ∷ replicate (n - (k + 1)) place
one_more place n k h =
    let e : n - k ≡ suc (n - (k + 1)) = omega arith in
    ap (λ m. replicate m place) e

pub place_step : (now new place : List ℕ) (n k : ℕ) → k < n → new ≡ now ++ place →
    new ++ concat (replicate (n - (k + 1)) place) ≡ now ++ concat (replicate (n - k) place)
place_step now new place n k h e =
    ap (λ t. t ++ concat (replicate (n - (k + 1)) place)) e
    ∙ append_assoc now place (concat (replicate (n - (k + 1)) place))
    ∙ ap (λ t. now ++ concat t) (sym (one_more place n k h))

pub places_done : (now all place : List ℕ) (n k : ℕ) → n ≤ k → now ++ concat (replicate (n - k) place) ≡ all → now ≡ all
places_done now all place n k h e =
    let none : n - k ≡ 0 = omega arith in
    sym (append-nil now)
    ∙ ap (λ m. now ++ concat (replicate m place)) (sym none)
    ∙ e

-- ---- places that set marks

pub marking_step : (now new place : List ℕ) (places more : List (List ℕ)) → places ≡ place ∷ more → new ≡ now ++ place → new ++ concat more ≡ now ++ concat places
marking_step now new place places more p e =
    ap (λ t. t ++ concat more) e
    ∙ append_assoc now place (concat more)
    ∙ ap (λ t. now ++ concat t) (sym p)

pub marking_done : (now all marks : List ℕ) → marks ≡ [] → now ++ concat (marking marks) ≡ all → now ≡ all
unfolding marking
marking_done now all marks h e = sym (append-nil now) ∙ ap (λ m. now ++ concat (marking m)) (sym h) ∙ e

pub count_done : (count n : ℕ) (marks : List ℕ) → marks ≡ [] → count + length (marking marks) ≡ n → count ≡ n
unfolding marking
count_done count n marks h e = omega (arith, ap (λ m. length (marking m)) h)
