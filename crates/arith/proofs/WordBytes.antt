-- the digits of a number, the lowest first, and each after a difference in base 256
use Rattle.std.proofs.Common.{◌≡◌, ◌++◌, ℕ, zero, suc, ◌+◌, ◌*◌, ◌%◌, ◌-◌, ◌^◌, ◌<◌, All, cond, ltb, List, [], ◌∷◌, refl, sym, ◌∙◌, ap, arith, length, map, min, replicate, reverse}
use Rattle.std.specs.Simd.Lanes.{number_l, sel_l, zip2}
use Rattle.std.proofs.Math.Decide.{dec_lt}
use Rattle.std.proofs.Math.Nat.{pow-suc}
use Rattle.std.proofs.lemmas.Bool.{lt-ltb, le-ltb}
use Rattle.std.proofs.lemmas.List.{reverse-append, length-reverse, get_or-reverse, map-append}
use Rattle.arith.specs.Columns.{number}
use Rattle.arith.specs.Words.{digit_of_byte}

-- ---- in reverse order

pub all_reversed : (P : ℕ → Type 0) (xs : List ℕ) → All P xs → All P (reverse xs)
all_reversed P xs all k d lt =
    let within : k < length xs = omega (arith, lt, length-reverse xs) in
    rw (get_or-reverse xs k d within) (all (length xs - 1 - k) d (omega arith))

pub map_reversed : (f : ℕ → ℕ) (xs : List ℕ) → map f (reverse xs) ≡ reverse (map f xs)
map_reversed f [] = refl
map_reversed f (x ∷ xs) =
    ap (map f) (reverse-append (x ∷ []) xs)
    ∙ map-append f (reverse xs) (x ∷ [])
    ∙ ap (λ l. l ++ f x ∷ []) (map_reversed f xs)
    ∙ sym (reverse-append (f x ∷ []) (map f xs))

-- one more digit above the others
number_above : (xs : List ℕ) (y : ℕ) → number_l 10 (xs ++ y ∷ []) ≡ number_l 10 xs + y * 10 ^ length xs
number_above [] y = omega arith
number_above (x ∷ xs) y =
    ap (λ n. x + 10 * n) (number_above xs y)
    ∙ column (10 ^ length xs) x (number_l 10 xs) y
    ∙ ap (λ k. x + 10 * number_l 10 xs + y * k) (sym (pow-suc 10 (length xs))) where
      column : (P x n y : ℕ) → x + 10 * (n + y * P) ≡ x + 10 * n + y * (P * 10)
      column P x n y = omega arith

pub number_reversed : (ds : List ℕ) → number_l 10 (reverse ds) ≡ number ds
unfolding number
number_reversed [] = refl
number_reversed (d ∷ ds) =
    ap (number_l 10) (reverse-append (d ∷ []) ds)
    ∙ number_above (reverse ds) d
    ∙ ap (λ k. number_l 10 (reverse ds) + d * 10 ^ k) (length-reverse ds)
    ∙ ap (λ n. n + d * 10 ^ length ds) (number_reversed ds)
    ∙ swapped (number ds) (d * 10 ^ length ds) where
      swapped : (x y : ℕ) → x + y ≡ y + x
      swapped x y = omega arith

-- ---- the smaller of a byte and 10 more

smaller : (x y : ℕ) → cond (ltb x y) x y ≡ min x y
smaller x y =
    elim (dec_lt x y) [
      | yes lt ↦ let least : min x y ≡ x = omega arith in ap (λ b. cond b x y) (lt-ltb x y lt) ∙ sym least
      | no ge ↦ let least : min x y ≡ y = omega arith in ap (λ b. cond b x y) (le-ltb x y (omega arith)) ∙ sym least
    ]

pub settled_lanes : (n : ℕ) (xs : List ℕ) → length xs ≡ n →
    let more = zip2 (λ x y. (x + y) % 256) xs (replicate n 10) in sel_l (zip2 ltb xs more) xs more ≡ map digit_of_byte xs
settled_lanes n [] e = refl
settled_lanes zero (x ∷ xs) e = absurd (omega arith)
settled_lanes (suc n) (x ∷ xs) e =
    let more = zip2 (λ x y. (x + y) % 256) xs (replicate n 10) in
    ap (λ d. d ∷ sel_l (zip2 ltb xs more) xs more) (smaller x ((x + 10) % 256)) ∙ ap (λ l. digit_of_byte x ∷ l) (settled_lanes n xs (omega arith))
