-- columns filled behind others
use Rattle.std.proofs.Common.{◌≡◌, ℕ, ◌+◌, ◌-◌, ◌≤◌, List, ◌++◌, length, take, drop, replicate, arith, refl, sym, ap, ◌∙◌, length-append}
use Rattle.std.proofs.Math.Seq.{take-length, drop-append-add}
use Rattle.std.proofs.lemmas.List.{length-take-le, drop-replicate, length-replicate, take_at}
use Rattle.std.proofs.lemmas.Slice.{put_mid-paste}
use borrow.Rule.Slice.PartMut.{put_mid}

past : (xs : List ℕ) (a n : ℕ) → length xs ≡ 80 → a + n ≤ 80 → xs ≡ take a xs ++ replicate (80 - a) 0 → drop (a + n) xs ≡ replicate (80 - (a + n)) 0
past xs a n l h blank =
    let within : a ≤ length xs = omega arith in
    let long : length (take a xs) ≡ a = length-take-le a xs within in
    let fewer : 80 - a - n ≡ 80 - (a + n) = omega arith in
    ap (λ t. drop (a + n) t) blank
    ∙ ap (λ k. drop (k + n) (take a xs ++ replicate (80 - a) 0)) (sym long)
    ∙ drop-append-add (take a xs) (replicate (80 - a) 0) n
    ∙ drop-replicate n (80 - a) 0
    ∙ ap (λ k. replicate k 0) fewer

pub filled : (xs ys zs : List ℕ) (a : ℕ) → ys ≡ zs → length xs ≡ 80 → a + length zs ≤ 80 → xs ≡ take a xs ++ replicate (80 - a) 0 →
    put_mid a (a + length zs - a) xs ys ≡ (take a xs ++ zs) ++ replicate (80 - (a + length zs)) 0
filled xs ys zs a e l h blank =
    let wide : length zs ≡ a + length zs - a = omega arith in
    put_mid-paste a (a + length zs - a) xs ys zs (length zs) e wide refl
    ∙ ap (λ t. (take a xs ++ t) ++ drop (a + length zs) xs) (take-length zs)
    ∙ ap (λ t. (take a xs ++ zs) ++ t) (past xs a (length zs) l h blank)

length_filled : (xs zs : List ℕ) (a : ℕ) → length xs ≡ 80 → a + length zs ≤ 80 → length (take a xs ++ zs) ≡ a + length zs
length_filled xs zs a l h =
    let within : a ≤ length xs = omega arith in
    omega (arith, length-append (take a xs) zs, length-take-le a xs within)

pub filled_length : (xs ys zs : List ℕ) (a : ℕ) → ys ≡ zs → length xs ≡ 80 → a + length zs ≤ 80 → xs ≡ take a xs ++ replicate (80 - a) 0 →
    length (put_mid a (a + length zs - a) xs ys) ≡ 80
filled_length xs ys zs a e l h blank =
    let w : List ℕ = take a xs ++ zs in
    let r : List ℕ = replicate (80 - (a + length zs)) 0 in
    omega (arith, ap length (filled xs ys zs a e l h blank), length-append w r, length_filled xs zs a l h, length-replicate {A = ℕ} (80 - (a + length zs)) 0)

pub filled_view : (xs ys zs : List ℕ) (a : ℕ) → ys ≡ zs → length xs ≡ 80 → a + length zs ≤ 80 → xs ≡ take a xs ++ replicate (80 - a) 0 →
    take (a + length zs) (put_mid a (a + length zs - a) xs ys) ≡ take a xs ++ zs
filled_view xs ys zs a e l h blank =
    ap (take (a + length zs)) (filled xs ys zs a e l h blank)
    ∙ take_at (take a xs ++ zs) (replicate (80 - (a + length zs)) 0) (a + length zs) (length_filled xs zs a l h)

pub filled_blank : (xs ys zs : List ℕ) (a : ℕ) → ys ≡ zs → length xs ≡ 80 → a + length zs ≤ 80 → xs ≡ take a xs ++ replicate (80 - a) 0 →
    put_mid a (a + length zs - a) xs ys ≡ take (a + length zs) (put_mid a (a + length zs - a) xs ys) ++ replicate (80 - (a + length zs)) 0
filled_blank xs ys zs a e l h blank =
    filled xs ys zs a e l h blank
    ∙ ap (λ t. t ++ replicate (80 - (a + length zs)) 0) (sym (filled_view xs ys zs a e l h blank))

pub room_left : (xs view : List ℕ) (a n : ℕ) → take a xs ≡ view → a ≤ 80 → length xs ≡ 80 → length view + n ≤ 80 → a + n ≤ 80
room_left xs view a n v h l r =
    let within : a ≤ length xs = omega arith in
    omega (arith, ap length v, length-take-le a xs within)
