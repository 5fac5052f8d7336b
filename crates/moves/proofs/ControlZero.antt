-- how many lanes there are up to the last one that passes a test
use Rattle.std.proofs.Common.{◌≡◌, ◌++◌, ℕ, zero, suc, ◌+◌, ◌-◌, ◌*◌, ◌/◌, ◌^◌, ◌<◌, ◌≤◌, ◌==◌, All, Bool, true, false, cond, if◌then◌else◌, List, [], ◌∷◌, refl, ◌∙◌, ap, arith, length, drop, map, reverse, codes}
use Rattle.std.specs.Int.Count.{count_leading_zeros}
use Rattle.std.specs.Simd.Lanes.{mask_l}
use Rattle.std.proofs.Math.Decide.{dec_lt}
use Rattle.std.proofs.Math.Pow.{pow_mono}
use Rattle.std.proofs.Math.Nat.{pow-suc}
use Rattle.std.proofs.lemmas.List.{drop-map, length-drop, length-map, length-reverse, reverse-append}
use Rattle.std.proofs.lemmas.List.Elements.{All-drop}
use Rattle.std.proofs.lemmas.Nat.{leading_length}
use Rattle.std.proofs.lemmas.Simd.{mask_l-lt}
use Rattle.bcd.specs.Table.{glyph_of}
use Rattle.bcd.proofs.Tables.{at_each}
use Rattle.moves.specs.Blanked.{leading}
use Rattle.moves.specs.Characters.{is_any}
use Rattle.moves.specs.Edited.{through_zero}
use Rattle.moves.proofs.BlankingLemmas.{leading_within}
use Rattle.moves.proofs.LaneBlanks.{map_same}
use Rattle.moves.proofs.LaneLemmas.{agree, agreed, mask_drop}

found_if : (b : Bool) (n m l : ℕ) → (if b then 0 else suc n) < suc l → (n < l → m ≡ n) → (if b then 0 else suc m) ≡ (if b then 0 else suc n)
found_if true n m l lt f = refl
found_if false n m l lt f = ap suc (f (omega arith))

none_if : (b : Bool) (n m l one : ℕ) → (if b then 0 else suc n) ≡ suc l → (n ≡ l → m ≡ l + one) → (if b then 0 else suc m) ≡ suc l + one
none_if true n m l one e f = absurd (omega arith)
none_if false n m l one e f = omega (arith, f (omega arith))

alone : (b : Bool) → (if b then 0 else 1) ≡ 0 + (if b then 0 else 1)
alone true = refl
alone false = refl

-- the number with one more bit below its others, and how many bits it then has
added : (b : Bool) (mask n m : ℕ) → 0 < n → m ≡ suc n → mask < 2 ^ n → 2 ^ n ≤ 2 * mask + 1 → (cond b 1 0 + 2 * mask < 2 ^ m) × (2 ^ m ≤ 2 * (cond b 1 0 + 2 * mask) + 1)
added b mask zero m some is lt le = absurd (omega arith)
added true mask (suc n) m some is lt le =
    let half : 2 ^ suc n ≡ 2 ^ n * 2 = pow-suc 2 n in
    let whole : 2 ^ m ≡ 2 ^ suc n * 2 = ap (λ k. 2 ^ k) is ∙ pow-suc 2 (suc n) in
    (omega arith, omega arith)
added false mask (suc n) m some is lt le =
    let half : 2 ^ suc n ≡ 2 ^ n * 2 = pow-suc 2 n in
    let whole : 2 ^ m ≡ 2 ^ suc n * 2 = ap (λ k. 2 ^ k) is ∙ pow-suc 2 (suc n) in
    (omega arith, omega arith)

lowest : (b : Bool) (mask n m : ℕ) → n ≡ 0 → m ≡ (if b then 1 else 0) → mask < 2 ^ n → (cond b 1 0 + 2 * mask < 2 ^ m) × (2 ^ m ≤ 2 * (cond b 1 0 + 2 * mask) + 1)
lowest true mask n m none is lt =
    let one : 2 ^ n ≡ 1 = ap (λ k. 2 ^ k) none in
    let two : 2 ^ m ≡ 2 = ap (λ k. 2 ^ k) is in
    (omega arith, omega arith)
lowest false mask n m none is lt =
    let one : 2 ^ n ≡ 1 = ap (λ k. 2 ^ k) none in
    let still : 2 ^ m ≡ 1 = ap (λ k. 2 ^ k) is in
    (omega arith, omega arith)

module _ (test : ℕ → Bool) where
  leading_found : (xs ys : List ℕ) → leading test xs < length xs → leading test (xs ++ ys) ≡ leading test xs
  unfolding leading
  leading_found [] ys lt = absurd (omega arith)
  leading_found (x ∷ xs) ys lt = found_if (test x) (leading test xs) (leading test (xs ++ ys)) (length xs) lt (leading_found xs ys)

  leading_none : (xs : List ℕ) (x : ℕ) → leading test xs ≡ length xs → leading test (xs ++ x ∷ []) ≡ length xs + (if test x then 0 else 1)
  unfolding leading
  leading_none [] x e = alone (test x)
  leading_none (y ∷ xs) x e = none_if (test y) (leading test xs) (leading test (xs ++ x ∷ [])) (length xs) (if test x then 0 else 1) e (leading_none xs x)

  -- how many numbers a list has up to the last that passes
  abbrev pub through : List ℕ → ℕ
  through xs = length xs - leading test (reverse xs)

  left_of : (x : ℕ) (xs : List ℕ) → through (x ∷ xs) ≡ suc (length xs) - leading test (reverse xs ++ x ∷ [])
  left_of x xs = ap (λ l. suc (length xs) - leading test l) (reverse-append (x ∷ []) xs)

  first_found : (b : Bool) (n m l : ℕ) → n ≡ l → m ≡ n + (if b then 0 else 1) → suc l - m ≡ (if b then 1 else 0)
  first_found true n m l e is = omega arith
  first_found false n m l e is = omega arith

  -- as many as the mask has bits
  bits : (xs : List ℕ) → (mask_l (map test xs) < 2 ^ through xs) × (2 ^ through xs ≤ 2 * mask_l (map test xs) + 1)
  unfolding leading
  bits [] = (omega arith, omega arith)
  bits (x ∷ xs) =
      let known = bits xs in
      let size : length (reverse xs) ≡ length xs = length-reverse xs in
      let most : leading test (reverse xs) ≤ length (reverse xs) = leading_within test (reverse xs) in
      elim (dec_lt (leading test (reverse xs)) (length (reverse xs))) [
        | yes before ↦
            let same : leading test (reverse xs ++ x ∷ []) ≡ leading test (reverse xs) = leading_found (reverse xs) (x ∷ []) before in
            added (test x) (mask_l (map test xs)) (through xs) (through (x ∷ xs)) (omega arith) (omega (arith, left_of x xs, same)) known.0 known.1
        | no past ↦
            let all : leading test (reverse xs) ≡ length (reverse xs) = omega arith in
            let one = first_found (test x) (length (reverse xs)) (leading test (reverse xs ++ x ∷ [])) (length xs) size (leading_none (reverse xs) x all) in
            lowest (test x) (mask_l (map test xs)) (through xs) (through (x ∷ xs)) (omega arith) (left_of x xs ∙ one) known.0
      ]

-- there is one such number of bits
bits_differ : (mask n m : ℕ) → mask < 2 ^ n → 2 ^ m ≤ 2 * mask + 1 → m ≤ n
bits_differ mask n m lt le =
    elim (dec_lt n m) [
      | no fits ↦ omega arith
      | yes more ↦
          let grows : 2 ^ suc n ≤ 2 ^ m = pow_mono {i = suc n} {j = m} (omega arith) in
          absurd (omega (arith, grows, pow-suc 2 n))
    ]

pub bits_through : (test : ℕ → Bool) (xs : List ℕ) (mask : ℕ) → mask ≡ mask_l (map test xs) → length xs ≤ 64 → 64 - count_leading_zeros 64 mask ≡ length xs - leading test (reverse xs)
bits_through test xs mask is few =
    let known = bits test xs in
    let bound : mask_l (map test xs) < 2 ^ length (map test xs) = mask_l-lt (map test xs) in
    let wide : 2 ^ length (map test xs) ≤ 2 ^ 64 = pow_mono {i = length (map test xs)} {j = 64} (omega (arith, length-map xs test)) in
    let (m, zeros, below, least) = leading_length 64 mask (omega arith) in
    let up : m ≤ through test xs = bits_differ mask (through test xs) m (omega (arith, known.0)) least in
    let down : through test xs ≤ m = bits_differ mask m (through test xs) below (omega (arith, known.1)) in
    omega arith

zero_by_number : (code : ℕ) → code < 64 → (code == 10) ≡ is_any (codes "0") code
unfolding agree is_any glyph_of
zero_by_number code h = agreed _ _ (at_each (λ c. agree (c == 10) (is_any (codes "0") c)) 64 refl code h)

-- the last of sixteen characters up to the rightmost zero
pub lanes_through : (control : List ℕ) (k mask : ℕ) → length control ≤ 64 → All (λ code. code < 64) control → mask ≡ mask_l (map (λ lane. lane == 10) control) →
    64 - count_leading_zeros 64 (mask / 2 ^ k) ≡ through_zero (drop k control)
unfolding through_zero
lanes_through control k mask few below is =
    let high : mask / 2 ^ k ≡ mask_l (map (is_any (codes "0")) (drop k control)) =
    ap (λ n. n / 2 ^ k) is ∙ mask_drop (map (λ lane. lane == 10) control) k
    ∙ ap mask_l (drop-map (λ lane. lane == 10) k control ∙ map_same (λ lane. lane == 10) (is_any (codes "0")) (drop k control) (All-drop (λ code. code < 64) k control below) zero_by_number) in
    bits_through (is_any (codes "0")) (drop k control) (mask / 2 ^ k) high (omega (arith, length-drop k control))
