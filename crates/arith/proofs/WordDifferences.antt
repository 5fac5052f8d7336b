-- differences of digits in base 256
use Rattle.std.proofs.Common.{◌≡◌, ℕ, zero, suc, ◌+◌, ◌-◌, ◌*◌, ◌/◌, ◌%◌, ◌<◌, ◌≤◌, ◌⊎◌, inl, inr, All, ltb, min, if◌then◌else◌, List, [], ◌∷◌, refl, sym, ◌∙◌, ap, arith, length, map, reverse}
use Rattle.std.specs.Int.{abs_diff}
use Rattle.std.specs.Simd.Lanes.{digits_l, number_l}
use Rattle.std.proofs.Math.Decide.{dec_lt}
use Rattle.std.proofs.lemmas.Bool.{lt-ltb, le-ltb}
use Rattle.std.proofs.lemmas.List.{length-reverse, reverse-reverse}
use Rattle.std.proofs.lemmas.List.Elements.{All-nil, All-cons, All-head, All-tail, All-same, All-map, All-weaker}
use Rattle.arith.specs.Columns.{digit_of_part, number}
use Rattle.arith.specs.Words.{bytes_of, digit_of_byte, word_of}
use Rattle.arith.proofs.LaneSums.{digit_most}
use Rattle.arith.proofs.WordBytes.{all_reversed, map_reversed, number_reversed}

-- ---- one place

-- what a place takes from the one above it
abbrev borrow : ℕ → ℕ → ℕ
borrow x z = if ltb x z then 1 else 0

borrow_is : (x z : ℕ) → ((x < z) × (borrow x z ≡ 1)) ⊎ ((z ≤ x) × (borrow x z ≡ 0))
borrow_is x z =
    elim (dec_lt x z) [
      | yes lt ↦ inl (lt, ap (λ b. if b then 1 else 0) (lt-ltb x z lt))
      | no ge ↦ let least : z ≤ x = omega arith in inr (least, ap (λ b. if b then 1 else 0) (le-ltb x z least))
    ]

-- digits x and y, c borrowed by the place below, X and Y the numbers above them
module _ (x y c X Y t : ℕ) (x_digit : x < 10) (y_digit : y < 10) (c_most : c ≤ 1) (enough : y + 256 * Y + c ≤ x + 256 * X) (is : ((x < y + c) × (t ≡ 1)) ⊎ ((y + c ≤ x) × (t ≡ 0))) where
  abbrev rest : ℕ
  rest = x + 256 * X - (y + 256 * Y + c)

  t_most : t ≤ 1
  t_most = elim is [ inl b ↦ omega (arith, b.1) | inr b ↦ omega (arith, b.1) ]

  above_enough : Y + t ≤ X
  above_enough = elim is [ inl b ↦ omega (arith, b.0, b.1) | inr b ↦ omega (arith, b.0, b.1) ]

  above_is : rest / 256 ≡ X - (Y + t)
  above_is = elim is [ inl b ↦ omega (arith, b.0, b.1) | inr b ↦ omega (arith, b.0, b.1) ]

  byte_is : rest % 256 + (y + c) ≡ x + 256 * t
  byte_is = elim is [ inl b ↦ omega (arith, b.0, b.1) | inr b ↦ omega (arith, b.0, b.1) ]

  digit_is : digit_of_byte (rest % 256) + (y + c) ≡ x + 10 * t
  digit_is = by_byte (rest % 256) byte_is is where
    by_byte : (byte : ℕ) → byte + (y + c) ≡ x + 256 * t → ((x < y + c) × (t ≡ 1)) ⊎ ((y + c ≤ x) × (t ≡ 0)) → min byte ((byte + 10) % 256) + (y + c) ≡ x + 10 * t
    by_byte byte e (inl b) = omega (arith, b.0, b.1)
    by_byte byte e (inr b) = omega (arith, b.0, b.1)

  digit_small : digit_of_byte (rest % 256) < 10
  digit_small = elim is [ inl b ↦ omega (arith, b.0, b.1, digit_is) | inr b ↦ omega (arith, b.0, b.1, digit_is) ]

-- ---- all places, the lowest first

difference_number : (n c : ℕ) (xs ys : List ℕ) → length xs ≡ n → length ys ≡ n → All (λ d. d < 10) xs → All (λ d. d < 10) ys → c ≤ 1 → number_l 256 ys + c ≤ number_l 256 xs →
    number_l 10 (map digit_of_byte (digits_l 256 n (number_l 256 xs - (number_l 256 ys + c)))) + (number_l 10 ys + c) ≡ number_l 10 xs
difference_number zero c [] [] ex ey hx hy hc h = omega arith
difference_number zero c [] (y ∷ ys) ex ey hx hy hc h = absurd (omega arith)
difference_number zero c (x ∷ xs) ys ex ey hx hy hc h = absurd (omega arith)
difference_number (suc n) c [] ys ex ey hx hy hc h = absurd (omega arith)
difference_number (suc n) c (x ∷ xs) [] ex ey hx hy hc h = absurd (omega arith)
difference_number (suc n) c (x ∷ xs) (y ∷ ys) ex ey hx hy hc h =
    let small_x : x < 10 = All-head (λ d. d < 10) x xs hx in
    let small_y : y < 10 = All-head (λ d. d < 10) y ys hy in
    let t : ℕ = borrow x (y + c) in
    let is = borrow_is x (y + c) in
    let X = number_l 256 xs in
    let Y = number_l 256 ys in
    let digit = digit_is x y c X Y t small_x small_y hc h is in
    let below = difference_number n t xs ys (omega arith) (omega arith) (All-tail (λ d. d < 10) x xs hx) (All-tail (λ d. d < 10) y ys hy) (t_most x y c X Y t small_x small_y hc h is) (above_enough x y c X Y t small_x small_y hc h is) in
    rw (above_is x y c X Y t small_x small_y hc h is) (omega (arith, digit, below))

difference_small : (n c : ℕ) (xs ys : List ℕ) → length xs ≡ n → length ys ≡ n → All (λ d. d < 10) xs → All (λ d. d < 10) ys → c ≤ 1 → number_l 256 ys + c ≤ number_l 256 xs →
    All (λ d. d < 10) (map digit_of_byte (digits_l 256 n (number_l 256 xs - (number_l 256 ys + c))))
difference_small zero c xs ys ex ey hx hy hc h = All-nil (λ d. d < 10)
difference_small (suc n) c [] ys ex ey hx hy hc h = absurd (omega arith)
difference_small (suc n) c (x ∷ xs) [] ex ey hx hy hc h = absurd (omega arith)
difference_small (suc n) c (x ∷ xs) (y ∷ ys) ex ey hx hy hc h =
    let small_x : x < 10 = All-head (λ d. d < 10) x xs hx in
    let small_y : y < 10 = All-head (λ d. d < 10) y ys hy in
    let t : ℕ = borrow x (y + c) in
    let is = borrow_is x (y + c) in
    let X = number_l 256 xs in
    let Y = number_l 256 ys in
    let above = above_is x y c X Y t small_x small_y hc h is in
    let below = difference_small n t xs ys (omega arith) (omega arith) (All-tail (λ d. d < 10) x xs hx) (All-tail (λ d. d < 10) y ys hy) (t_most x y c X Y t small_x small_y hc h is) (above_enough x y c X Y t small_x small_y hc h is) in
    All-same (λ d. d < 10) (map digit_of_byte (digits_l 256 (suc n) (x + 256 * X - (y + 256 * Y + c))))
    (digit_of_byte ((x + 256 * X - (y + 256 * Y + c)) % 256) ∷ map digit_of_byte (digits_l 256 n (X - (Y + t))))
    (ap (λ w. digit_of_byte ((x + 256 * X - (y + 256 * Y + c)) % 256) ∷ map digit_of_byte (digits_l 256 n w)) above)
    (All-cons (λ d. d < 10) (digit_of_byte ((x + 256 * X - (y + 256 * Y + c)) % 256)) (map digit_of_byte (digits_l 256 n (X - (Y + t)))) (digit_small x y c X Y t small_x small_y hc h is) below)

-- ---- the difference of the greater number and the smaller one

module _ (n : ℕ) (xs ys : List ℕ) (ex : length xs ≡ n) (ey : length ys ≡ n) (hx : All (λ d. d < 10) xs) (hy : All (λ d. d < 10) ys) where
  abbrev apart : ℕ
  apart = abs_diff (number_l 256 xs) (number_l 256 ys)

  apart_number : number_l 10 (map digit_of_byte (digits_l 256 n apart)) ≡ abs_diff (number_l 10 xs) (number_l 10 ys)
  apart_number =
      elim (dec_lt (number_l 256 xs) (number_l 256 ys)) [
        | yes lt ↦
            let least : number_l 256 xs + 0 ≤ number_l 256 ys = omega arith in
            let is : apart ≡ number_l 256 ys - (number_l 256 xs + 0) = omega arith in
            rw is (omega (arith, difference_number n 0 ys xs ey ex hy hx (omega arith) least))
        | no ge ↦
            let least : number_l 256 ys + 0 ≤ number_l 256 xs = omega arith in
            let is : apart ≡ number_l 256 xs - (number_l 256 ys + 0) = omega arith in
            rw is (omega (arith, difference_number n 0 xs ys ex ey hx hy (omega arith) least))
      ]

  apart_small : All (λ d. d < 10) (map digit_of_byte (digits_l 256 n apart))
  apart_small =
      elim (dec_lt (number_l 256 xs) (number_l 256 ys)) [
        | yes lt ↦
            let least : number_l 256 xs + 0 ≤ number_l 256 ys = omega arith in
            let is : apart ≡ number_l 256 ys - (number_l 256 xs + 0) = omega arith in
            All-same (λ d. d < 10) (map digit_of_byte (digits_l 256 n apart)) (map digit_of_byte (digits_l 256 n (number_l 256 ys - (number_l 256 xs + 0))))
            (ap (λ w. map digit_of_byte (digits_l 256 n w)) is) (difference_small n 0 ys xs ey ex hy hx (omega arith) least)
        | no ge ↦
            let least : number_l 256 ys + 0 ≤ number_l 256 xs = omega arith in
            let is : apart ≡ number_l 256 xs - (number_l 256 ys + 0) = omega arith in
            All-same (λ d. d < 10) (map digit_of_byte (digits_l 256 n apart)) (map digit_of_byte (digits_l 256 n (number_l 256 xs - (number_l 256 ys + 0))))
            (ap (λ w. map digit_of_byte (digits_l 256 n w)) is) (difference_small n 0 xs ys ex ey hx hy (omega arith) least)
      ]

  -- the words are in the order of the numbers
  order_same : ltb (number_l 256 ys) (number_l 256 xs) ≡ ltb (number_l 10 ys) (number_l 10 xs)
  order_same =
      elim (dec_lt (number_l 256 ys) (number_l 256 xs)) [
        | yes lt ↦
            let less : number_l 10 ys < number_l 10 xs = omega (arith, difference_number n 1 xs ys ex ey hx hy (omega arith) (omega arith)) in
            lt-ltb (number_l 256 ys) (number_l 256 xs) lt ∙ sym (lt-ltb (number_l 10 ys) (number_l 10 xs) less)
        | no ge ↦
            let least : number_l 256 xs ≤ number_l 256 ys = omega arith in
            let most : number_l 10 xs ≤ number_l 10 ys = omega (arith, difference_number n 0 ys xs ey ex hy hx (omega arith) (omega arith)) in
            le-ltb (number_l 256 ys) (number_l 256 xs) least ∙ sym (le-ltb (number_l 10 ys) (number_l 10 xs) most)
      ]

-- ---- the highest first, as the lanes are

pub parts_digits : (parts : List ℕ) → All (λ p. p ≤ 10) parts → All (λ d. d < 10) (map digit_of_part parts)
parts_digits parts all =
    All-map (λ d. d < 10) digit_of_part parts
    (All-weaker (λ p. p ≤ 10) (λ p. digit_of_part p < 10) (λ p le. let most : digit_of_part p ≤ 9 = digit_most p le in omega arith) parts all)

module _ (us vs : List ℕ) (u_long : length us ≡ 16) (v_long : length vs ≡ 16) (u_digits : All (λ d. d < 10) us) (v_digits : All (λ d. d < 10) vs) where
  u_turned : length (reverse us) ≡ 16
  u_turned = length-reverse us ∙ u_long

  v_turned : length (reverse vs) ≡ 16
  v_turned = length-reverse vs ∙ v_long

  u_all : All (λ d. d < 10) (reverse us)
  u_all = all_reversed (λ d. d < 10) us u_digits

  v_all : All (λ d. d < 10) (reverse vs)
  v_all = all_reversed (λ d. d < 10) vs v_digits

  pub words_ordered : ltb (word_of vs) (word_of us) ≡ ltb (number vs) (number us)
  words_ordered =
      order_same 16 (reverse us) (reverse vs) u_turned v_turned u_all v_all
      ∙ ap (λ n. ltb n (number_l 10 (reverse us))) (number_reversed vs)
      ∙ ap (ltb (number vs)) (number_reversed us)

  abbrev pub settled : List ℕ
  settled = map digit_of_byte (bytes_of (abs_diff (word_of us) (word_of vs)))

  abbrev lowest_first : List ℕ
  lowest_first = map digit_of_byte (digits_l 256 16 (abs_diff (word_of us) (word_of vs)))

  settled_is : settled ≡ reverse lowest_first
  settled_is = map_reversed digit_of_byte (digits_l 256 16 (abs_diff (word_of us) (word_of vs)))

  pub settled_number : number settled ≡ abs_diff (number us) (number vs)
  settled_number =
      ap number settled_is
      ∙ sym (number_reversed (reverse lowest_first))
      ∙ ap (number_l 10) (reverse-reverse lowest_first)
      ∙ apart_number 16 (reverse us) (reverse vs) u_turned v_turned u_all v_all
      ∙ ap (λ n. abs_diff n (number_l 10 (reverse vs))) (number_reversed us)
      ∙ ap (abs_diff (number us)) (number_reversed vs)

  pub settled_small : All (λ d. d < 10) settled
  settled_small =
      All-same (λ d. d < 10) settled (reverse lowest_first) settled_is
      (all_reversed (λ d. d < 10) lowest_first (apart_small 16 (reverse us) (reverse vs) u_turned v_turned u_all v_all))

  pub settled_long : length settled ≡ 16
  settled_long = refl
