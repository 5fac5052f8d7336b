-- sixteen digits as two halves, and the eight bytes of each half in the other order
use Rattle.std.proofs.Common.{◌≡◌, ℕ, zero, suc, ◌+◌, ◌*◌, ◌/◌, ◌%◌, ◌-◌, ◌^◌, ◌<◌, All, List, [], ◌∷◌, refl, sym, ◌∙◌, ap, arith, length, get_or}
use Rattle.std.specs.Int.{w64, from_le_bytes, from_be_bytes, swap_bytes}
use Rattle.std.specs.List.{range_with_len}
use Rattle.std.specs.Simd.Lanes.{digits_l, number_l}
use Rattle.std.proofs.Math.Decide.{dec_lt}
use Rattle.std.proofs.Math.Nat.{pow-suc}
use Rattle.std.proofs.lemmas.List.{get_or-map, get_or_past}
use Rattle.std.proofs.lemmas.List.Elements.{All-nil, All-cons, All-head, All-tail}
use Rattle.std.proofs.lemmas.Nat.{le_bytes_8}
use Rattle.std.proofs.lemmas.Simd.{pick_l_whole}
use Rattle.arith.specs.Words.{bytes_of, word_of}
use Rattle.arith.proofs.WordBytes.{all_reversed}

-- ---- a number and its digits

number_of_digits : (n x : ℕ) → x < 256 ^ n → number_l 256 (digits_l 256 n x) ≡ x
number_of_digits zero x lt = omega arith
number_of_digits (suc n) x lt =
    let fewer : x / 256 < 256 ^ n = omega (arith, lt, pow-suc 256 n) in
    ap (λ y. x % 256 + 256 * y) (number_of_digits n (x / 256) fewer) ∙ joined_again x where
      joined_again : (x : ℕ) → x % 256 + 256 * (x / 256) ≡ x
      joined_again x = omega arith

digits_of_number : (n : ℕ) (xs : List ℕ) → length xs ≡ n → All (λ x. x < 256) xs → digits_l 256 n (number_l 256 xs) ≡ xs
digits_of_number n [] e all = ap (λ k. digits_l 256 k 0) (sym e)
digits_of_number zero (x ∷ xs) e all = absurd (omega arith)
digits_of_number (suc n) (x ∷ xs) e all =
    let small : x < 256 = All-head (λ d. d < 256) x xs all in
    let low : (x + 256 * number_l 256 xs) % 256 ≡ x = omega arith in
    let high : (x + 256 * number_l 256 xs) / 256 ≡ number_l 256 xs = omega arith in
    ap (λ d. d ∷ digits_l 256 n ((x + 256 * number_l 256 xs) / 256)) low ∙ ap (λ y. x ∷ digits_l 256 n y) high
    ∙ ap (λ l. x ∷ l) (digits_of_number n xs (omega arith) (All-tail (λ d. d < 256) x xs all))

digits_small : (n x : ℕ) → All (λ d. d < 256) (digits_l 256 n x)
digits_small zero x = All-nil (λ d. d < 256)
digits_small (suc n) x = All-cons (λ d. d < 256) (x % 256) (digits_l 256 n (x / 256)) (omega arith) (digits_small n (x / 256))

-- ---- eight bytes, and sixteen

abbrev eight : (ℕ → ℕ) → List ℕ
eight f = f 0 ∷ f 1 ∷ f 2 ∷ f 3 ∷ f 4 ∷ f 5 ∷ f 6 ∷ f 7 ∷ []

abbrev sixteen : (ℕ → ℕ) → List ℕ
sixteen f = f 0 ∷ f 1 ∷ f 2 ∷ f 3 ∷ f 4 ∷ f 5 ∷ f 6 ∷ f 7 ∷ f 8 ∷ f 9 ∷ f 10 ∷ f 11 ∷ f 12 ∷ f 13 ∷ f 14 ∷ f 15 ∷ []

-- the places from 8 on
abbrev upper : (ℕ → ℕ) → ℕ → ℕ
upper f k = f (k + 8)

module _ (f : ℕ → ℕ) (small : (k : ℕ) → f k < 256) where
  eight_small : (i : ℕ) → get_or (eight f) i 0 < 256
  eight_small i =
      elim (dec_lt i 8) [
        | yes lt ↦ rw (get_or-map f (range_with_len 0 8) i 0 0 lt) (small (get_or (range_with_len 0 8) i 0))
        | no past ↦ rw (get_or_past (eight f) i 0 (omega arith)) (omega arith)
      ]

  swapped : (n : ℕ) → n ≡ from_le_bytes w64 (eight f) → swap_bytes w64 n ≡ from_be_bytes w64 (eight f)
  swapped n is = ap (from_be_bytes w64) (le_bytes_8 (eight f) n refl eight_small is)

  half_fits : from_le_bytes w64 (eight f) < 2 ^ 64
  half_fits = omega (arith, small 0, small 1, small 2, small 3, small 4, small 5, small 6, small 7)

in_two_halves : (f : ℕ → ℕ) → number_l 256 (sixteen f) ≡ from_le_bytes w64 (eight f) + from_le_bytes w64 (eight (upper f)) * 2 ^ 64
in_two_halves f = omega arith

low_apart : (low high : ℕ) → low < 2 ^ 64 → (low + high * 2 ^ 64) % 2 ^ 64 ≡ low
low_apart low high fits = omega arith

high_apart : (low high : ℕ) → low < 2 ^ 64 → (low + high * 2 ^ 64) / 2 ^ 64 ≡ high
high_apart low high fits = omega arith

module _ (f : ℕ → ℕ) (small : (k : ℕ) → f k < 256) where
  low_half : number_l 256 (sixteen f) % 2 ^ 64 ≡ from_le_bytes w64 (eight f)
  low_half =
      ap (λ n. n % 2 ^ 64) (in_two_halves f) ∙ low_apart (from_le_bytes w64 (eight f)) (from_le_bytes w64 (eight (upper f))) (half_fits f small)

  high_half : number_l 256 (sixteen f) / 2 ^ 64 ≡ from_le_bytes w64 (eight (upper f))
  high_half =
      ap (λ n. n / 2 ^ 64) (in_two_halves f) ∙ high_apart (from_le_bytes w64 (eight f)) (from_le_bytes w64 (eight (upper f))) (half_fits f small)

  low_swapped : swap_bytes w64 (number_l 256 (sixteen f) % 2 ^ 64) ≡ from_be_bytes w64 (eight f)
  low_swapped = swapped f small (number_l 256 (sixteen f) % 2 ^ 64) low_half

  high_swapped : swap_bytes w64 (number_l 256 (sixteen f) / 2 ^ 64) ≡ from_be_bytes w64 (eight (upper f))
  high_swapped = swapped (upper f) (λ k. small (k + 8)) (number_l 256 (sixteen f) / 2 ^ 64) high_half

-- ---- digits of a list

abbrev at_each : List ℕ → ℕ → ℕ
at_each xs k = get_or xs k 0

small_everywhere : (xs : List ℕ) → All (λ x. x < 256) xs → (k : ℕ) → get_or xs k 0 < 256
small_everywhere xs all k =
    elim (dec_lt k (length xs)) [
      | yes lt ↦ all k 0 lt
      | no past ↦ rw (get_or_past xs k 0 (omega arith)) (omega arith)
    ]

-- the sixteen digits of a number, from its two halves
highest_first : (f : ℕ → ℕ) → from_be_bytes w64 (eight f) * 2 ^ 64 + from_be_bytes w64 (eight (upper f)) ≡ word_of (sixteen f)
highest_first f = omega arith

abbrev swapped_word : ℕ → ℕ
swapped_word n = swap_bytes w64 (n % 2 ^ 64) * 2 ^ 64 + swap_bytes w64 (n / 2 ^ 64 % 2 ^ 64)

pub halves_joined : (digits : List ℕ) → length digits ≡ 16 → All (λ d. d < 10) digits → swap_bytes w64 (number_l 256 digits % 2 ^ 64) * 2 ^ 64 + swap_bytes w64 (number_l 256 digits / 2 ^ 64 % 2 ^ 64) ≡ word_of digits
halves_joined digits long all =
    let f : ℕ → ℕ = at_each digits in
    let small = small_everywhere digits (λ k d lt. omega (arith, all k d lt)) in
    let is : sixteen f ≡ digits = pick_l_whole 0 digits 16 long in
    let n = number_l 256 (sixteen f) in
    let fits : n / 2 ^ 64 < 2 ^ 64 = omega (arith, high_half f small, half_fits (upper f) (λ k. small (k + 8))) in
    let whole : n / 2 ^ 64 % 2 ^ 64 ≡ n / 2 ^ 64 = omega (arith, fits) in
    ap (λ l. swapped_word (number_l 256 l)) (sym is)
    ∙ ap (λ x. x * 2 ^ 64 + swap_bytes w64 (n / 2 ^ 64 % 2 ^ 64)) (low_swapped f small)
    ∙ ap (λ y. from_be_bytes w64 (eight f) * 2 ^ 64 + y) (ap (swap_bytes w64) whole ∙ high_swapped f small)
    ∙ highest_first f ∙ ap word_of is

-- the halves of a number, each with its bytes in the other order
abbrev backwards : (ℕ → ℕ) → ℕ → ℕ
backwards f k = f (15 - k)

turned_round : (f : ℕ → ℕ) → from_be_bytes w64 (eight (upper f)) + 2 ^ 64 * (from_be_bytes w64 (eight f) + 2 ^ 64 * 0) ≡ number_l 256 (sixteen (backwards f))
turned_round f = omega arith

pub halves_split : (word : ℕ) → word < 2 ^ 128 → digits_l 256 16 (number_l (2 ^ 64) (swap_bytes w64 (word / 2 ^ 64) ∷ swap_bytes w64 (word % 2 ^ 64) ∷ [])) ≡ bytes_of word
halves_split word fits =
    let f : ℕ → ℕ = at_each (digits_l 256 16 word) in
    let bytes_small = digits_small 16 word in
    let small = small_everywhere (digits_l 256 16 word) bytes_small in
    let is : number_l 256 (sixteen f) ≡ word = number_of_digits 16 word (omega arith) in
    ap (λ n. digits_l 256 16 (number_l (2 ^ 64) (swap_bytes w64 (n / 2 ^ 64) ∷ swap_bytes w64 (n % 2 ^ 64) ∷ []))) (sym is)
    ∙ ap (λ x. digits_l 256 16 (x + 2 ^ 64 * (swap_bytes w64 (number_l 256 (sixteen f) % 2 ^ 64) + 2 ^ 64 * 0))) (high_swapped f small)
    ∙ ap (λ y. digits_l 256 16 (from_be_bytes w64 (eight (upper f)) + 2 ^ 64 * (y + 2 ^ 64 * 0))) (low_swapped f small)
    ∙ ap (digits_l 256 16) (turned_round f)
    ∙ digits_of_number 16 (bytes_of word) refl (all_reversed (λ d. d < 256) (digits_l 256 16 word) bytes_small)
