-- numbers by the digits of their columns
use Rattle.std.proofs.Common.{◌≡◌, ◌++◌, ℕ, zero, suc, ◌+◌, ◌-◌, ◌*◌, ◌/◌, ◌%◌, ◌^◌, ◌<◌, ◌≤◌, ◌==◌, ◌||◌, All, Bool, true, false, eqb, ltb, leb, if◌then◌else◌, List, [], ◌∷◌, refl, sym, ◌∙◌, ap, arith, length, take, drop, map, max, replicate, is_some, unwrap_or, Some}
use Rattle.std.specs.List.{list_any}
use Rattle.std.specs.Simd.Lanes.{zip2}
use Rattle.std.proofs.Math.Decide.{dec_lt}
use Rattle.std.proofs.Math.Nat.{div-eq_of_lt, mod-eq_of_lt, pow-suc}
use Rattle.std.proofs.lemmas.Nat.{pow-add, mul-add-lt}
use Rattle.std.proofs.lemmas.Bool.{eq-eqb, ne_eqb, le-leb, lt-leb, ltb-false}
use Rattle.std.proofs.lemmas.List.{drop-replicate, length-append, length-map, length-drop, take-append-drop, length-replicate}
use Rattle.std.proofs.lemmas.List.Folds.{list_any-append}
use Rattle.std.proofs.lemmas.List.Elements.{All-nil, All-cons, All-head, All-tail}
use Rattle.std.proofs.lemmas.Simd.{length-zip2}
use Rattle.bcd.specs.Table.{digit_of}
use Rattle.bcd.specs.declared.Zone.{Zone}
use Rattle.bcd.specs.declared.Zone.TheVariants.{Bare}
use Rattle.addresses.specs.Digits.{digit_under}
use Rattle.arith.specs.Decimal.{digit_value, is_number, value, spelled}
use Rattle.arith.specs.Columns.{number, characters, digit_of_part}
use Rattle.arith.proofs.SumDigits.{ten_pos, spelled_more, spelled_low}
use Rattle.arith.proofs.DecimalNumbers.{both_hold}

-- ---- numbers

column : (P u v x y : ℕ) → (x + y) * P + (u + v) ≡ (x * P + u) + (y * P + v)
column P u v x y = omega arith

no_column : (P u : ℕ) → 0 * P + u ≡ u
no_column P u = omega arith

pub number-added : (xs ys : List ℕ) → length xs ≡ length ys → number (zip2 (λ x y. x + y) xs ys) ≡ number xs + number ys
unfolding number
number-added [] [] e = refl
number-added [] (y ∷ ys) e = absurd (omega arith)
number-added (x ∷ xs) [] e = absurd (omega arith)
number-added (x ∷ xs) (y ∷ ys) e =
    let rest : length xs ≡ length ys = omega arith in
    ap (λ n. (x + y) * 10 ^ n + number (zip2 (λ a b. a + b) xs ys)) (length-zip2 (λ a b. a + b) xs ys rest)
    ∙ ap (λ n. (x + y) * 10 ^ length xs + n) (number-added xs ys rest)
    ∙ column (10 ^ length xs) (number xs) (number ys) x y
    ∙ ap (λ n. x * 10 ^ length xs + number xs + (y * 10 ^ n + number ys)) rest

pub number-append : (xs ys : List ℕ) → number (xs ++ ys) ≡ number xs * 10 ^ length ys + number ys
unfolding number
number-append [] ys = sym (no_column (10 ^ length ys) (number ys))
number-append (x ∷ xs) ys =
    ap (λ n. x * 10 ^ n + number (xs ++ ys)) (length-append xs ys)
    ∙ ap (λ n. x * n + number (xs ++ ys)) (pow-add 10 (length xs) (length ys))
    ∙ ap (λ n. x * (10 ^ length xs * 10 ^ length ys) + n) (number-append xs ys)
    ∙ factored (10 ^ length xs) (10 ^ length ys) x (number xs) (number ys) where
      factored : (P Q d u v : ℕ) → d * (P * Q) + (u * Q + v) ≡ (d * P + u) * Q + v
      factored P Q d u v = omega arith

pub number_below : (ds : List ℕ) → All (λ d. d < 10) ds → number ds < 10 ^ length ds
unfolding number
number_below [] all = ten_pos 0
number_below (d ∷ ds) all = rw pow-suc (mul-add-lt d (10 ^ length ds) (number ds) 10 (All-head (λ n. n < 10) d ds all) (number_below ds (All-tail (λ n. n < 10) d ds all)))

-- digits as they are spelled
pub characters_spelled : (zone : Zone) (ds : List ℕ) → All (λ d. d < 10) ds → characters zone ds ≡ spelled (number ds) (length ds) zone
unfolding characters spelled number
characters_spelled zone [] all = refl
characters_spelled zone (d ∷ ds) all =
    let k = length ds in
    let small : d < 10 = All-head (λ n. n < 10) d ds all in
    let rest : All (λ n. n < 10) ds = All-tail (λ n. n < 10) d ds all in
    let more : k + 1 ≡ suc k = omega arith in
    let swapped : number ds + d * 10 ^ k ≡ d * 10 ^ k + number ds = omega arith in
    let zero_more : 0 + d ≡ d = omega arith in
    let none : number ds / 10 ^ k ≡ 0 = div-eq_of_lt (number_below ds rest) in
    let same : (number ds / 10 ^ k + d) % 10 ≡ d = ap (λ n. (n + d) % 10) none ∙ ap (λ n. n % 10) zero_more ∙ mod-eq_of_lt small in
    ap (λ l. digit_under (if k == 0 then zone else Bare) d ∷ l) (characters_spelled zone ds rest)
    ∙ ap (λ n. digit_under (if k == 0 then zone else Bare) n ∷ spelled (number ds) k zone) (sym same)
    ∙ sym (spelled_more (number ds) d k zone)
    ∙ ap (λ n. spelled n (k + 1) zone) swapped
    ∙ ap (λ n. spelled (d * 10 ^ k + number ds) n zone) more

-- the lowest digits of a number, and what is above them
module _ (hs ls : List ℕ) (all : All (λ d. d < 10) ls) where
  pub characters_low : (zone : Zone) → characters zone ls ≡ spelled (number (hs ++ ls)) (length ls) zone
  characters_low zone =
      let low : 0 + length ls ≡ length ls = omega arith in
      let swapped : number ls + number hs * 10 ^ length ls ≡ number hs * 10 ^ length ls + number ls = omega arith in
      characters_spelled zone ls all
      ∙ sym (spelled_low (number ls) (number hs) 0 (length ls) zone)
      ∙ ap (λ n. spelled (number ls + number hs * 10 ^ n) (length ls) zone) low
      ∙ ap (λ n. spelled n (length ls) zone) (swapped ∙ sym (number-append hs ls))

or_false : (a b : Bool) → (a || b) ≡ false → (a ≡ false) × (b ≡ false)
or_false true b h = absurd (cc)
or_false false b h = (refl, h)

none_above : (hs : List ℕ) → list_any (λ h. ltb 0 h) hs ≡ false → number hs ≡ 0
unfolding number
none_above [] h = refl
none_above (d ∷ hs) h =
    let parts = or_false (ltb 0 d) (list_any (λ x. ltb 0 x) hs) h in
    let none : d ≡ 0 = omega (arith, ltb-false 0 d parts.0) in
    ap (λ n. n * 10 ^ length hs + number hs) none ∙ no_column (10 ^ length hs) (number hs) ∙ none_above hs parts.1

some_above : (hs : List ℕ) → list_any (λ h. ltb 0 h) hs ≡ true → 1 ≤ number hs
unfolding number
some_above [] h = absurd (cc)
some_above (zero ∷ hs) h = rw (no_column (10 ^ length hs) (number hs)) (some_above hs h)
some_above (suc d ∷ hs) h = let pos : 0 < 10 ^ length hs = ten_pos (length hs) in lifted (10 ^ length hs) d (number hs) pos where
  lifted : (P d u : ℕ) → 0 < P → 1 ≤ suc d * P + u
  lifted P d u pos = omega arith

over_by : (any : Bool) (h P l : ℕ) → l < P → (any ≡ false → h ≡ 0) → (any ≡ true → 1 ≤ h) → any ≡ leb P (h * P + l)
over_by false h P l lt none some =
    let nothing : h ≡ 0 = none refl in
    sym (ap (λ n. leb P (n * P + l)) nothing ∙ lt-leb P (0 * P + l) (omega arith))
over_by true h P l lt none some =
    let least : 1 ≤ h = some refl in
    sym (le-leb P (h * P + l) (whole P h l least)) where
      whole : (P h l : ℕ) → 1 ≤ h → P ≤ h * P + l
      whole P zero l e = absurd (omega arith)
      whole P (suc h) l e = omega arith

pub overflow_by : (hs ls : List ℕ) → All (λ d. d < 10) ls → list_any (λ h. ltb 0 h) hs ≡ leb (10 ^ length ls) (number (hs ++ ls))
overflow_by hs ls all =
    over_by (list_any (λ h. ltb 0 h) hs) (number hs) (10 ^ length ls) (number ls) (number_below ls all) (none_above hs) (some_above hs)
    ∙ ap (leb (10 ^ length ls)) (sym (number-append hs ls))

-- ---- numeric parts

part_digit : (code : ℕ) → code % 16 ≤ 10 → digit_of code ≡ Some (digit_of_part (code % 16))
unfolding digit_of
part_digit code le =
    elim (dec_lt (code % 16) 10) [
      | yes lt ↦ rw (le-leb (code % 16) 9 (omega arith), ne_eqb (code % 16) 10 (omega arith)) refl
      | no ge ↦ let ten : code % 16 ≡ 10 = omega arith in rw (lt-leb (code % 16) 9 (omega arith), eq-eqb (code % 16) 10 ten) refl
    ]

pub parts_number : (codes : List ℕ) → All (λ n. n ≤ 10) (map (λ c. c % 16) codes) → is_number codes ≡ true
unfolding is_number
parts_number [] all = refl
parts_number (c ∷ cs) all =
    both_hold _ _ (ap is_some (part_digit c (All-head (λ n. n ≤ 10) (c % 16) (map (λ d. d % 16) cs) all))) (parts_number cs (All-tail (λ n. n ≤ 10) (c % 16) (map (λ d. d % 16) cs) all))

number_parts : (codes : List ℕ) → All (λ n. n ≤ 10) (map (λ c. c % 16) codes) → number (map digit_of_part (map (λ c. c % 16) codes)) ≡ value codes
unfolding number value
number_parts [] all = refl
number_parts (c ∷ cs) all =
    let rest : All (λ n. n ≤ 10) (map (λ d. d % 16) cs) = All-tail (λ n. n ≤ 10) (c % 16) (map (λ d. d % 16) cs) all in
    let digit : digit_of_part (c % 16) ≡ digit_value c = sym (ap (λ found. unwrap_or found 0) (part_digit c (All-head (λ n. n ≤ 10) (c % 16) (map (λ d. d % 16) cs) all))) in
    ap (λ n. digit_of_part (c % 16) * 10 ^ n + number (map digit_of_part (map (λ d. d % 16) cs))) (length-map (map (λ d. d % 16) cs) digit_of_part ∙ length-map cs (λ d. d % 16))
    ∙ ap (λ n. n * 10 ^ length cs + number (map digit_of_part (map (λ d. d % 16) cs))) digit
    ∙ ap (λ n. digit_value c * 10 ^ length cs + n) (number_parts cs rest)

skip_zeros : (k : ℕ) (ps : List ℕ) → number (map digit_of_part (replicate k 0 ++ ps)) ≡ number (map digit_of_part ps)
unfolding number
skip_zeros zero ps = refl
skip_zeros (suc k) ps = no_column (10 ^ length (map digit_of_part (replicate k 0 ++ ps))) (number (map digit_of_part (replicate k 0 ++ ps))) ∙ skip_zeros k ps

after_zeros : (P : ℕ → Type 0) (k : ℕ) (ps : List ℕ) → All P (replicate k 0 ++ ps) → All P ps
after_zeros P zero ps all = all
after_zeros P (suc k) ps all = after_zeros P k ps (All-tail P 0 (replicate k 0 ++ ps) all)

module _ (k : ℕ) (codes : List ℕ) (all : All (λ n. n ≤ 10) (replicate k 0 ++ map (λ c. c % 16) codes)) where
  pub lanes_number : is_number codes ≡ true
  lanes_number = parts_number codes (after_zeros (λ n. n ≤ 10) k (map (λ c. c % 16) codes) all)

  pub lanes_value : number (map digit_of_part (replicate k 0 ++ map (λ c. c % 16) codes)) ≡ value codes
  lanes_value = skip_zeros k (map (λ c. c % 16) codes) ∙ number_parts codes (after_zeros (λ n. n ≤ 10) k (map (λ c. c % 16) codes) all)

pub lanes_long : (k : ℕ) (codes : List ℕ) → length codes ≡ 16 → k ≤ 16 → length (replicate k 0 ++ map (λ c. c % 16) (drop k codes)) ≡ 16
lanes_long k codes long le =
    length-append (replicate k 0) (map (λ c. c % 16) (drop k codes))
    ∙ sum_of (length (replicate k 0)) (length (map (λ c. c % 16) (drop k codes))) (length-replicate k 0) (length-map (drop k codes) (λ c. c % 16) ∙ length-drop k codes) where
      sum_of : (x y : ℕ) → x ≡ k → y ≡ length codes - k → x + y ≡ 16
      sum_of x y ex ey = omega arith

-- ---- no lane is over

pub none_over : (m : ℕ) (xs : List ℕ) → list_any (λ x. ltb m x) xs ≡ false → All (λ x. x ≤ m) xs
none_over m [] h = All-nil (λ x. x ≤ m)
none_over m (x ∷ xs) h =
    let parts = or_false (ltb m x) (list_any (λ y. ltb m y) xs) h in
    All-cons (λ y. y ≤ m) x xs (ltb-false m x parts.0) (none_over m xs parts.1)

pub below_ten : (xs : List ℕ) → list_any (λ x. ltb 9 x) xs ≡ false → All (λ x. x < 10) xs
below_ten xs h k d lt = let most = none_over 9 xs h k d lt in omega (arith, most)

pub neither_over : (m : ℕ) (xs ys : List ℕ) → length xs ≡ length ys → list_any (λ x. ltb m x) (zip2 max xs ys) ≡ false → All (λ x. x ≤ m) xs × All (λ y. y ≤ m) ys
neither_over m [] [] e h = (All-nil (λ x. x ≤ m), All-nil (λ y. y ≤ m))
neither_over m [] (y ∷ ys) e h = absurd (omega arith)
neither_over m (x ∷ xs) [] e h = absurd (omega arith)
neither_over m (x ∷ xs) (y ∷ ys) e h =
    let parts = or_false (ltb m (max x y)) (list_any (λ z. ltb m z) (zip2 max xs ys)) h in
    let most : max x y ≤ m = ltb-false m (max x y) parts.0 in
    let rest = neither_over m xs ys (omega arith) parts.1 in
    (All-cons (λ z. z ≤ m) x xs (omega arith) rest.0, All-cons (λ z. z ≤ m) y ys (omega arith) rest.1)

pub digits_small : (ps : List ℕ) → All (λ p. p ≤ 10) ps → All (λ d. d < 128) (map digit_of_part ps)
digits_small [] all = All-nil (λ d. d < 128)
digits_small (p ∷ ps) all =
    All-cons (λ d. d < 128) (digit_of_part p) (map digit_of_part ps) (at_most (eqb p 10) p (All-head (λ n. n ≤ 10) p ps all)) (digits_small ps (All-tail (λ n. n ≤ 10) p ps all)) where
      at_most : (b : Bool) (n : ℕ) → n ≤ 10 → (if b then 0 else n) < 128
      at_most true n h = omega arith
      at_most false n h = omega arith

pub sum_is : (xs ys : List ℕ) → length xs ≡ length ys → number (zip2 (λ x y. x + y) (map digit_of_part xs) (map digit_of_part ys)) ≡ number (map digit_of_part xs) + number (map digit_of_part ys)
sum_is xs ys e = number-added (map digit_of_part xs) (map digit_of_part ys) (length-map xs digit_of_part ∙ e ∙ sym (length-map ys digit_of_part))

pub sum_long : (xs ys : List ℕ) → length xs ≡ 16 → length ys ≡ 16 → length (zip2 (λ x y. x + y) (map digit_of_part xs) (map digit_of_part ys)) ≡ 16
sum_long xs ys e e' =
    length-zip2 (λ x y. x + y) (map digit_of_part xs) (map digit_of_part ys) (length-map xs digit_of_part ∙ e ∙ sym (length-map ys digit_of_part ∙ e')) ∙ length-map xs digit_of_part ∙ e

-- what is above the lowest digits, as the lanes give it
pub overflow_lanes : (k : ℕ) (ds : List ℕ) → length ds ≡ 16 → k ≤ 16 → All (λ d. d < 10) (drop k ds) →
    list_any (λ l. ltb 0 l) (take k ds ++ drop k (replicate 16 0)) ≡ leb (10 ^ (16 - k)) (number ds)
overflow_lanes k ds long le all =
    let rest : length (drop k ds) ≡ 16 - k = length-drop k ds ∙ ap (λ n. n - k) long in
    list_any-append (λ l. ltb 0 l) (take k ds) (drop k (replicate 16 0))
    ∙ ap (λ b. list_any (λ l. ltb 0 l) (take k ds) || b) (ap (list_any (λ l. ltb 0 l)) (drop-replicate k 16 0) ∙ no_zero_over (16 - k))
    ∙ or_none (list_any (λ l. ltb 0 l) (take k ds))
    ∙ overflow_by (take k ds) (drop k ds) all
    ∙ ap (λ n. leb (10 ^ n) (number (take k ds ++ drop k ds))) rest
    ∙ ap (λ xs. leb (10 ^ (16 - k)) (number xs)) (take-append-drop k ds) where
      or_none : (b : Bool) → (b || false) ≡ b
      or_none true = refl
      or_none false = refl

      no_zero_over : (n : ℕ) → list_any (λ l. ltb 0 l) (replicate n 0) ≡ false
      no_zero_over zero = refl
      no_zero_over (suc n) = no_zero_over n

pub characters_lanes : (k : ℕ) (ds : List ℕ) (zone : Zone) → length ds ≡ 16 → k ≤ 16 → All (λ d. d < 10) (drop k ds) → characters zone (drop k ds) ≡ spelled (number ds) (16 - k) zone
characters_lanes k ds zone long le all =
    let rest : length (drop k ds) ≡ 16 - k = length-drop k ds ∙ ap (λ n. n - k) long in
    characters_low (take k ds) (drop k ds) all zone
    ∙ ap (λ n. spelled (number (take k ds ++ drop k ds)) n zone) rest
    ∙ ap (λ xs. spelled (number xs) (16 - k) zone) (take-append-drop k ds)

pub digit_most : (p : ℕ) → p ≤ 10 → digit_of_part p ≤ 9
digit_most p le =
    elim (dec_lt p 10) [
      | yes lt ↦ let small : p ≤ 9 = omega arith in rw (ne_eqb p 10 (omega arith)) small
      | no ge ↦ let ten : p ≡ 10 = omega arith in let none : 0 ≤ 9 = omega arith in rw (eq-eqb p 10 ten) none
    ]

-- no digit of the sum is more than 18 before its carry
pub sums_most : (xs ys : List ℕ) → All (λ x. x ≤ 10) xs → All (λ y. y ≤ 10) ys → All (λ z. z ≤ 18) (zip2 (λ x y. x + y) (map digit_of_part xs) (map digit_of_part ys))
sums_most [] ys hx hy = All-nil (λ z. z ≤ 18)
sums_most (x ∷ xs) [] hx hy = All-nil (λ z. z ≤ 18)
sums_most (x ∷ xs) (y ∷ ys) hx hy =
    let most_x : digit_of_part x ≤ 9 = digit_most x (All-head (λ n. n ≤ 10) x xs hx) in
    let most_y : digit_of_part y ≤ 9 = digit_most y (All-head (λ n. n ≤ 10) y ys hy) in
    All-cons (λ z. z ≤ 18) (digit_of_part x + digit_of_part y) (zip2 (λ a b. a + b) (map digit_of_part xs) (map digit_of_part ys)) (omega arith)
    (sums_most xs ys (All-tail (λ n. n ≤ 10) x xs hx) (All-tail (λ n. n ≤ 10) y ys hy))
