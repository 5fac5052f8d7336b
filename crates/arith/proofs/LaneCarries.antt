-- carries between the columns of a number
use Rattle.std.proofs.Common.{◌≡◌, ◌++◌, ℕ, zero, suc, ◌+◌, ◌-◌, ◌*◌, ◌%◌, ◌^◌, ◌<◌, ◌≤◌, ◌||◌, All, Bool, true, false, cond, ltb, if◌then◌else◌, List, [], ◌∷◌, refl, sym, ◌∙◌, ap, arith, length, take, drop, map, replicate, get_or}
use Rattle.std.specs.List.{list_any, range_with_len}
use Rattle.std.specs.Simd.Lanes.{pick_l, sel_l, sum_l, zip2}
use Rattle.std.proofs.Math.Decide.{dec_lt}
use Rattle.std.proofs.Math.Nat.{pow-suc}
use Rattle.std.proofs.lemmas.Bool.{lt-ltb, le-ltb, ltb-true}
use Rattle.std.proofs.lemmas.List.{length-append, length-replicate}
use Rattle.std.proofs.lemmas.Simd.{pick_l-range_with_len}
use Rattle.std.proofs.lemmas.List.Elements.{All-nil, All-cons, All-head, All-tail}
use Rattle.arith.specs.Columns.{number}

abbrev pub carry : ℕ → ℕ
carry sum = if ltb 9 sum then 1 else 0

abbrev pub unit : ℕ → ℕ
unit sum = if ltb 9 sum then sum - 10 else sum

-- ---- the operations on lanes

pub carries_are : (xs : List ℕ) (n : ℕ) → length xs ≡ n → sel_l (map (λ x. ltb 9 x) xs) (replicate n 1) (replicate n 0) ≡ map carry xs
carries_are [] n e = refl
carries_are (x ∷ xs) zero e = absurd (omega arith)
carries_are (x ∷ xs) (suc n) e = ap (λ l. carry x ∷ l) (carries_are xs n (omega arith))

-- a digit and 10 less in base 256, of which the smaller is without its carry
one_unit : (x : ℕ) → x ≤ 18 → cond (ltb x ((x + (256 - 10)) % 256)) x ((x + (256 - 10)) % 256) ≡ unit x
one_unit x le =
    elim (dec_lt 9 x) [
      | yes lt ↦
          let less : (x + (256 - 10)) % 256 ≡ x - 10 = omega arith in
          ap (λ y. cond (ltb x y) x y) less ∙ ap (λ b. cond b x (x - 10)) (le-ltb x (x - 10) (omega arith)) ∙ sym (ap (λ b. cond b (x - 10) x) (lt-ltb 9 x lt))
      | no ge ↦
          let more : x < (x + (256 - 10)) % 256 = omega arith in
          ap (λ b. cond b x ((x + (256 - 10)) % 256)) (lt-ltb x ((x + (256 - 10)) % 256) more) ∙ sym (ap (λ b. cond b (x - 10) x) (le-ltb 9 x (omega arith)))
    ]

pub units_are : (xs : List ℕ) (n : ℕ) → length xs ≡ n → All (λ x. x ≤ 18) xs →
    let less = zip2 (λ x y. (x + (256 - y)) % 256) xs (replicate n 10) in sel_l (zip2 ltb xs less) xs less ≡ map unit xs
units_are [] n e all = refl
units_are (x ∷ xs) zero e all = absurd (omega arith)
units_are (x ∷ xs) (suc n) e all =
    let less = zip2 (λ x y. (x + (256 - y)) % 256) xs (replicate n 10) in
    ap (λ y. y ∷ sel_l (zip2 ltb xs less) xs less) (one_unit x (All-head (λ y. y ≤ 18) x xs all))
    ∙ ap (λ l. unit x ∷ l) (units_are xs n (omega arith) (All-tail (λ y. y ≤ 18) x xs all))

take_one_past : (xs ys : List ℕ) (n : ℕ) → length xs ≡ n → take (suc n) (xs ++ 0 ∷ ys) ≡ xs ++ 0 ∷ []
take_one_past [] ys zero e = refl
take_one_past [] ys (suc n) e = absurd (omega arith)
take_one_past (x ∷ xs) ys zero e = absurd (omega arith)
take_one_past (x ∷ xs) ys (suc n) e = ap (λ l. x ∷ l) (take_one_past xs ys n (omega arith))

-- the lanes from the second on, and then the first of lanes of 0
pub moved_left : (xs : List ℕ) → length xs ≡ 16 → pick_l 0 (xs ++ replicate 16 0) (range_with_len 1 16) ≡ drop 1 xs ++ 0 ∷ []
moved_left [] e = absurd (omega arith)
moved_left (x ∷ xs) e =
    let room : 1 + 16 ≤ length ((x ∷ xs) ++ replicate 16 0) = omega (arith, length-append (x ∷ xs) (replicate 16 0), length-replicate {A = ℕ} 16 0, e) in
    pick_l-range_with_len 0 ((x ∷ xs) ++ replicate 16 0) 1 16 room ∙ take_one_past xs (replicate 15 0) 15 (omega arith)

-- ---- one step of the carries

head_carry : List ℕ → ℕ
head_carry [] = 0
head_carry (x ∷ xs) = carry x

carry_on : List ℕ → List ℕ
carry_on [] = []
carry_on (x ∷ xs) = (unit x + head_carry xs) ∷ carry_on xs

step_is : (x : ℕ) (xs : List ℕ) → zip2 (λ a b. a + b) (map unit (x ∷ xs)) (map carry xs ++ 0 ∷ []) ≡ carry_on (x ∷ xs)
unfolding carry_on head_carry
step_is x [] = refl
step_is x (y ∷ ys) = ap (λ l. (unit x + carry y) ∷ l) (step_is y ys)

both_parts : (x : ℕ) → unit x + 10 * carry x ≡ x
both_parts x =
    elim (dec_lt 9 x) [
      | yes lt ↦ let whole : x - 10 + 10 * 1 ≡ x = omega arith in ap (λ b. cond b (x - 10) x + 10 * cond b 1 0) (lt-ltb 9 x lt) ∙ whole
      | no ge ↦ let whole : x + 10 * 0 ≡ x = omega arith in ap (λ b. cond b (x - 10) x + 10 * cond b 1 0) (le-ltb 9 x (omega arith)) ∙ whole
    ]

length-carry_on : (xs : List ℕ) → length (carry_on xs) ≡ length xs
unfolding carry_on
length-carry_on [] = refl
length-carry_on (x ∷ xs) = ap suc (length-carry_on xs)

carried_column : (P x u c h n m : ℕ) → u + 10 * c ≡ x → n + h * P ≡ m → (u + h) * P + n + c * (P * 10) ≡ x * P + m
carried_column P x u c h n m e f = let g : (u + 10 * c) * P ≡ x * P = ap (λ k. k * P) e in omega arith

number-carry_on : (xs : List ℕ) → number (carry_on xs) + head_carry xs * 10 ^ length xs ≡ number xs
unfolding carry_on head_carry number
number-carry_on [] = refl
number-carry_on (x ∷ xs) =
    ap (λ k. (unit x + head_carry xs) * 10 ^ k + number (carry_on xs) + carry x * 10 ^ suc (length xs)) (length-carry_on xs)
    ∙ ap (λ k. (unit x + head_carry xs) * 10 ^ length xs + number (carry_on xs) + carry x * k) (pow-suc 10 (length xs))
    ∙ carried_column (10 ^ length xs) x (unit x) (carry x) (head_carry xs) (number (carry_on xs)) (number xs) (both_parts x) (number-carry_on xs)

carry_most : (x : ℕ) → carry x ≤ 1
carry_most x = at_most (ltb 9 x) where
  at_most : (b : Bool) → cond b 1 0 ≤ 1
  at_most true = omega arith
  at_most false = omega arith

head_most : (xs : List ℕ) → head_carry xs ≤ 1
unfolding head_carry
head_most [] = omega arith
head_most (x ∷ xs) = carry_most x

unit_most : (x : ℕ) → x ≤ 18 → unit x ≤ 9
unit_most x le =
    elim (dec_lt 9 x) [
      | yes lt ↦ let small : x - 10 ≤ 9 = omega arith in rw (lt-ltb 9 x lt) small
      | no ge ↦ let small : x ≤ 9 = omega arith in rw (le-ltb 9 x small) small
    ]

most_carry_on : (xs : List ℕ) → All (λ x. x ≤ 18) xs → All (λ x. x ≤ 18) (carry_on xs)
unfolding carry_on
most_carry_on [] all = All-nil (λ x. x ≤ 18)
most_carry_on (x ∷ xs) all =
    let here : unit x ≤ 9 = unit_most x (All-head (λ y. y ≤ 18) x xs all) in
    let before : head_carry xs ≤ 1 = head_most xs in
    All-cons (λ y. y ≤ 18) (unit x + head_carry xs) (carry_on xs) (omega arith) (most_carry_on xs (All-tail (λ y. y ≤ 18) x xs all))

-- each carry makes the sum of the digits less by 9
lowered_by : (over any : Bool) (x h n m : ℕ) → (over ≡ true → 9 < x) → n + h + cond any 9 0 ≤ m →
    cond over (x - 10) x + h + n + cond over 1 0 + cond (over || any) 9 0 ≤ x + m
lowered_by true true x h n m e f = let lt : 9 < x = e refl in omega arith
lowered_by true false x h n m e f = let lt : 9 < x = e refl in omega arith
lowered_by false true x h n m e f = omega arith
lowered_by false false x h n m e f = omega arith

sum-carry_on : (xs : List ℕ) → sum_l (carry_on xs) + head_carry xs + cond (list_any (λ x. ltb 9 x) xs) 9 0 ≤ sum_l xs
unfolding carry_on head_carry
sum-carry_on [] = omega arith
sum-carry_on (x ∷ xs) = lowered_by (ltb 9 x) (list_any (λ y. ltb 9 y) xs) x (head_carry xs) (sum_l (carry_on xs)) (sum_l xs) (ltb-true 9 x) (sum-carry_on xs)

-- no carry goes out of sixteen columns
first_small : (x P n : ℕ) → x * P + n < 10 * P → x < 10
first_small x P n h =
    elim (dec_lt x 10) [
      | yes lt ↦ lt
      | no ge ↦ let y : ℕ = x - 10 in let split : x ≡ y + 10 = omega arith in let whole : x * P ≡ y * P + 10 * P = ap (λ k. k * P) split ∙ spread y P in absurd (omega (arith, whole, h))
    ] where
      spread : (y P : ℕ) → (y + 10) * P ≡ y * P + 10 * P
      spread y P = omega arith

no_carry_out : (xs : List ℕ) → length xs ≡ 16 → number xs < 10 ^ 16 → carry (get_or xs 0 0) ≡ 0
unfolding number
no_carry_out [] e h = absurd (omega arith)
no_carry_out (x ∷ xs) e h =
    let size : length xs ≡ 15 = omega arith in
    let power : 10 ^ length xs ≡ 10 ^ 15 = ap (λ n. 10 ^ n) size in
    let bound : x * 10 ^ 15 + number xs < 10 * 10 ^ 15 = rw power at h in
    let small : x < 10 = first_small x (10 ^ 15) (number xs) bound in
    ap (λ b. cond b 1 0) (le-ltb 9 x (omega arith))

head_is : (xs : List ℕ) → length xs ≡ 16 → head_carry xs ≡ carry (get_or xs 0 0)
unfolding head_carry
head_is [] e = absurd (omega arith)
head_is (x ∷ xs) e = refl

-- the step as the lanes take it
module _ (xs : List ℕ) (long : length xs ≡ 16) (most : All (λ x. x ≤ 18) xs) (room : number xs < 10 ^ 16) where
  abbrev pub stepped : List ℕ
  stepped = zip2 (λ a b. a + b) (map unit xs) (drop 1 (map carry xs) ++ 0 ∷ [])

  step_lanes : stepped ≡ carry_on xs
  step_lanes = by_first xs long where
    by_first : (ys : List ℕ) → length ys ≡ 16 → zip2 (λ a b. a + b) (map unit ys) (drop 1 (map carry ys) ++ 0 ∷ []) ≡ carry_on ys
    by_first [] e = absurd (omega arith)
    by_first (y ∷ ys) e = step_is y ys

  none_out : head_carry xs ≡ 0
  none_out = head_is xs long ∙ no_carry_out xs long room

  pub step_number : number stepped ≡ number xs
  step_number =
      let whole : number (carry_on xs) + 0 * 10 ^ length xs ≡ number (carry_on xs) = no_more (number (carry_on xs)) (10 ^ length xs) in
      ap number step_lanes ∙ sym whole ∙ ap (λ n. number (carry_on xs) + n * 10 ^ length xs) (sym none_out) ∙ number-carry_on xs where
        no_more : (n P : ℕ) → n + 0 * P ≡ n
        no_more n P = omega arith

  pub step_long : length stepped ≡ 16
  step_long = ap length step_lanes ∙ length-carry_on xs ∙ long

  pub step_most : All (λ x. x ≤ 18) stepped
  step_most = rw step_lanes (most_carry_on xs most)

  pub step_fewer : list_any (λ x. ltb 9 x) xs ≡ true → sum_l stepped < sum_l xs
  step_fewer over =
      let lower : sum_l (carry_on xs) + head_carry xs + cond (list_any (λ x. ltb 9 x) xs) 9 0 ≤ sum_l xs = sum-carry_on xs in
      let less : ℕ = cond (list_any (λ x. ltb 9 x) xs) 9 0 in
      let nine : less ≡ 9 = ap (λ b. cond b 9 0) over in
      omega (arith, ap sum_l step_lanes, lower, nine)

pub units_small : (xs : List ℕ) → All (λ x. x ≤ 18) xs → All (λ x. x < 128) (map unit xs)
units_small [] all = All-nil (λ x. x < 128)
units_small (x ∷ xs) all =
    let small : unit x ≤ 9 = unit_most x (All-head (λ y. y ≤ 18) x xs all) in
    All-cons (λ y. y < 128) (unit x) (map unit xs) (omega arith) (units_small xs (All-tail (λ y. y ≤ 18) x xs all))

carries_small : (xs : List ℕ) → All (λ x. x < 128) (map carry xs ++ 0 ∷ [])
carries_small [] = All-cons (λ x. x < 128) 0 [] (omega arith) (All-nil (λ x. x < 128))
carries_small (x ∷ xs) = let small : carry x ≤ 1 = carry_most x in All-cons (λ y. y < 128) (carry x) (map carry xs ++ 0 ∷ []) (omega arith) (carries_small xs)

pub left_small : (xs : List ℕ) → length xs ≡ 16 → All (λ x. x < 128) (drop 1 (map carry xs) ++ 0 ∷ [])
left_small [] e = absurd (omega arith)
left_small (x ∷ xs) e = carries_small xs
