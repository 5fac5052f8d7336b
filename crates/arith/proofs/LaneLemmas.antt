-- sixteen lanes at once
use Rattle.std.proofs.Common.{◌≡◌, ◌++◌, ℕ, zero, suc, ◌+◌, ◌-◌, ◌*◌, ◌%◌, ◌<◌, ◌≤◌, ◌==◌, All, Bool, true, false, cond, eqb, ltb, if◌then◌else◌, List, [], ◌∷◌, refl, sym, ◌∙◌, ap, arith, length, get_or, take, drop, map, max, bit_and, replicate}
use Rattle.std.specs.Simd.Lanes.{sel_l, zip2}
use Rattle.std.proofs.Math.Decide.{dec_lt}
use Rattle.std.proofs.Math.Dec.{eqb-suc-zero}
use Rattle.std.proofs.lemmas.Bool.{eqb-true, lt-ltb, le-ltb}
use Rattle.std.proofs.lemmas.List.{length-drop, length-map, drop-map, drop-append-le, drop-replicate, drop_more, drop_all, take-replicate}
use Rattle.std.proofs.lemmas.List.Elements.{All-nil, All-cons, All-head, All-tail, All-same, All-append, All-take, All-drop, All-map, All-replicate, All-weaker}
use Rattle.std.proofs.lemmas.Nat.{and_mask, and_le_r}
use Rattle.std.proofs.Math.Nat.{mod-eq_of_lt}
use Rattle.bcd.specs.Table.{zone_of, zone_number}
use Rattle.bcd.specs.declared.Zone.{Zone}
use Rattle.bcd.specs.declared.Zone.TheVariants.{Bare, A, B, AB}
use Rattle.bcd.proofs.Tables.{at_each}
use Rattle.addresses.specs.Digits.{digit_under}
use Rattle.addresses.proofs.DigitLemmas.{digit_number}
use Rattle.arith.specs.Columns.{characters}

-- ---- some lanes of one list and some of another

larger : (x y : ℕ) → cond (ltb x y) y x ≡ max x y
larger x y =
    elim (dec_lt x y) [
      | yes lt ↦ let most : max x y ≡ y = omega arith in ap (λ b. cond b y x) (lt-ltb x y lt) ∙ sym most
      | no ge ↦ let most : max x y ≡ x = omega arith in ap (λ b. cond b y x) (le-ltb x y (omega arith)) ∙ sym most
    ]

pub sel_max : (xs ys : List ℕ) → sel_l (zip2 ltb xs ys) ys xs ≡ zip2 max xs ys
sel_max [] ys = refl
sel_max (x ∷ xs) [] = refl
sel_max (x ∷ xs) (y ∷ ys) = ap (λ z. z ∷ sel_l (zip2 ltb xs ys) ys xs) (larger x y) ∙ ap (λ l. max x y ∷ l) (sel_max xs ys)

-- ---- the characters of digits

drop_zip2 : (f : ℕ → ℕ → ℕ) (k : ℕ) (xs ys : List ℕ) → length xs ≡ length ys → drop k (zip2 f xs ys) ≡ zip2 f (drop k xs) (drop k ys)
drop_zip2 f zero xs ys e = refl
drop_zip2 f (suc k) [] [] e = refl
drop_zip2 f (suc k) [] (y ∷ ys) e = absurd (omega arith)
drop_zip2 f (suc k) (x ∷ xs) [] e = absurd (omega arith)
drop_zip2 f (suc k) (x ∷ xs) (y ∷ ys) e = drop_zip2 f k xs ys (omega arith)

abbrev pub part : ℕ → ℕ
part digit = if digit == 0 then 10 else digit

-- numeric parts, and the bits of the zone at the units
pub parts_and_zone : (zone : Zone) (z digit : ℕ) (digits : List ℕ) → z ≡ 16 * zone_number zone → All (λ d. d < 10) (digit ∷ digits) →
    zip2 (λ x y. x + y) (map part (digit ∷ digits)) (replicate (length digits) 0 ++ z ∷ []) ≡ characters zone (digit ∷ digits)
unfolding characters
parts_and_zone zone z digit [] is all =
    let small : digit < 10 = All-head (λ d. d < 10) digit [] all in
    let one : part digit + z ≡ digit_under zone digit = omega (arith, is, digit_number zone digit small) in
    ap (λ c. c ∷ []) one
parts_and_zone zone z digit (next ∷ digits) is all =
    let small : digit < 10 = All-head (λ d. d < 10) digit (next ∷ digits) all in
    let one : part digit + 0 ≡ digit_under Bare digit = omega (arith, digit_number Bare digit small) in
    ap (λ c. c ∷ zip2 (λ x y. x + y) (map part (next ∷ digits)) (replicate (length digits) 0 ++ z ∷ [])) one
    ∙ ap (λ b. digit_under (if b then zone else Bare) digit ∷ zip2 (λ x y. x + y) (map part (next ∷ digits)) (replicate (length digits) 0 ++ z ∷ [])) (sym (eqb-suc-zero (length digits)))
    ∙ ap (λ l. digit_under (if length (next ∷ digits) == 0 then zone else Bare) digit ∷ l) (parts_and_zone zone z next digits is (All-tail (λ d. d < 10) digit (next ∷ digits) all))

zone_most : (zone : Zone) → zone_number zone ≤ 3
zone_most Bare = omega arith
zone_most A = omega arith
zone_most B = omega arith
zone_most AB = omega arith

part_most : (d : ℕ) → d < 10 → part d ≤ 10
part_most d h = at_most (eqb d 0) d h where
  at_most : (b : Bool) (n : ℕ) → n < 10 → (if b then 10 else n) ≤ 10
  at_most true n h = omega arith
  at_most false n h = omega arith

digit_below : (zone : Zone) (d : ℕ) → d < 10 → digit_under zone d < 64
digit_below zone d h = omega (arith, digit_number zone d h, zone_most zone, part_most d h)

pub characters_below : (zone : Zone) (digits : List ℕ) → All (λ d. d < 10) digits → All (λ code. code < 64) (characters zone digits)
unfolding characters
characters_below zone [] all = All-nil (λ code. code < 64)
characters_below zone (d ∷ ds) all =
    let small : d < 10 = All-head (λ n. n < 10) d ds all in
    All-cons (λ code. code < 64) _ (characters zone ds) (digit_below (if length ds == 0 then zone else Bare) d small) (characters_below zone ds (All-tail (λ n. n < 10) d ds all))

-- the bits of a zone
pub zone_bits : (code : ℕ) → code < 64 → bit_and code 48 ≡ 16 * zone_number (zone_of code)
unfolding zone_of
zone_bits code h = eqb-true _ _ (at_each (λ c. eqb (bit_and c 48) (16 * zone_number (zone_of c))) 64 refl code h)

-- ---- what the operations on lanes give

pub sums_wrapped : (xs ys : List ℕ) → All (λ x. x < 128) xs → All (λ y. y < 128) ys → zip2 (λ x y. (x + y) % 256) xs ys ≡ zip2 (λ x y. x + y) xs ys
sums_wrapped [] ys hx hy = refl
sums_wrapped (x ∷ xs) [] hx hy = refl
sums_wrapped (x ∷ xs) (y ∷ ys) hx hy =
    let small_x : x < 128 = All-head (λ n. n < 128) x xs hx in
    let small_y : y < 128 = All-head (λ n. n < 128) y ys hy in
    let fits : x + y < 256 = omega arith in
    ap (λ n. n ∷ zip2 (λ a b. (a + b) % 256) xs ys) (mod-eq_of_lt fits)
    ∙ ap (λ l. (x + y) ∷ l) (sums_wrapped xs ys (All-tail (λ n. n < 128) x xs hx) (All-tail (λ n. n < 128) y ys hy))

low_bits : (xs : List ℕ) → map (λ x. bit_and x 15) xs ≡ map (λ x. x % 16) xs
low_bits [] = refl
low_bits (x ∷ xs) = ap (λ n. n ∷ map (λ y. bit_and y 15) xs) (and_mask x 4) ∙ ap (λ l. (x % 16) ∷ l) (low_bits xs)

pub parts_are : (k : ℕ) (codes : List ℕ) → k ≤ 16 → take k (replicate 16 0) ++ drop k (map (λ c. bit_and c 15) codes) ≡ replicate k 0 ++ map (λ c. c % 16) (drop k codes)
parts_are k codes le =
    ap (λ l. l ++ drop k (map (λ c. bit_and c 15) codes)) (take-replicate k 16 0 le)
    ∙ ap (λ l. replicate k 0 ++ l) (drop-map (λ c. bit_and c 15) k codes ∙ low_bits (drop k codes))

part_small : (d : ℕ) → d < 10 → part d < 128
part_small zero h = omega arith
part_small (suc d) h = ap_small (eqb (suc d) 0) (suc d) (omega arith) where
  ap_small : (b : Bool) (n : ℕ) → n < 128 → (if b then 10 else n) < 128
  ap_small true n h = omega arith
  ap_small false n h = h

pub parts_small : (digits : List ℕ) → All (λ d. d < 10) digits → All (λ n. n < 128) (map part digits)
parts_small digits all = All-map (λ n. n < 128) part digits (All-weaker (λ d. d < 10) (λ d. part d < 128) part_small digits all)

pub zone_small : (old : List ℕ) → All (λ n. n < 128) (take 15 (replicate 16 0) ++ drop 15 (map (λ c. bit_and c 48) old))
zone_small old =
    All-append (λ n. n < 128) (take 15 (replicate 16 0)) (drop 15 (map (λ c. bit_and c 48) old))
    (All-take (λ n. n < 128) 15 (replicate 16 0) (All-replicate (λ n. n < 128) 16 0 (omega arith)))
    (All-drop (λ n. n < 128) 15 (map (λ c. bit_and c 48) old) (All-map (λ n. n < 128) (λ c. bit_and c 48) old (λ k d lt. let most : bit_and (get_or old k d) 48 ≤ 48 = and_le_r (get_or old k d) 48 in omega arith)))

module _ (k : ℕ) (digits old : List ℕ) (le : k ≤ 15) (long : length digits ≡ 16) (long' : length old ≡ 16) (small : All (λ d. d < 10) digits) (codes : All (λ c. c < 64) old) where
  abbrev units : ℕ
  units = get_or old 15 0

  abbrev zone_lanes : List ℕ
  zone_lanes = take 15 (replicate 16 0) ++ drop 15 (map (λ c. bit_and c 48) old)

  zone_is : zone_lanes ≡ replicate 15 0 ++ bit_and units 48 ∷ []
  zone_is =
      ap (λ l. replicate 15 0 ++ l)
      (drop-map (λ c. bit_and c 48) 15 old ∙ ap (map (λ c. bit_and c 48)) (drop_more old 15 0 (omega arith) ∙ ap (λ l. units ∷ l) (drop_all 16 old (omega arith))))

  rest_long : 15 - k ≡ length (drop (k + 1) digits)
  rest_long = omega (arith, long, length-drop (k + 1) digits)

  zone_rest : drop k zone_lanes ≡ replicate (length (drop (k + 1) digits)) 0 ++ bit_and units 48 ∷ []
  zone_rest =
      ap (drop k) zone_is
      ∙ drop-append-le k (replicate 15 0) (bit_and units 48 ∷ []) le
      ∙ ap (λ l. l ++ bit_and units 48 ∷ []) (drop-replicate k 15 0 ∙ ap (λ n. replicate n 0) rest_long)

  digits_rest : drop k digits ≡ get_or digits k 0 ∷ drop (k + 1) digits
  digits_rest = drop_more digits k 0 (omega arith)

  even : length (map part digits) ≡ length zone_lanes
  even = length-map digits part ∙ long ∙ sym (ap length zone_is)

  -- the characters as the lanes give them
  pub written_is : drop k (zip2 (λ x y. x + y) (map part digits) zone_lanes) ≡ characters (zone_of units) (drop k digits)
  written_is =
      let bits : bit_and units 48 ≡ 16 * zone_number (zone_of units) = zone_bits units (codes 15 0 (omega arith)) in
      let all : All (λ d. d < 10) (get_or digits k 0 ∷ drop (k + 1) digits) = All-same (λ d. d < 10) (get_or digits k 0 ∷ drop (k + 1) digits) (drop k digits) (sym digits_rest) (All-drop (λ d. d < 10) k digits small) in
      drop_zip2 (λ x y. x + y) k (map part digits) zone_lanes even
      ∙ ap (λ l. zip2 (λ x y. x + y) l (drop k zone_lanes)) (drop-map part k digits ∙ ap (map part) digits_rest)
      ∙ ap (zip2 (λ x y. x + y) (map part (get_or digits k 0 ∷ drop (k + 1) digits))) zone_rest
      ∙ parts_and_zone (zone_of units) (bit_and units 48) (get_or digits k 0) (drop (k + 1) digits) bits all
      ∙ ap (characters (zone_of units)) (sym digits_rest)
