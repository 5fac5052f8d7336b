-- the first of sixteen characters that differ
use Rattle.std.proofs.Common.{◌≡◌, ◌≢◌, ℕ, zero, suc, ◌+◌, ◌-◌, ◌*◌, ◌/◌, ◌^◌, ◌<◌, ◌≤◌, All, Bool, true, false, cond, not, eqb, List, [], ◌∷◌, refl, sym, ◌∙◌, ap, arith, length, get_or, drop, map}
use Rattle.std.specs.Simd.Lanes.{mask_l, zip2, chunk}
use Rattle.std.specs.Int.Count.{count_trailing_zeros}
use Rattle.std.specs.List.{prefix_len}
use Rattle.std.proofs.Math.Decide.{dec_lt}
use Rattle.std.proofs.Math.Nat.{div-one, zero-div, pow-succ', div-div-eq-div-mul}
use Rattle.std.proofs.lemmas.Bool.{eqb-true, eq-eqb}
use Rattle.std.proofs.lemmas.List.{ext_get_or, map-id, take_all, length-drop, get_or-drop}
use Rattle.std.proofs.lemmas.Simd.{length-chunk, length-zip2, get_or-zip2, trailing_mask_l, run_in_chunk_fails, run_in_chunk_stops, none_from_empty_mask}
use Rattle.bcd.specs.Table.{rank_of}
use Rattle.bcd.proofs.Tables.{ranks_differ}
use Rattle.core_store.specs.Storage.{Storage, code_at, codes_ending}
use Rattle.core_store.specs.declared.registers.Compared.TheVariants.{Equal, Low, High}
use Rattle.core_store.proofs.Fields.{length-codes_ending}
use Rattle.core_store.proofs.NearCodes.{code-codes_ending}
use Rattle.arith.specs.Order.{order}
use Rattle.arith.proofs.RankOrders.{order_low, order_high, order_rest}

-- ---- lists that are the same up to a place

order_self : (xs : List ℕ) → order xs xs ≡ Equal
unfolding order
order_self [] = refl
order_self (x ∷ xs) = order_rest x x xs xs (omega arith) (omega arith) ∙ order_self xs

pub order_same : (xs ys : List ℕ) → length xs ≡ length ys → ((j : ℕ) → j < length xs → get_or xs j 0 ≡ get_or ys j 0) → order xs ys ≡ Equal
order_same xs ys long same = ap (order xs) (sym (ext_get_or 0 xs ys long same)) ∙ order_self xs

skip_one : (x y : ℕ) (xs ys : List ℕ) → x ≡ y → order (x ∷ xs) (y ∷ ys) ≡ order xs ys
skip_one x y xs ys e = let same : rank_of x ≡ rank_of y = ap rank_of e in order_rest x y xs ys (omega arith) (omega arith)

pub order_low_at : (xs ys : List ℕ) (place : ℕ) → place < length xs → place < length ys → ((j : ℕ) → j < place → get_or xs j 0 ≡ get_or ys j 0) →
    rank_of (get_or ys place 0) < rank_of (get_or xs place 0) → order xs ys ≡ Low
order_low_at [] ys place lt lt' same h = absurd (omega arith)
order_low_at (x ∷ xs) [] place lt lt' same h = absurd (omega arith)
order_low_at (x ∷ xs) (y ∷ ys) zero lt lt' same h = order_low x y xs ys h
order_low_at (x ∷ xs) (y ∷ ys) (suc place) lt lt' same h =
    skip_one x y xs ys (same 0 (omega arith)) ∙ order_low_at xs ys place (omega arith) (omega arith) (λ j before. same (suc j) (omega arith)) h

pub order_high_at : (xs ys : List ℕ) (place : ℕ) → place < length xs → place < length ys → ((j : ℕ) → j < place → get_or xs j 0 ≡ get_or ys j 0) →
    rank_of (get_or xs place 0) < rank_of (get_or ys place 0) → order xs ys ≡ High
order_high_at [] ys place lt lt' same h = absurd (omega arith)
order_high_at (x ∷ xs) [] place lt lt' same h = absurd (omega arith)
order_high_at (x ∷ xs) (y ∷ ys) zero lt lt' same h = order_high x y xs ys h
order_high_at (x ∷ xs) (y ∷ ys) (suc place) lt lt' same h =
    skip_one x y xs ys (same 0 (omega arith)) ∙ order_high_at xs ys place (omega arith) (omega arith) (λ j before. same (suc j) (omega arith)) h

-- ---- masks

half : (b : Bool) (n : ℕ) → (cond b 1 0 + 2 * n) / 2 ≡ n
half true n = omega arith
half false n = omega arith

-- a mask without its lowest bits
pub mask_drop : (ms : List Bool) (k : ℕ) → mask_l ms / 2 ^ k ≡ mask_l (drop k ms)
mask_drop ms zero = div-one (mask_l ms)
mask_drop [] (suc k) = zero-div (2 ^ suc k)
mask_drop (m ∷ ms) (suc k) =
    ap (λ n. mask_l (m ∷ ms) / n) (pow-succ' 2 k) ∙ sym (div-div-eq-div-mul (mask_l (m ∷ ms)) 2 (2 ^ k)) ∙ ap (λ n. n / 2 ^ k) (half m (mask_l ms)) ∙ mask_drop ms k

mask_none : (ms : List Bool) → ((j : ℕ) → j < length ms → get_or ms j false ≡ false) → mask_l ms ≡ 0
mask_none [] none = refl
mask_none (m ∷ ms) none =
    let rest : mask_l ms ≡ 0 = mask_none ms (λ j lt. none (suc j) (omega arith)) in
    ap (λ b. cond b 1 0 + 2 * mask_l ms) (none 0 (omega arith)) ∙ ap (λ n. 0 + 2 * n) rest

not_other : (b : Bool) → not b ≡ false → b ≡ true
not_other true h = refl
not_other false h = absurd (cc)

equal_is : (x y : ℕ) → not (eqb x y) ≡ false → x ≡ y
equal_is x y h = eqb-true x y (not_other (eqb x y) h)

differ_is : (x y : ℕ) → not (eqb x y) ≡ true → x ≢ y
differ_is x y h e =
    let clash : true ≡ false = sym h ∙ ap not (eq-eqb x y e) in
    absurd (cc)

-- ---- two sequences of at most sixteen characters

module _ (s : Storage) (a b count mask : ℕ) (a_in : a < length s) (b_in : b < length s) (a_room : 15 ≤ a) (b_room : 15 ≤ b) (some : 1 ≤ count) (most : count ≤ 16)
    (is : mask ≡ mask_l (zip2 (λ x y. not (eqb x y)) (codes_ending s a 16) (codes_ending s b 16))) where
  abbrev X : List ℕ
  X = codes_ending s a 16

  abbrev Y : List ℕ
  Y = codes_ending s b 16

  abbrev A : List ℕ
  A = codes_ending s a count

  abbrev B : List ℕ
  B = codes_ending s b count

  abbrev ms : List Bool
  ms = zip2 (λ x y. not (eqb x y)) (codes_ending s a 16) (codes_ending s b 16)

  abbrev high : ℕ
  high = mask / 2 ^ (16 - count)

  abbrev zeros : ℕ
  zeros = count_trailing_zeros 64 (mask / 2 ^ (16 - count))

  x_long : length X ≡ 16
  x_long = length-codes_ending s a 16 a_in (omega arith)

  y_long : length Y ≡ 16
  y_long = length-codes_ending s b 16 b_in (omega arith)

  a_long : length A ≡ count
  a_long = length-codes_ending s a count a_in (omega arith)

  b_long : length B ≡ count
  b_long = length-codes_ending s b count b_in (omega arith)

  long : length ms ≡ 16
  long = length-zip2 (λ x y. not (eqb x y)) X Y (x_long ∙ sym y_long) ∙ x_long

  rest : map (λ m. m) (chunk (16 - count) count ms) ≡ drop (16 - count) ms
  rest = map-id (chunk (16 - count) count ms) ∙ take_all count (drop (16 - count) ms) (omega (arith, long, length-drop (16 - count) ms))

  high_is : high ≡ mask_l (map (λ m. m) (chunk (16 - count) count ms))
  high_is = ap (λ n. n / 2 ^ (16 - count)) is ∙ mask_drop ms (16 - count) ∙ ap mask_l (sym rest)

  -- the character at a place of both
  in_a : (j : ℕ) → j < count → get_or A j 0 ≡ get_or X (16 - count + j) 0
  in_a j lt =
      let same : a + 1 - count + j ≡ a - 15 + (16 - count + j) = omega arith in
      code-codes_ending s a count (a + 1 - count) j (omega arith) a_in lt ∙ ap (code_at s) same ∙ sym (code-codes_ending s a 16 (a - 15) (16 - count + j) (omega arith) a_in (omega arith))

  in_b : (j : ℕ) → j < count → get_or B j 0 ≡ get_or Y (16 - count + j) 0
  in_b j lt =
      let same : b + 1 - count + j ≡ b - 15 + (16 - count + j) = omega arith in
      code-codes_ending s b count (b + 1 - count) j (omega arith) b_in lt ∙ ap (code_at s) same ∙ sym (code-codes_ending s b 16 (b - 15) (16 - count + j) (omega arith) b_in (omega arith))

  bit : (j : ℕ) → j < count → get_or ms (16 - count + j) false ≡ not (eqb (get_or A j 0) (get_or B j 0))
  bit j lt =
      get_or-zip2 (λ x y. not (eqb x y)) X Y (16 - count + j) 0 0 false (omega (arith, x_long)) (omega (arith, y_long))
      ∙ ap (λ x. not (eqb x (get_or Y (16 - count + j) 0))) (sym (in_a j lt)) ∙ ap (λ y. not (eqb (get_or A j 0) y)) (sym (in_b j lt))

  pub order_equal : high ≡ 0 → Equal ≡ order A B
  order_equal none =
      sym (order_same A B (a_long ∙ sym b_long)
      (λ j lt. equal_is (get_or A j 0) (get_or B j 0)
      (sym (bit j (omega (arith, a_long)))
      ∙ none_from_empty_mask (λ m. m) ms (16 - count) count false (omega (arith, long)) (sym high_is ∙ none) (16 - count + j) (omega arith) (omega (arith, a_long)))))

  module _ (differ : high ≢ 0) where
    counted : zeros ≡ prefix_len (λ m. not m) (chunk (16 - count) count ms)
    counted =
        ap (count_trailing_zeros 64) high_is
        ∙ trailing_mask_l (λ m. m) 64 (chunk (16 - count) count ms) (omega (arith, length-chunk (16 - count) count ms (omega (arith, long)))) (omega (arith, differ, high_is))

    clear : (j : ℕ) → j < zeros → j < count → get_or A j 0 ≡ get_or B j 0
    clear j lt lt' =
        equal_is (get_or A j 0) (get_or B j 0)
        (sym (bit j lt') ∙ run_in_chunk_fails (λ m. m) ms (16 - count) count zeros false (omega (arith, long)) counted (16 - count + j) (omega arith) (omega arith))

    pub inside : zeros < count
    inside =
        elim (dec_lt zeros count) [
          | yes lt ↦ lt
          | no all ↦
              let none : mask_l (drop (16 - count) ms) ≡ 0 =
              mask_none (drop (16 - count) ms) (λ j lt. let among : j < count = omega (arith, long, length-drop (16 - count) ms) in
              get_or-drop (16 - count) ms j false ∙ run_in_chunk_fails (λ m. m) ms (16 - count) count zeros false (omega (arith, long)) counted (16 - count + j) (omega arith) (omega arith)) in
              absurd (differ (high_is ∙ ap mask_l rest ∙ none))
        ]

    set : get_or A zeros 0 ≢ get_or B zeros 0
    set =
        differ_is (get_or A zeros 0) (get_or B zeros 0)
        (sym (bit zeros inside) ∙ run_in_chunk_stops (λ m. m) ms (16 - count) count zeros false (omega (arith, long)) counted inside)

    a_there : get_or A zeros 0 ≡ code_at s (a - (count - 1 - zeros))
    a_there =
        let place : a + 1 - count + zeros ≡ a - (count - 1 - zeros) = omega (arith, inside) in
        code-codes_ending s a count (a + 1 - count) zeros (omega arith) a_in inside ∙ ap (code_at s) place

    b_there : get_or B zeros 0 ≡ code_at s (b - (count - 1 - zeros))
    b_there =
        let place : b + 1 - count + zeros ≡ b - (count - 1 - zeros) = omega (arith, inside) in
        code-codes_ending s b count (b + 1 - count) zeros (omega arith) b_in inside ∙ ap (code_at s) place

    module _ (rank_a rank_b : ℕ) (is_a : rank_a ≡ rank_of (code_at s (a - (count - 1 - zeros)))) (is_b : rank_b ≡ rank_of (code_at s (b - (count - 1 - zeros)))) where
      ranked_a : rank_a ≡ rank_of (get_or A zeros 0)
      ranked_a = is_a ∙ ap rank_of (sym a_there)

      ranked_b : rank_b ≡ rank_of (get_or B zeros 0)
      ranked_b = is_b ∙ ap rank_of (sym b_there)

      pub lower : rank_b < rank_a → Low ≡ order A B
      lower h =
          sym (order_low_at A B zeros (omega (arith, a_long, inside)) (omega (arith, b_long, inside)) (λ j lt. clear j lt (omega (arith, inside))) (omega (arith, ranked_a, ranked_b, h)))

      pub higher : All (λ code. code < 64) X → All (λ code. code < 64) Y → rank_a ≤ rank_b → High ≡ order A B
      higher all_a all_b h =
          let small_a : get_or A zeros 0 < 64 = rw (in_a zeros inside) (all_a (16 - count + zeros) 0 (omega (arith, x_long, inside))) in
          let small_b : get_or B zeros 0 < 64 = rw (in_b zeros inside) (all_b (16 - count + zeros) 0 (omega (arith, y_long, inside))) in
          elim (dec_lt rank_a rank_b) [
            | yes lt ↦
                sym (order_high_at A B zeros (omega (arith, a_long, inside)) (omega (arith, b_long, inside)) (λ j before. clear j before (omega (arith, inside))) (omega (arith, ranked_a, ranked_b, lt)))
            | no ge ↦
                let same : rank_of (get_or A zeros 0) ≡ rank_of (get_or B zeros 0) = omega (arith, ranked_a, ranked_b, h, ge) in
                absurd (set (ranks_differ (get_or A zeros 0) (get_or B zeros 0) small_a small_b same))
          ]
