-- lists of characters compared from the left
use Rattle.std.proofs.Common.{◌≡◌, ℕ, zero, suc, ◌+◌, ◌-◌, ◌<◌, ◌≤◌, List, [], ◌∷◌, refl, sym, ◌∙◌, ap, arith, length, get_or, if◌then◌else◌, ltb}
use Rattle.std.proofs.Math.Decide.{dec_lt}
use Rattle.std.proofs.lemmas.Bool.{lt-ltb, le-ltb}
use Rattle.bcd.specs.Table.{rank_of}
use Rattle.core_store.specs.Storage.{Storage, code_at, codes_ending}
use Rattle.core_store.specs.declared.registers.Compared.{Compared}
use Rattle.core_store.specs.declared.registers.Compared.TheVariants.{Equal, Low, High}
use Rattle.core_store.proofs.Fields.{codes_ending_more, codes_ending-none, length-codes_ending}
use Rattle.arith.specs.Order.{order, comparison, IsFirstDifference, IsOrder}
use Rattle.arith.specs.Operands.{AreCounts}
use Rattle.arith.specs.declared.operands.Counts.{Counts}

-- ---- the first difference decides

module _ (x y : ℕ) (xs ys : List ℕ) where
  pub order_low : rank_of y < rank_of x → order (x ∷ xs) (y ∷ ys) ≡ Low
  unfolding order
  order_low h = rw (lt-ltb (rank_of y) (rank_of x) h) refl

  pub order_high : rank_of x < rank_of y → order (x ∷ xs) (y ∷ ys) ≡ High
  unfolding order
  order_high h = let other : rank_of x ≤ rank_of y = omega arith in rw (le-ltb (rank_of y) (rank_of x) other, lt-ltb (rank_of x) (rank_of y) h) refl

  pub order_rest : rank_of x ≤ rank_of y → rank_of y ≤ rank_of x → order (x ∷ xs) (y ∷ ys) ≡ order xs ys
  unfolding order
  order_rest h k = rw (le-ltb (rank_of y) (rank_of x) h, le-ltb (rank_of x) (rank_of y) k) refl

  same_longer : rank_of x ≡ rank_of y → (n : ℕ) → ((k : ℕ) → k < n → rank_of (get_or xs k 0) ≡ rank_of (get_or ys k 0)) →
      (k : ℕ) → k < suc n → rank_of (get_or (x ∷ xs) k 0) ≡ rank_of (get_or (y ∷ ys) k 0)
  same_longer e n h zero lt = e
  same_longer e n h (suc k) lt = h k (omega arith)

  first_longer : rank_of x ≡ rank_of y → (place : ℕ) → IsFirstDifference xs ys place → IsFirstDifference (x ∷ xs) (y ∷ ys) (suc place)
  first_longer e place h = record { inside = omega (arith, h.inside); same = same_longer e place h.same }

  longer : rank_of x ≡ rank_of y → (o : Compared) → IsOrder xs ys o → IsOrder (x ∷ xs) (y ∷ ys) o
  longer e Equal h = same_longer e (length xs) h
  longer e Low (place, first, lower) = (suc place, first_longer e place first, lower)
  longer e High (place, first, lower) = (suc place, first_longer e place first, lower)

  at_once : IsFirstDifference (x ∷ xs) (y ∷ ys) 0
  at_once = record { inside = omega arith; same = λ k lt. absurd (omega arith) }

pub order_is : (a b : List ℕ) → length a ≡ length b → IsOrder a b (order a b)
unfolding order
order_is [] [] e = λ k lt. absurd (omega arith)
order_is [] (y ∷ ys) e = absurd (omega arith)
order_is (x ∷ xs) [] e = absurd (omega arith)
order_is (x ∷ xs) (y ∷ ys) e =
    elim (dec_lt (rank_of y) (rank_of x)) [
      | yes low ↦ rw (order_low x y xs ys low) (0, at_once x y xs ys, low)
      | no not_low ↦
          let h : rank_of x ≤ rank_of y = omega arith in
          elim (dec_lt (rank_of x) (rank_of y)) [
            | yes high ↦ rw (order_high x y xs ys high) (0, at_once x y xs ys, high)
            | no not_high ↦
                let k : rank_of y ≤ rank_of x = omega arith in
                let same : rank_of x ≡ rank_of y = omega arith in
                let rest : length xs ≡ length ys = omega arith in
                rw (order_rest x y xs ys h k) (longer x y xs ys same (order xs ys) (order_is xs ys rest))
          ]
    ]

-- ---- one place of two fields

module _ (s : Storage) (a b left next : ℕ) (a_in : a < length s) (b_in : b < length s) (a_from : left ≤ a) (b_from : left ≤ b) (one : next ≡ left + 1) where
  orders_are : order (codes_ending s a next) (codes_ending s b next) ≡ order (code_at s (a - left) ∷ codes_ending s a left) (code_at s (b - left) ∷ codes_ending s b left)
  orders_are =
      ap (λ n. order (codes_ending s a n) (codes_ending s b n)) one
      ∙ ap (λ xs. order xs (codes_ending s b (left + 1))) (codes_ending_more s a left a_in a_from)
      ∙ ap (λ ys. order (code_at s (a - left) ∷ codes_ending s a left) ys) (codes_ending_more s b left b_in b_from)

  -- the place by the two ranks
  module _ (rank_a rank_b : ℕ) (is_a : rank_a ≡ rank_of (code_at s (a - left))) (is_b : rank_b ≡ rank_of (code_at s (b - left))) where
    pub place_low : (whole : Compared) → whole ≡ order (codes_ending s a next) (codes_ending s b next) → rank_b < rank_a → Low ≡ whole
    place_low whole rest h = sym (rest ∙ orders_are ∙ order_low _ _ _ _ (omega (arith, is_a, is_b, h)))

    pub place_high : (whole : Compared) → whole ≡ order (codes_ending s a next) (codes_ending s b next) → rank_a < rank_b → High ≡ whole
    place_high whole rest h = sym (rest ∙ orders_are ∙ order_high _ _ _ _ (omega (arith, is_a, is_b, h)))

    pub place_rest : (whole : Compared) → whole ≡ order (codes_ending s a next) (codes_ending s b next) → rank_a ≤ rank_b → rank_b ≤ rank_a →
        whole ≡ order (codes_ending s a left) (codes_ending s b left)
    place_rest whole rest h k = rest ∙ orders_are ∙ order_rest _ _ _ _ (omega (arith, is_a, is_b, h)) (omega (arith, is_a, is_b, k))

pub order_none : (s : Storage) (a b left : ℕ) → left ≡ 0 → order (codes_ending s a left) (codes_ending s b left) ≡ Equal
unfolding order
order_none s a b left e =
    ap (λ n. order (codes_ending s a n) (codes_ending s b n)) e
    ∙ ap (λ xs. order xs (codes_ending s b 0)) (codes_ending-none s a)
    ∙ ap (λ ys. order [] ys) (codes_ending-none s b)

-- ---- a shorter field

module _ (s : Storage) (a b : ℕ) (counts : Counts) (known : AreCounts s a b counts.a counts.b) where
  abbrev A : List ℕ
  A = codes_ending s a counts.a

  abbrev B : List ℕ
  B = codes_ending s b counts.b

  by_counts : comparison A B ≡ (if ltb counts.a counts.b then High else order A B)
  by_counts =
      ap (λ n. if ltb n (length B) then High else order A B) (length-codes_ending s a counts.a known.a_in known.a_from)
      ∙ ap (λ n. if ltb counts.a n then High else order A B) (length-codes_ending s b counts.b known.b_in known.b_from)

  pub comparison_shorter : counts.a < counts.b → comparison A B ≡ High
  comparison_shorter h = by_counts ∙ ap (λ t. if t then High else order A B) (lt-ltb counts.a counts.b h)

  pub comparison_same : counts.b ≤ counts.a → order (codes_ending s a counts.b) B ≡ comparison A B
  comparison_same h =
      let same : counts.b ≡ counts.a = omega (arith, known.cut, h) in
      sym (by_counts ∙ ap (λ t. if t then High else order A B) (le-ltb counts.a counts.b h) ∙ ap (λ n. order (codes_ending s a n) B) (sym same))
