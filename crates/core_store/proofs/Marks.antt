-- the nearest mark to the left and to the right
use Rattle.std.proofs.Common.{◌≡◌, ℕ, zero, suc, ◌+◌, ◌<◌, ◌≤◌, Bool, true, false, Option, Some, None, refl, ap, arith, if◌then◌else◌, length}
use Rattle.std.proofs.lemmas.List.{get_or_past}
use Rattle.std.proofs.Math.Decide.{dec_lt}
use Rattle.core_store.specs.Storage.{Storage, is_marked, greatest_mark, least_mark, GreatestMark, LeastMark}

pub past_end : (s : Storage) (p : ℕ) → length s ≤ p → is_marked s p ≡ false
past_end s p h = ap (λ c. c.1) (get_or_past s p (0, false) h)

pub none_below : (s : Storage) (p : ℕ) → ((k : ℕ) → k ≤ p → is_marked s k ≡ false) → greatest_mark s p ≡ None
unfolding greatest_mark
none_below s zero h = rw (h 0 (omega arith)) refl
none_below s (suc p) h = rw (h (suc p) (omega arith)) (none_below s p (λ k le. h k (omega arith)))

pub greatest_is : (s : Storage) (p q : ℕ) → is_marked s q ≡ true → q ≤ p → ((k : ℕ) → q < k → k ≤ p → is_marked s k ≡ false) → greatest_mark s p ≡ Some q
unfolding greatest_mark
greatest_is s zero q m le h = let here : q ≡ 0 = omega arith in let marked : is_marked s 0 ≡ true = rw here at m in rw (marked, here) refl
greatest_is s (suc p) q m le h =
    elim (dec_lt p q) [
      | yes above ↦ let here : q ≡ suc p = omega arith in let marked : is_marked s (suc p) ≡ true = rw here at m in rw (marked, here) refl
      | no below ↦ rw (h (suc p) (omega arith) (omega arith)) (greatest_is s p q m (omega arith) (λ k lt le'. h k lt (omega arith)))
    ]

pub none_among : (s : Storage) (p count : ℕ) → ((k : ℕ) → p ≤ k → k < p + count → is_marked s k ≡ false) → least_mark s p count ≡ None
unfolding least_mark
none_among s p zero h = refl
none_among s p (suc count) h = rw (h p (omega arith) (omega arith)) (none_among s (p + 1) count (λ k le lt. h k (omega arith) (omega arith)))

pub least_is : (s : Storage) (p count q : ℕ) → p ≤ q → q < p + count → is_marked s q ≡ true → ((k : ℕ) → p ≤ k → k < q → is_marked s k ≡ false) → least_mark s p count ≡ Some q
unfolding least_mark
least_is s p zero q le lt m h = absurd (omega arith)
least_is s p (suc count) q le lt m h =
    elim (dec_lt p q) [
      | yes after ↦ rw (h p (omega arith) after) (least_is s (p + 1) count q (omega arith) (omega arith) m (λ k le' lt'. h k (omega arith) lt'))
      | no below ↦ let here : q ≡ p = omega arith in let marked : is_marked s p ≡ true = rw here at m in rw (marked, here) refl
    ]

at_top : (s : Storage) (p : ℕ) → is_marked s (suc p) ≡ false → (k : ℕ) → k ≤ suc p → (k ≤ p → is_marked s k ≡ false) → is_marked s k ≡ false
at_top s p m k le h =
    elim (dec_lt p k) [
      | yes above ↦ let here : k ≡ suc p = omega arith in rw here m
      | no below ↦ h (omega arith)
    ]

one_more : (s : Storage) (p : ℕ) (b : Bool) (found : Option ℕ) → is_marked s (suc p) ≡ b → GreatestMark s p found → GreatestMark s (suc p) (if b then Some (suc p) else found)
one_more s p true found m h = record { marked = m; not_above = omega arith; none_between = λ k lt le. absurd (omega arith) }
one_more s p false None m h = λ k le. at_top s p m k le (h k)
one_more s p false (Some q) m h =
    record { marked = h.marked; not_above = omega (arith, h.not_above); none_between = λ k lt le. at_top s p m k le (h.none_between k lt) }

first : (s : Storage) (b : Bool) → is_marked s 0 ≡ b → GreatestMark s 0 (if b then Some 0 else None)
first s true m = record { marked = m; not_above = omega arith; none_between = λ k lt le. absurd (omega arith) }
first s false m = λ k le. let here : k ≡ 0 = omega arith in rw here m

pub greatest_is_greatest : (s : Storage) (p : ℕ) → GreatestMark s p (greatest_mark s p)
unfolding greatest_mark
greatest_is_greatest s zero = first s (is_marked s 0) refl
greatest_is_greatest s (suc p) = one_more s p (is_marked s (suc p)) (greatest_mark s p) refl (greatest_is_greatest s p)

before : (s : Storage) (p count k : ℕ) → is_marked s p ≡ false → p ≤ k → (p + 1 ≤ k → is_marked s k ≡ false) → is_marked s k ≡ false
before s p count k m le h =
    elim (dec_lt p k) [
      | yes after ↦ h (omega arith)
      | no here ↦ let same : k ≡ p = omega arith in rw same m
    ]

one_before : (s : Storage) (p count : ℕ) (b : Bool) (found : Option ℕ) → is_marked s p ≡ b → LeastMark s (p + 1) count found → LeastMark s p (suc count) (if b then Some p else found)
one_before s p count true found m h = record { marked = m; not_below = omega arith; among = omega arith; none_before = λ k le lt. absurd (omega arith) }
one_before s p count false None m h = λ k le lt. before s p count k m le (λ later. h k later (omega arith))
one_before s p count false (Some q) m h =
    record {
      marked = h.marked;
      not_below = omega (arith, h.not_below);
      among = omega (arith, h.among);
      none_before = λ k le lt. before s p count k m le (λ later. h.none_before k later lt);
    }

pub least_is_least : (s : Storage) (p count : ℕ) → LeastMark s p count (least_mark s p count)
unfolding least_mark
least_is_least s p zero = λ k le lt. absurd (omega arith)
least_is_least s p (suc count) = one_before s p count (is_marked s p) (least_mark s (p + 1) count) refl (least_is_least s (p + 1) count)
