-- sums digit by digit are sums of whole numbers
use Rattle.std.proofs.Common.{◌≡◌, ℕ, zero, suc, ◌+◌, ◌-◌, ◌*◌, ◌/◌, ◌%◌, ◌^◌, ◌<◌, ◌≤◌, ◌==◌, List, [], ◌∷◌, refl, sym, ◌∙◌, ap, arith, length, add-one, if◌then◌else◌, unwrap_or}
use Rattle.std.proofs.Math.Nat.{one-le-pow, pow-suc, add-mul-div_right, add-mul-mod_self_right, div-div-eq-div-mul, mod-lt, mod-one, pow-succ'}
use Rattle.std.proofs.Math.Arith.{mod-mul}
use Rattle.std.proofs.lemmas.Nat.{pow-add, mul-add-lt}
use Rattle.std.proofs.lemmas.Bool.Decides.{nat_tests}
use Rattle.bcd.specs.Table.{digit_of}
use Rattle.bcd.specs.declared.Zone.{Zone}
use Rattle.bcd.specs.declared.Zone.TheVariants.{Bare}
use Rattle.core_store.specs.Storage.{Storage, code_at, codes_ending}
use Rattle.core_store.proofs.Fields.{codes_ending_more, length-codes_ending}
use Rattle.addresses.specs.Digits.{digit_under}
use Rattle.addresses.proofs.DigitLemmas.{digit_of-digit_under}
use Rattle.arith.specs.Decimal.{digit_value, value, spelled}
use Rattle.arith.specs.Joining.{amount_of, total_of}
use Rattle.arith.specs.declared.joining.Joined.{Joined}
use Rattle.arith.specs.declared.joining.Joined.TheVariants.{Sum, Difference, Complement, Copy}

pub ten_pos : (k : ℕ) → 0 < 10 ^ k
ten_pos k = let h : 1 ≤ 10 ^ k = one-le-pow k 10 (omega arith) in omega arith

-- ---- the value of codes

pub digit_value_below : (code : ℕ) → digit_value code < 10
unfolding digit_of
digit_value_below code = grind (arith, nat_tests)

pub value_below : (codes : List ℕ) → value codes < 10 ^ length codes
unfolding value
value_below [] = ten_pos 0
value_below (code ∷ codes) = rw pow-suc (mul-add-lt (digit_value code) (10 ^ length codes) (value codes) 10 (digit_value_below code) (value_below codes))

pub value-codes_ending_more : (s : Storage) (p i : ℕ) → p < length s → i ≤ p → value (codes_ending s p (i + 1)) ≡ digit_value (code_at s (p - i)) * 10 ^ i + value (codes_ending s p i)
unfolding value
value-codes_ending_more s p i h le =
    ap value (codes_ending_more s p i h le)
    ∙ ap (λ n. digit_value (code_at s (p - i)) * 10 ^ n + value (codes_ending s p i)) (length-codes_ending s p i h (omega arith))

-- ---- the digits of a total

digit_kept : (t x P : ℕ) → 0 < P → (t + x * 10 * P) / P % 10 ≡ t / P % 10
digit_kept t x P pos = ap (λ n. n % 10) (add-mul-div_right t (x * 10) pos) ∙ add-mul-mod_self_right (t / P) x 10

product : (x D J : ℕ) → x * (D * (J * 10)) ≡ x * D * 10 * J
product x D J = omega arith

shifted : (x d j : ℕ) → x * 10 ^ (d + suc j) ≡ x * 10 ^ d * 10 * 10 ^ j
shifted x d j = ap (λ n. x * n) (pow-add 10 d (suc j) ∙ ap (λ n. 10 ^ d * n) (pow-suc 10 j)) ∙ product x (10 ^ d) (10 ^ j)

-- what is added above the lowest j digits does not change them
pub spelled_low : (t x d j : ℕ) (zone : Zone) → spelled (t + x * 10 ^ (d + j)) j zone ≡ spelled t j zone
unfolding spelled
spelled_low t x d zero zone = refl
spelled_low t x d (suc j) zone =
    let head : (t + x * 10 ^ (d + suc j)) / 10 ^ j % 10 ≡ t / 10 ^ j % 10 = ap (λ n. (t + n) / 10 ^ j % 10) (shifted x d j) ∙ digit_kept t (x * 10 ^ d) (10 ^ j) (ten_pos j) in
    let exponent : d + suc j ≡ d + 1 + j = omega arith in
    let tail : spelled (t + x * 10 ^ (d + suc j)) j zone ≡ spelled t j zone = ap (λ n. spelled (t + x * 10 ^ n) j zone) exponent ∙ spelled_low t x (d + 1) j zone in
    ap (λ n. digit_under (if j == 0 then zone else Bare) n ∷ spelled (t + x * 10 ^ (d + suc j)) j zone) head
    ∙ ap (λ xs. (digit_under (if j == 0 then zone else Bare) (t / 10 ^ j % 10)) ∷ xs) tail

-- one more place
pub spelled_more : (t c k : ℕ) (zone : Zone) → spelled (t + c * 10 ^ k) (k + 1) zone ≡ (digit_under (if k == 0 then zone else Bare) ((t / 10 ^ k + c) % 10)) ∷ spelled t k zone
unfolding spelled
spelled_more t c k zone =
    let more : k + 1 ≡ suc k = add-one k in
    let low : 0 + k ≡ k = omega arith in
    let tail : spelled (t + c * 10 ^ k) k zone ≡ spelled t k zone = ap (λ n. spelled (t + c * 10 ^ n) k zone) (sym low) ∙ spelled_low t c 0 k zone in
    ap (λ n. spelled (t + c * 10 ^ k) n zone) more
    ∙ ap (λ n. (digit_under (if k == 0 then zone else Bare) (n % 10)) ∷ spelled (t + c * 10 ^ k) k zone) (add-mul-div_right t c (ten_pos k))
    ∙ ap (λ xs. (digit_under (if k == 0 then zone else Bare) ((t / 10 ^ k + c) % 10)) ∷ xs) tail

pub carry_more : (t c k : ℕ) → (t + c * 10 ^ k) / 10 ^ (k + 1) ≡ (t / 10 ^ k + c) / 10
carry_more t c k =
    ap (λ n. (t + c * 10 ^ k) / n) (ap (λ n. 10 ^ n) (add-one k) ∙ pow-suc 10 k)
    ∙ sym (div-div-eq-div-mul (t + c * 10 ^ k) (10 ^ k) 10)
    ∙ ap (λ n. n / 10) (add-mul-div_right t c (ten_pos k))

pub length-spelled : (t k : ℕ) (zone : Zone) → length (spelled t k zone) ≡ k
unfolding spelled
length-spelled t zero zone = refl
length-spelled t (suc k) zone = ap suc (length-spelled t k zone)

-- ---- the total of two numbers

plain_more : (P u v x y : ℕ) → (x * P + u) + (y * P + v) ≡ (u + v) + (x + y) * P
plain_more P u v x y = omega arith

difference_more : (P u v x y e : ℕ) → e + x ≡ 9 → u ≤ P → P * 10 + (y * P + v) - (x * P + u) ≡ (P + v - u) + (e + y) * P
difference_more P u v x y e nine le = let h : (e + x) * P ≡ 9 * P = ap (λ n. n * P) nine in omega arith

complement_more : (P v y e : ℕ) → e + y ≡ 9 → v ≤ P → P * 10 - (y * P + v) ≡ (P - v) + e * P
complement_more P v y e nine le = let h : (e + y) * P ≡ 9 * P = ap (λ n. n * P) nine in omega arith

pub total_more : (joined : Joined) (k u v x y : ℕ) → u ≤ 10 ^ k → v ≤ 10 ^ k → x < 10 → y < 10 →
    total_of joined (k + 1) (x * 10 ^ k + u) (y * 10 ^ k + v) ≡ total_of joined k u v + amount_of joined x y * 10 ^ k
total_more Sum k u v x y hu hv hx hy = plain_more (10 ^ k) u v x y
total_more Difference k u v x y hu hv hx hy =
    ap (λ n. n + (y * 10 ^ k + v) - (x * 10 ^ k + u)) (ap (λ n. 10 ^ n) (add-one k) ∙ pow-suc 10 k)
    ∙ difference_more (10 ^ k) u v x y (9 - x) (omega arith) hu
total_more Complement k u v x y hu hv hx hy =
    ap (λ n. n - (y * 10 ^ k + v)) (ap (λ n. 10 ^ n) (add-one k) ∙ pow-suc 10 k)
    ∙ complement_more (10 ^ k) v y (9 - y) (omega arith) hv
total_more Copy k u v x y hu hv hx hy = let swapped : x * 10 ^ k + u ≡ u + x * 10 ^ k = omega arith in swapped

-- ---- what is spelled is read again

value-digit_under : (zone : Zone) (digit : ℕ) → digit < 10 → digit_value (digit_under zone digit) ≡ digit
value-digit_under zone digit h = ap (λ found. unwrap_or found 0) (digit_of-digit_under zone digit h)

pub value-spelled : (t k : ℕ) (zone : Zone) → value (spelled t k zone) ≡ t % 10 ^ k
unfolding value spelled
value-spelled t zero zone = sym (mod-one t)
value-spelled t (suc k) zone =
    let digit : t / 10 ^ k % 10 < 10 = mod-lt (t / 10 ^ k) {m = 10} (omega arith) in
    let ten : 0 < 10 = omega arith in
    ap (λ n. n * 10 ^ length (spelled t k zone) + value (spelled t k zone)) (value-digit_under (if k == 0 then zone else Bare) (t / 10 ^ k % 10) digit)
    ∙ ap (λ n. t / 10 ^ k % 10 * 10 ^ n + value (spelled t k zone)) (length-spelled t k zone)
    ∙ ap (λ n. t / 10 ^ k % 10 * 10 ^ k + n) (value-spelled t k zone)
    ∙ sym (ap (λ n. t % n) (pow-succ' 10 k) ∙ mod-mul t ten (ten_pos k))

-- the digits of a total of one more than the places hold
pub spelled-over : (t k : ℕ) (zone : Zone) → spelled (10 ^ k + t) k zone ≡ spelled t k zone
spelled-over t k zone =
    let swapped : 10 ^ k + t ≡ t + 1 * 10 ^ k = omega arith in
    let low : 0 + k ≡ k = omega arith in
    ap (λ n. spelled n k zone) swapped ∙ ap (λ n. spelled (t + 1 * 10 ^ n) k zone) (sym low) ∙ spelled_low t 1 0 k zone
