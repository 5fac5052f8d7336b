-- one place of a sum in a storage
use Rattle.std.proofs.Common.{◌≡◌, ℕ, ◌+◌, ◌-◌, ◌*◌, ◌/◌, ◌%◌, ◌^◌, ◌<◌, ◌≤◌, ◌==◌, ◌⊎◌, inl, inr, false, List, [], ◌∷◌, refl, sym, ◌∙◌, ap, arith, length, min, if◌then◌else◌, ltb, leb, []}
use Rattle.std.proofs.Math.Nat.{pow-le-pow_right, div-one, div-eq_of_lt}
use Rattle.std.proofs.Math.Decide.{dec_lt}
use Rattle.std.proofs.lemmas.Bool.{lt-ltb, le-ltb, lt-leb, le-leb}
use Rattle.std.proofs.lemmas.Nat.{le-div}
use Rattle.addresses.specs.Digits.{digit_under}
use Rattle.bcd.specs.declared.Zone.{Zone}
use Rattle.bcd.specs.declared.Zone.TheVariants.{Bare}
use Rattle.core_store.specs.Storage.{Storage, code_at, codes_ending, put, put_codes}
use Rattle.core_store.proofs.Fields.{codes_ending-none, length-codes_ending, cell-put_codes_below, cell-put_codes_above}
use Rattle.arith.specs.Decimal.{digit_value, value, spelled}
use Rattle.core_store.specs.Operands.{is_overlapping}
use Rattle.core_store.proofs.OperandCuts.{not_overlapping}
use Rattle.arith.specs.Joining.{amount_of, total_of, joined_total, digit_from}
use Rattle.arith.specs.declared.joining.Joined.{Joined}
use Rattle.arith.proofs.SumDigits.{ten_pos, digit_value_below, value_below, value-codes_ending_more, spelled_more, carry_more, length-spelled, total_more}

digit_inside : (s : Storage) (p count i : ℕ) → i < count → digit_from s p count i ≡ digit_value (code_at s (p - i))
digit_inside s p count i h = ap (λ b. if b then digit_value (code_at s (p - i)) else 0) (lt-ltb i count h)

digit_outside : (s : Storage) (p count i : ℕ) → count ≤ i → digit_from s p count i ≡ 0
digit_outside s p count i h = ap (λ b. if b then digit_value (code_at s (p - i)) else 0) (le-ltb i count h)

inside_step : (v : ℕ → ℕ) (P d digit i count : ℕ) → i < count → digit ≡ d → v (i + 1) ≡ d * P + v i → v (min (i + 1) count) ≡ digit * P + v (min i count)
inside_step v P d digit i count lt same step =
    let more : min (i + 1) count ≡ i + 1 = omega arith in
    let here : min i count ≡ i = omega arith in
    rw (more, here, same) step

outside_step : (v : ℕ → ℕ) (P digit i count : ℕ) → count ≤ i → digit ≡ 0 → v (min (i + 1) count) ≡ digit * P + v (min i count)
outside_step v P digit i count le same =
    let more : min (i + 1) count ≡ count = omega arith in
    let here : min i count ≡ count = omega arith in
    rw (more, here, same) (omega arith)

module _ (s : Storage) (p : ℕ) (within : p < length s) where
  value_bound : (count i : ℕ) → count ≤ p + 1 → count ≤ i → value (codes_ending s p count) ≤ 10 ^ i
  value_bound count i le more =
      let below : value (codes_ending s p count) < 10 ^ length (codes_ending s p count) = value_below (codes_ending s p count) in
      let long : 10 ^ length (codes_ending s p count) ≡ 10 ^ count = ap (λ n. 10 ^ n) (length-codes_ending s p count within le) in
      let grows : 10 ^ count ≤ 10 ^ i = pow-le-pow_right (omega arith) more in
      omega arith

  -- one more digit, or a 0 to the left of all
  value_step : (count i : ℕ) → count ≤ p + 1 → value (codes_ending s p (min (i + 1) count)) ≡ digit_from s p count i * 10 ^ i + value (codes_ending s p (min i count))
  value_step count i le =
      elim (dec_lt i count) [
        | yes lt ↦ inside_step (λ n. value (codes_ending s p n)) (10 ^ i) (digit_value (code_at s (p - i))) (digit_from s p count i) i count lt (digit_inside s p count i lt) (value-codes_ending_more s p i within (omega arith))
        | no past ↦ let out : count ≤ i = omega arith in outside_step (λ n. value (codes_ending s p n)) (10 ^ i) (digit_from s p count i) i count out (digit_outside s p count i out)
      ]

  digit_from_below : (count i : ℕ) → digit_from s p count i < 10
  digit_from_below count i =
      elim (dec_lt i count) [
        | yes lt ↦ rw (digit_inside s p count i lt) (digit_value_below (code_at s (p - i)))
        | no past ↦ let out : count ≤ i = omega arith in rw (digit_outside s p count i out) (omega arith)
      ]

-- what is read at B to the left of what was put
b_read : (s : Storage) (b i : ℕ) (codes : List ℕ) → i ≤ b → code_at (put_codes s (b + 1 - i) codes) (b - i) ≡ code_at s (b - i)
b_read s b i codes le = ap (λ c. c.0) (cell-put_codes_below s (b + 1 - i) codes (b - i) (omega arith))

a_read_inside : (s : Storage) (a count b i : ℕ) (codes : List ℕ) → length codes ≡ i → i ≤ b → i < count → count ≤ a + 1 → (a ≤ b) ⊎ (count ≤ a - b) →
    code_at (put_codes s (b + 1 - i) codes) (a - i) ≡ code_at s (a - i)
a_read_inside s a count b i codes long le lt from (inl before) = ap (λ c. c.0) (cell-put_codes_below s (b + 1 - i) codes (a - i) (omega arith))
a_read_inside s a count b i codes long le lt from (inr after) = ap (λ c. c.0) (cell-put_codes_above s (b + 1 - i) codes (a - i) (omega arith))

a_read : (s : Storage) (a count b i : ℕ) (codes : List ℕ) → length codes ≡ i → i ≤ b → count ≤ a + 1 → is_overlapping a b count ≡ false →
    digit_from (put_codes s (b + 1 - i) codes) a count i ≡ digit_from s a count i
a_read s a count b i codes long le from apart =
    let now = put_codes s (b + 1 - i) codes in
    elim (dec_lt i count) [
      | yes lt ↦ digit_inside now a count i lt ∙ ap digit_value (a_read_inside s a count b i codes long le lt from (not_overlapping a b count apart)) ∙ sym (digit_inside s a count i lt)
      | no past ↦ let out : count ≤ i = omega arith in digit_outside now a count i out ∙ sym (digit_outside s a count i out)
    ]

module _ (joined : Joined) (s : Storage) (a a_count b i : ℕ) (a_in : a < length s) (b_in : b < length s) (a_from : a_count ≤ a + 1) (i_from : i ≤ b) where
  -- the total of one more place
  total_step : joined_total joined s a (min (i + 1) a_count) b (i + 1) ≡ joined_total joined s a (min i a_count) b i + amount_of joined (digit_from s a a_count i) (digit_value (code_at s (b - i))) * 10 ^ i
  unfolding joined_total
  total_step =
      ap (λ n. total_of joined (i + 1) n (value (codes_ending s b (i + 1)))) (value_step s a a_in a_count i a_from)
      ∙ ap (λ n. total_of joined (i + 1) (digit_from s a a_count i * 10 ^ i + value (codes_ending s a (min i a_count))) n) (value-codes_ending_more s b i b_in i_from)
      ∙ total_more joined i (value (codes_ending s a (min i a_count))) (value (codes_ending s b i)) (digit_from s a a_count i) (digit_value (code_at s (b - i)))
      (value_bound s a a_in (min i a_count) i (omega arith) (omega arith)) (value_bound s b b_in i i (omega arith) (omega arith)) (digit_from_below s a a_in a_count i) (digit_value_below (code_at s (b - i)))

  module _ (now : Storage) (carry : ℕ) (zone : Zone) (apart : is_overlapping a b a_count ≡ false)
      (codes : now ≡ put_codes s (b + 1 - i) (spelled (joined_total joined s a (min i a_count) b i) i zone))
      (carried : carry ≡ joined_total joined s a (min i a_count) b i / 10 ^ i) where
    abbrev pub before : ℕ
    before = joined_total joined s a (min i a_count) b i

    abbrev pub after : ℕ
    after = joined_total joined s a (min (i + 1) a_count) b (i + 1)

    abbrev pub amount : ℕ
    amount = amount_of joined (digit_from now a a_count i) (digit_value (code_at now (b - i)))

    old_amount : ℕ
    old_amount = amount_of joined (digit_from s a a_count i) (digit_value (code_at s (b - i)))

    amount_is : amount ≡ old_amount
    unfolding old_amount
    amount_is =
        let long : length (spelled before i zone) ≡ i = length-spelled before i zone in
        ap (λ t. amount_of joined (digit_from t a a_count i) (digit_value (code_at t (b - i)))) codes
        ∙ ap (λ n. amount_of joined n (digit_value (code_at (put_codes s (b + 1 - i) (spelled before i zone)) (b - i)))) (a_read s a a_count b i (spelled before i zone) long i_from a_from apart)
        ∙ ap (λ n. amount_of joined (digit_from s a a_count i) (digit_value n)) (b_read s b i (spelled before i zone) i_from)

    after_is : after ≡ before + old_amount * 10 ^ i
    unfolding old_amount
    after_is = total_step

    total_is : amount + carry ≡ before / 10 ^ i + old_amount
    total_is =
        let swapped : old_amount + before / 10 ^ i ≡ before / 10 ^ i + old_amount = omega arith in
        ap (λ n. n + carry) amount_is ∙ ap (λ n. old_amount + n) carried ∙ swapped

    pub carry_step : (amount + carry) / 10 ≡ after / 10 ^ (i + 1)
    carry_step = ap (λ n. n / 10) total_is ∙ sym (carry_more before old_amount i) ∙ ap (λ n. n / 10 ^ (i + 1)) (sym after_is)

    place_of : ℕ → ℕ
    place_of digit = digit_under (if i == 0 then zone else Bare) digit

    digits_are : spelled after (i + 1) zone ≡ place_of ((amount + carry) % 10) ∷ spelled before i zone
    unfolding place_of
    digits_are =
        ap (λ n. spelled n (i + 1) zone) after_is
        ∙ spelled_more before old_amount i zone
        ∙ ap (λ n. place_of (n % 10) ∷ spelled before i zone) (sym total_is)

    pub codes_step : put now (b - i) (digit_under (if i == 0 then zone else Bare) ((amount + carry) % 10)) ≡ put_codes s (b + 1 - (i + 1)) (spelled after (i + 1) zone)
    unfolding put_codes place_of
    codes_step =
        let first : b + 1 - (i + 1) ≡ b - i = omega arith in
        let next : b - i + 1 ≡ b + 1 - i = omega arith in
        ap (λ t. put t (b - i) (place_of ((amount + carry) % 10))) (codes ∙ ap (λ n. put_codes s n (spelled before i zone)) (sym next))
        ∙ ap (λ xs. put_codes s (b - i) xs) (sym digits_are)
        ∙ ap (λ n. put_codes s n (spelled after (i + 1) zone)) (sym first)

    -- the place as the code goes over it: what it reads, joins and writes
    module _ (digit_a digit_b sum code : ℕ) (here : Zone) (new : Storage) (read_a : digit_a ≡ digit_from now a a_count i) (read_b : digit_b ≡ digit_value (code_at now (b - i)))
        (joined_to : sum ≡ amount_of joined digit_a digit_b) where
      sum_is : sum ≡ amount
      sum_is = joined_to ∙ ap (λ n. amount_of joined n digit_b) read_a ∙ ap (λ n. amount_of joined (digit_from now a a_count i) n) read_b

      pub carry_next : (sum + carry) / 10 ≡ after / 10 ^ (i + 1)
      carry_next = ap (λ n. (n + carry) / 10) sum_is ∙ carry_step

      pub codes_next : here ≡ (if i == 0 then zone else Bare) → code ≡ digit_under here ((sum + carry) % 10) → new ≡ put now (b - i) code → new ≡ put_codes s (b + 1 - (i + 1)) (spelled after (i + 1) zone)
      codes_next zone_is code_is put_is =
          put_is
          ∙ ap (put now (b - i)) (code_is ∙ ap (λ z. digit_under z ((sum + carry) % 10)) zone_is ∙ ap (λ n. digit_under (if i == 0 then zone else Bare) ((n + carry) % 10)) sum_is)
          ∙ codes_step

pub value_none : (s : Storage) (p : ℕ) → value (codes_ending s p 0) ≡ 0
unfolding value
value_none s p = ap value (codes_ending-none s p)

-- before the first place nothing but the carry is in the total
pub total_none : (joined : Joined) (s : Storage) (a a_count b : ℕ) → total_of joined 0 0 0 ≡ joined_total joined s a (min 0 a_count) b 0 / 10 ^ 0
unfolding joined_total
total_none joined s a a_count b =
    let none : min 0 a_count ≡ 0 = omega arith in
    sym (div-one (total_of joined 0 (value (codes_ending s a (min 0 a_count))) (value (codes_ending s b 0)))
    ∙ ap (λ n. total_of joined 0 (value (codes_ending s a n)) (value (codes_ending s b 0))) none
    ∙ ap (λ n. total_of joined 0 n (value (codes_ending s b 0))) (value_none s a)
    ∙ ap (λ n. total_of joined 0 0 n) (value_none s b))

pub spelled_none : (t : ℕ) (zone : Zone) → spelled t 0 zone ≡ []
unfolding spelled
spelled_none t zone = refl

pub put_codes_none : (s : Storage) (first t : ℕ) (zone : Zone) → s ≡ put_codes s first (spelled t 0 zone)
unfolding spelled put_codes
put_codes_none s first t zone = refl

-- a carry is left where the total has more digits
pub carry_left : (t P carry : ℕ) → 0 < P → carry ≡ t / P → ltb 0 carry ≡ leb P t
carry_left t P carry pos is =
    elim (dec_lt t P) [
      | yes small ↦ let none : carry ≡ 0 = is ∙ div-eq_of_lt small in rw (none, lt-leb P t small) refl
      | no large ↦
          let over : P ≤ t = omega arith in
          let unit : 1 * P ≤ t = omega arith in
          let some : 1 ≤ t / P = le-div 1 t P pos unit in
          let left : 0 < carry = omega arith in
          lt-ltb 0 carry left ∙ sym (le-leb P t over)
    ]

pub carry_at_end : (joined : Joined) (s : Storage) (a a_count b b_count i carry : ℕ) → i ≡ b_count → a_count ≤ b_count →
    carry ≡ joined_total joined s a (min i a_count) b i / 10 ^ i → ltb 0 carry ≡ leb (10 ^ b_count) (joined_total joined s a a_count b b_count)
carry_at_end joined s a a_count b b_count i carry end cut is =
    let all : min i a_count ≡ a_count = omega arith in
    carry_left (joined_total joined s a a_count b b_count) (10 ^ b_count) carry (ten_pos b_count)
    (is ∙ ap (λ n. joined_total joined s a n b i / 10 ^ i) all ∙ ap (λ n. joined_total joined s a a_count b n / 10 ^ n) end)
