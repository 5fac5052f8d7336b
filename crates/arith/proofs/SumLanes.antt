-- a sum that is found and written all at once
use Rattle.std.proofs.Common.{◌≡◌, ◌++◌, ℕ, ◌+◌, ◌-◌, ◌%◌, ◌^◌, ◌<◌, ◌≤◌, All, Bool, true, false, leb, ltb, List, refl, sym, ◌∙◌, ap, arith, length, take, drop, map, max, replicate, get_or, Ok, not, ◌||◌}
use mathlib.Core.Bool.{beq}
use Rattle.std.specs.List.{list_any}
use Rattle.std.specs.Simd.Lanes.{zip2}
use Rattle.bcd.specs.Table.{zone_of}
use Rattle.std.proofs.Math.Nat.{pow-le-pow_right}
use Rattle.std.proofs.lemmas.List.Elements.{All-same, All-drop}
use Rattle.core_store.specs.Storage.{Storage, code_at, codes_ending, put_codes}
use Rattle.core_store.specs.Operands.{is_overlapping, is_minus_zone, lowered}
use Rattle.core_store.specs.declared.registers.Registers.{Registers}
use Rattle.core_store.proofs.Fields.{length-codes_ending}
use Rattle.core_store.proofs.NearCodes.{code-codes_ending, last_of_sixteen, put_last}
use Rattle.arith.specs.Decimal.{value, is_number, spelled}
use Rattle.arith.specs.Columns.{number, characters, digit_of_part}
use Rattle.arith.specs.Joining.{joined_total}
use Rattle.arith.specs.declared.joining.Joined.TheVariants.{Sum}
use Rattle.arith.specs.Operands.{counts_at, counts_apart, AreCounts}
use Rattle.arith.specs.declared.operands.Counts.{Counts}
use Rattle.arith.specs.Sums.{added}
use Rattle.arith.proofs.SumDigits.{value_below, length-spelled}
use Rattle.arith.proofs.LaneSums.{neither_over, lanes_long, lanes_number, lanes_value, overflow_lanes, characters_lanes}
use Rattle.arith.proofs.SumSigns.{sum_put, sum_carried}
use Rattle.arith.proofs.SumWholes.{added_is}

pub apart_counts : (s : Storage) (a b : ℕ) (counts : Counts) → counts_at s a b ≡ Ok counts → is_overlapping a b counts.a ≡ false → Ok counts ≡ counts_apart s a b
unfolding counts_apart
apart_counts s a b counts found apart = rw (found, apart) refl

-- the numeric parts of a field
module _ (s : Storage) (p count : ℕ) (codes parts : List ℕ) (room : 15 ≤ p) (within : p < length s) (few : count ≤ 16) (read : codes ≡ codes_ending s p 16)
    (is : parts ≡ replicate (16 - count) 0 ++ map (λ c. c % 16) (drop (16 - count) codes)) where
  pub parts_long : length parts ≡ 16
  parts_long = ap length is ∙ lanes_long (16 - count) codes (ap length read ∙ length-codes_ending s p 16 within (omega arith)) (omega arith)

  field_codes : drop (16 - count) codes ≡ codes_ending s p count
  field_codes = ap (drop (16 - count)) read ∙ last_of_sixteen s p count room within few

  pub field_number : All (λ n. n ≤ 10) parts → is_number (codes_ending s p count) ≡ true
  field_number all = ap is_number (sym field_codes) ∙ lanes_number (16 - count) (drop (16 - count) codes) (All-same (λ n. n ≤ 10) _ parts (sym is) all)

  pub field_value : All (λ n. n ≤ 10) parts → number (map digit_of_part parts) ≡ value (codes_ending s p count)
  field_value all =
      ap (λ ps. number (map digit_of_part ps)) is ∙ lanes_value (16 - count) (drop (16 - count) codes) (All-same (λ n. n ≤ 10) _ parts (sym is) all) ∙ ap value field_codes

-- the numeric parts of both fields
module _ (s : Storage) (a b : ℕ) (counts : Counts) (known : AreCounts s a b counts.a counts.b) (room : (15 ≤ a) × (15 ≤ b) × (counts.b ≤ 16)) (codes_a codes_b parts_a parts_b most : List ℕ)
    (read_a : codes_a ≡ codes_ending s a 16) (read_b : codes_b ≡ codes_ending s b 16)
    (is_a : parts_a ≡ replicate (16 - counts.a) 0 ++ map (λ c. c % 16) (drop (16 - counts.a) codes_a)) (is_b : parts_b ≡ replicate (16 - counts.b) 0 ++ map (λ c. c % 16) (drop (16 - counts.b) codes_b))
    (most_is : most ≡ zip2 max parts_a parts_b) (none : list_any (λ x. ltb 10 x) most ≡ false) where
  a_few : counts.a ≤ 16
  a_few = omega (arith, known.cut, room.2)

  pub both_small : All (λ n. n ≤ 10) parts_a × All (λ n. n ≤ 10) parts_b
  both_small =
      neither_over 10 parts_a parts_b (parts_long s a counts.a codes_a parts_a room.0 known.a_in a_few read_a is_a ∙ sym (parts_long s b counts.b codes_b parts_b room.1 known.b_in room.2 read_b is_b))
      (ap (list_any (λ x. ltb 10 x)) (sym most_is) ∙ none)

  pub both_numbers : (is_number (codes_ending s a counts.a) ≡ true) × (is_number (codes_ending s b counts.b) ≡ true)
  both_numbers =
      (field_number s a counts.a codes_a parts_a room.0 known.a_in a_few read_a is_a both_small.0, field_number s b counts.b codes_b parts_b room.1 known.b_in room.2 read_b is_b both_small.1)

  pub both_values : (number (map digit_of_part parts_a) ≡ value (codes_ending s a counts.a)) × (number (map digit_of_part parts_b) ≡ value (codes_ending s b counts.b))
  both_values =
      (field_value s a counts.a codes_a parts_a room.0 known.a_in a_few read_a is_a both_small.0, field_value s b counts.b codes_b parts_b room.1 known.b_in room.2 read_b is_b both_small.1)

module _ (s : Storage) (a a_count b b_count : ℕ) (known : AreCounts s a b a_count b_count) (a_room : 15 ≤ a) (b_room : 15 ≤ b) (few : b_count ≤ 15)
    (old digits : List ℕ) (read : old ≡ codes_ending s b 16) (long : length digits ≡ 16) (small : All (λ d. d < 10) digits)
    (sum : number digits ≡ value (codes_ending s a a_count) + value (codes_ending s b b_count)) where
  total : number digits ≡ joined_total Sum s a a_count b b_count
  unfolding joined_total
  total = sum

  rest : 16 - (16 - b_count) ≡ b_count
  rest = omega arith

  low : All (λ d. d < 10) (drop (16 - b_count) digits)
  low = All-drop (λ d. d < 10) (16 - b_count) digits small

  units : get_or old 15 0 ≡ code_at s b
  units =
      let place : b - 15 + 15 ≡ b = omega arith in
      ap (λ cs. get_or cs 15 0) read ∙ code-codes_ending s b 16 (b - 15) 15 (omega arith) known.b_in (omega arith) ∙ ap (code_at s) place

  spelled_lanes : characters (zone_of (get_or old 15 0)) (drop (16 - b_count) digits) ≡ spelled (joined_total Sum s a a_count b b_count) b_count (zone_of (code_at s b))
  spelled_lanes =
      characters_lanes (16 - b_count) digits (zone_of (get_or old 15 0)) long (omega arith) low
      ∙ ap (λ n. spelled n (16 - (16 - b_count)) (zone_of (get_or old 15 0))) total
      ∙ ap (λ n. spelled (joined_total Sum s a a_count b b_count) n (zone_of (get_or old 15 0))) rest
      ∙ ap (λ c. spelled (joined_total Sum s a a_count b b_count) b_count (zone_of c)) units

  pub sum_written : put_codes s (b - 15) (take (16 - b_count) old ++ characters (zone_of (get_or old 15 0)) (drop (16 - b_count) digits))
      ≡ put_codes s (b + 1 - b_count) (spelled (joined_total Sum s a a_count b b_count) b_count (zone_of (code_at s b)))
  sum_written =
      ap (λ xs. put_codes s (b - 15) (take (16 - b_count) old ++ xs)) spelled_lanes
      ∙ ap (λ cs. put_codes s (b - 15) (take (16 - b_count) cs ++ spelled (joined_total Sum s a a_count b b_count) b_count (zone_of (code_at s b)))) read
      ∙ put_last s b b_count (spelled (joined_total Sum s a a_count b b_count) b_count (zone_of (code_at s b))) b_room known.b_in (omega arith)
      (length-spelled (joined_total Sum s a a_count b b_count) b_count (zone_of (code_at s b)))

  pub sum_over : list_any (λ l. ltb 0 l) (take (16 - b_count) digits ++ drop (16 - b_count) (replicate 16 0)) ≡ leb (10 ^ b_count) (joined_total Sum s a a_count b b_count)
  sum_over =
      overflow_lanes (16 - b_count) digits long (omega arith) low
      ∙ ap (λ n. leb (10 ^ n) (number digits)) rest
      ∙ ap (leb (10 ^ b_count)) total

-- a sum of two numbers of at most fifteen digits has room in sixteen
pub sum_bound : (s : Storage) (a a_count b b_count : ℕ) → AreCounts s a b a_count b_count → b_count ≤ 15 → value (codes_ending s a a_count) + value (codes_ending s b b_count) < 10 ^ 16
sum_bound s a a_count b b_count known few =
    let cut : a_count ≤ b_count = known.cut in
    let small_a : value (codes_ending s a a_count) < 10 ^ a_count = rw (length-codes_ending s a a_count known.a_in known.a_from) at (value_below (codes_ending s a a_count)) in
    let small_b : value (codes_ending s b b_count) < 10 ^ b_count = rw (length-codes_ending s b b_count known.b_in known.b_from) at (value_below (codes_ending s b b_count)) in
    let few_a : a_count ≤ 15 = omega arith in
    let grows_a : 10 ^ a_count ≤ 10 ^ 15 = pow-le-pow_right (omega arith) few_a in
    let grows_b : 10 ^ b_count ≤ 10 ^ 15 = pow-le-pow_right (omega arith) few in
    omega arith

-- signs that do not differ
pub not_differing : (x y : Bool) → not (beq x y) ≡ false → beq x y ≡ true
not_differing x y h = stays (beq x y) h where
  stays : (b : Bool) → not b ≡ false → b ≡ true
  stays true h = refl
  stays false h = absurd (cc)

pub differing : (x y : Bool) → not (beq x y) ≡ true → beq x y ≡ false
differing x y h = stays (beq x y) h where
  stays : (b : Bool) → not b ≡ true → b ≡ false
  stays true h = absurd (cc)
  stays false h = refl

-- the operation as a whole
module _ (reversed : Bool) (s : Storage) (r : Registers) (counts : Counts) (found : counts_at s r.a r.b ≡ Ok counts) (known : AreCounts s r.a r.b counts.a counts.b)
    (a_room : 15 ≤ r.a) (b_room : 15 ≤ r.b) (few : counts.b ≤ 15) (apart : is_overlapping r.a r.b counts.a ≡ false)
    (minus minus_b : Bool) (sign : minus ≡ is_minus_zone (zone_of (code_at s r.a))) (sign_b : minus_b ≡ is_minus_zone (zone_of (code_at s r.b))) (same : beq (not (beq minus reversed)) minus_b ≡ true)
    (old digits : List ℕ) (read : old ≡ codes_ending s r.b 16) (long : length digits ≡ 16) (small : All (λ d. d < 10) digits)
    (a_number : is_number (codes_ending s r.a counts.a) ≡ true) (b_number : is_number (codes_ending s r.b counts.b) ≡ true)
    (sum : number digits ≡ value (codes_ending s r.a counts.a) + value (codes_ending s r.b counts.b)) where
  pub combined_is : (new : Storage) (after : Registers) → after ≡ record r { a = lowered r.a counts.a; b = lowered r.b counts.b } → (overflows : Bool) →
      new ≡ put_codes s (r.b - 15) (take (16 - counts.b) old ++ characters (zone_of (get_or old 15 0)) (drop (16 - counts.b) digits)) →
      overflows ≡ list_any (λ l. ltb 0 l) (take (16 - counts.b) digits ++ drop (16 - counts.b) (replicate 16 0)) →
      added reversed s r ≡ Ok (new, record after { overflow = after.overflow || overflows })
  combined_is new after lower overflows put over =
      added_is reversed s r counts (apart_counts s r.a r.b counts found apart) known (sym a_number) minus sign new after lower overflows (sym b_number)
      (sum_put s r.a counts.a r.b counts.b known (not (beq minus reversed)) minus_b sign_b same (zone_of (code_at s r.b)) (code_at s r.b) new refl refl
      (put ∙ sum_written s r.a counts.a r.b counts.b known a_room b_room few old digits read long small sum))
      (sum_carried s r.a counts.a r.b counts.b known (not (beq minus reversed)) minus_b sign_b same overflows
      (over ∙ sum_over s r.a counts.a r.b counts.b known a_room b_room few old digits read long small sum))
