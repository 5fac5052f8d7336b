-- digits that are found and written all at once, under the sign of a difference or of A
use Rattle.std.proofs.Common.{◌≡◌, ◌++◌, ℕ, ◌+◌, ◌-◌, ◌*◌, ◌<◌, ◌≤◌, All, Bool, true, false, ltb, List, [], ◌∷◌, refl, sym, ◌∙◌, ap, arith, length, take, drop, get_or, Ok, not, ◌||◌}
use mathlib.Core.Bool.{beq}
use Rattle.std.specs.Int.{abs_diff}
use Rattle.std.proofs.Math.Decide.{dec_lt}
use Rattle.std.proofs.lemmas.Bool.{lt-ltb, le-ltb}
use Rattle.std.proofs.lemmas.List.{length-take-le, get_or-append-add, take-append-le, take-take}
use Rattle.std.proofs.lemmas.List.Elements.{All-drop}
use Rattle.bcd.specs.Table.{zone_of, zone_number}
use Rattle.core_store.specs.Storage.{Storage, code_at, codes_ending, put_codes}
use Rattle.core_store.specs.Operands.{is_overlapping, is_minus_zone, lowered}
use Rattle.core_store.specs.declared.registers.Registers.{Registers}
use Rattle.core_store.proofs.Fields.{length-codes_ending}
use Rattle.core_store.proofs.NearCodes.{put_last}
use Rattle.arith.specs.Decimal.{value, is_number, sign_zone, spelled}
use Rattle.arith.specs.Columns.{number, characters, sign_bits}
use Rattle.arith.specs.Joining.{joined_total}
use Rattle.arith.specs.Operands.{counts_at, AreCounts}
use Rattle.arith.specs.declared.operands.Counts.{Counts}
use Rattle.arith.specs.Sums.{added, zero_added, sum_codes}
use Rattle.arith.proofs.SumDigits.{length-spelled}
use Rattle.arith.proofs.LaneSums.{characters_lanes}
use Rattle.arith.proofs.SumLanes.{apart_counts}
use Rattle.arith.proofs.SumSigns.{no_overflow, less_b, not_less_b}
use Rattle.arith.proofs.SumWholes.{added_is, zero_added_is}

-- ---- the old characters with another sign

zone_signed : (minus : Bool) → zone_of (16 * zone_number (sign_zone minus)) ≡ sign_zone minus
unfolding zone_of
zone_signed true = refl
zone_signed false = refl

module _ (old signed : List ℕ) (minus : Bool) (long : length old ≡ 16) (is : signed ≡ take 15 old ++ sign_bits minus ∷ []) where
  front_long : length (take 15 old) ≡ 15
  front_long = length-take-le 15 old (omega arith)

  signed_front : (k : ℕ) → k ≤ 15 → take k signed ≡ take k old
  signed_front k le = ap (take k) is ∙ take-append-le k (take 15 old) (sign_bits minus ∷ []) (omega (arith, front_long)) ∙ take-take k 15 old le

  signed_zone : zone_of (get_or signed 15 0) ≡ sign_zone minus
  signed_zone =
      let place : 15 ≡ length (take 15 old) + 0 = omega (arith, front_long) in
      ap (λ xs. zone_of (get_or xs 15 0)) is
      ∙ ap (λ k. zone_of (get_or (take 15 old ++ sign_bits minus ∷ []) k 0)) place
      ∙ ap zone_of (get_or-append-add (take 15 old) (sign_bits minus ∷ []) 0 0)
      ∙ zone_signed minus

-- ---- digits under a sign

module _ (s : Storage) (b b_count : ℕ) (room : 15 ≤ b) (within : b < length s) (some : 1 ≤ b_count) (few : b_count ≤ 16) (old signed digits : List ℕ) (minus : Bool)
    (read : old ≡ codes_ending s b 16) (old_long : length old ≡ 16) (is : signed ≡ take 15 old ++ sign_bits minus ∷ []) (long : length digits ≡ 16) (small : All (λ d. d < 10) digits) where
  rest : 16 - (16 - b_count) ≡ b_count
  rest = omega arith

  spelled_digits : characters (zone_of (get_or signed 15 0)) (drop (16 - b_count) digits) ≡ spelled (number digits) b_count (sign_zone minus)
  spelled_digits =
      ap (λ zone. characters zone (drop (16 - b_count) digits)) (signed_zone old signed minus old_long is)
      ∙ characters_lanes (16 - b_count) digits (sign_zone minus) long (omega arith) (All-drop (λ d. d < 10) (16 - b_count) digits small)
      ∙ ap (λ n. spelled (number digits) n (sign_zone minus)) rest

  pub digits_written : put_codes s (b - 15) (take (16 - b_count) signed ++ characters (zone_of (get_or signed 15 0)) (drop (16 - b_count) digits))
      ≡ put_codes s (b + 1 - b_count) (spelled (number digits) b_count (sign_zone minus))
  digits_written =
      ap (λ xs. put_codes s (b - 15) (take (16 - b_count) signed ++ xs)) spelled_digits
      ∙ ap (λ xs. put_codes s (b - 15) (xs ++ spelled (number digits) b_count (sign_zone minus)))
      (signed_front old signed minus old_long is (16 - b_count) (omega arith) ∙ ap (take (16 - b_count)) read)
      ∙ put_last s b b_count (spelled (number digits) b_count (sign_zone minus)) room within few (length-spelled (number digits) b_count (sign_zone minus))

-- ---- the sign of a difference

sign_of_greater : (minus minus_b : Bool) → beq minus minus_b ≡ false → not (beq true minus_b) ≡ minus
sign_of_greater true true h = absurd (cc)
sign_of_greater true false h = refl
sign_of_greater false true h = refl
sign_of_greater false false h = absurd (cc)

sign_kept : (minus_b : Bool) → not (beq false minus_b) ≡ minus_b
sign_kept true = refl
sign_kept false = refl

module _ (s : Storage) (a a_count b b_count : ℕ) (known : AreCounts s a b a_count b_count) (minus minus_b : Bool) (sign_b : minus_b ≡ is_minus_zone (zone_of (code_at s b))) (other : beq minus minus_b ≡ false) where
  abbrev A : List ℕ
  A = codes_ending s a a_count

  abbrev B : List ℕ
  B = codes_ending s b b_count

  pub difference_codes : (greater : Bool) (n : ℕ) → greater ≡ ltb (value B) (value A) → n ≡ abs_diff (value A) (value B) → spelled n b_count (sign_zone (not (beq greater minus_b))) ≡ sum_codes minus A B
  difference_codes greater n is size =
      elim (dec_lt (value B) (value A)) [
        | yes lt ↦
            let less : n ≡ value A - value B = omega (arith, size) in
            ap (λ m. spelled m b_count (sign_zone (not (beq greater minus_b)))) less
            ∙ ap (λ g. spelled (value A - value B) b_count (sign_zone (not (beq g minus_b)))) (is ∙ lt-ltb (value B) (value A) lt)
            ∙ ap (λ m. spelled (value A - value B) b_count (sign_zone m)) (sign_of_greater minus minus_b other)
            ∙ less_b s a a_count b b_count known minus minus_b sign_b other lt
        | no ge ↦
            let least : value A ≤ value B = omega arith in
            let less : n ≡ value B - value A = omega (arith, size) in
            ap (λ m. spelled m b_count (sign_zone (not (beq greater minus_b)))) less
            ∙ ap (λ g. spelled (value B - value A) b_count (sign_zone (not (beq g minus_b)))) (is ∙ le-ltb (value B) (value A) least)
            ∙ ap (λ m. spelled (value B - value A) b_count (sign_zone m)) (sign_kept minus_b)
            ∙ not_less_b s a a_count b b_count known minus minus_b sign_b other least
      ]

-- ---- the operations as wholes

module _ (reversed : Bool) (s : Storage) (r : Registers) (counts : Counts) (found : counts_at s r.a r.b ≡ Ok counts) (known : AreCounts s r.a r.b counts.a counts.b)
    (room : 15 ≤ r.b) (few : counts.b ≤ 16) (apart : is_overlapping r.a r.b counts.a ≡ false) (a_number : is_number (codes_ending s r.a counts.a) ≡ true)
    (minus : Bool) (sign : minus ≡ is_minus_zone (zone_of (code_at s r.a)))
    (old signed digits : List ℕ) (read : old ≡ codes_ending s r.b 16) (long : length digits ≡ 16) (small : All (λ d. d < 10) digits)
    (new : Storage) (after : Registers) (lower : after ≡ record r { a = lowered r.a counts.a; b = lowered r.b counts.b })
    (put : new ≡ put_codes s (r.b - 15) (take (16 - counts.b) signed ++ characters (zone_of (get_or signed 15 0)) (drop (16 - counts.b) digits))) where
  old_long : length old ≡ 16
  old_long = ap length read ∙ length-codes_ending s r.b 16 known.b_in (omega arith)

  or_none : (b : Bool) → (b || false) ≡ b
  or_none true = refl
  or_none false = refl

  -- Add under different signs
  pub differed_is : (minus_b greater : Bool) → minus_b ≡ is_minus_zone (zone_of (code_at s r.b)) → beq (not (beq minus reversed)) minus_b ≡ false → is_number (codes_ending s r.b counts.b) ≡ true →
      signed ≡ take 15 old ++ sign_bits (not (beq greater minus_b)) ∷ [] →
      greater ≡ ltb (value (codes_ending s r.b counts.b)) (value (codes_ending s r.a counts.a)) → number digits ≡ abs_diff (value (codes_ending s r.a counts.a)) (value (codes_ending s r.b counts.b)) →
      added reversed s r ≡ Ok (new, after)
  differed_is minus_b greater sign_b other b_number is order size =
      added_is reversed s r counts (apart_counts s r.a r.b counts found apart) known (sym a_number) minus sign new after lower false (sym b_number)
      (put
      ∙ digits_written s r.b counts.b room known.b_in known.b_some few old signed digits (not (beq greater minus_b)) read old_long is long small
      ∙ ap (put_codes s (r.b + 1 - counts.b)) (difference_codes s r.a counts.a r.b counts.b known (not (beq minus reversed)) minus_b sign_b other greater (number digits) order size))
      (no_overflow s r.a counts.a r.b counts.b known (not (beq minus reversed)) minus_b sign_b other)
      ∙ ap (λ o. Ok (new, record after { overflow = o })) (or_none after.overflow)

  -- Zero and Add
  pub replaced_is : signed ≡ take 15 old ++ sign_bits (not (beq minus reversed)) ∷ [] → number digits ≡ value (codes_ending s r.a counts.a) → zero_added reversed s r ≡ Ok (new, after)
  unfolding joined_total
  replaced_is is size =
      zero_added_is reversed s r counts (apart_counts s r.a r.b counts found apart) known (sym a_number) minus sign new after lower (sign_zone (not (beq minus reversed))) refl
      (put
      ∙ digits_written s r.b counts.b room known.b_in known.b_some few old signed digits (not (beq minus reversed)) read old_long is long small
      ∙ ap (λ n. put_codes s (r.b + 1 - counts.b) (spelled n counts.b (sign_zone (not (beq minus reversed))))) size)
