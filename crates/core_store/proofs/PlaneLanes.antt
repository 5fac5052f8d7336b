-- the last of some bytes that is not 0
use Rattle.std.proofs.Common.{◌≡◌, ◌≢◌, inl, inr, ℕ, suc, min, ◌+◌, ◌-◌, ◌/◌, ◌%◌, ◌^◌, ◌<◌, ◌≤◌, ◌∙◌, Bool, true, false, cond, List, get_or, length, map, ap, sym, refl, arith}
use Rattle.std.specs.Simd.Lanes.{mask_l, chunk}
use Rattle.std.specs.Int.Count.{count_leading_zeros}
use Rattle.std.proofs.Math.Decide.{dec_lt}
use Rattle.std.proofs.Math.Pow.{pow_mono}
use Rattle.std.proofs.Math.Nat.{div-eq_of_lt, div-eq_of_lt-le, pow-suc}
use Rattle.std.proofs.lemmas.Nat.{leading_top}
use Rattle.std.proofs.lemmas.List.{get_or-map, length-map}
use Rattle.std.proofs.lemmas.Simd.{none_from_empty_mask, length-chunk, get_or-chunk, mask_l-lt, bit_mask_l}
use Rattle.core_store.specs.Planes.{AreBare, IsEither}
use Rattle.core_store.proofs.PlaneLemmas.{is_some, not_zero, some_is}

set_bit : (b : Bool) (n : ℕ) → n ≡ cond b 1 0 → n ≡ 1 → b ≡ true
set_bit true n is h = refl
set_bit false n is h = absurd (omega arith)

clear_bit : (b : Bool) (n : ℕ) → n ≡ cond b 1 0 → n ≡ 0 → b ≡ false
clear_bit true n is h = absurd (omega arith)
clear_bit false n is h = refl

-- the bits of a mask above its value are clear
above_mask : (ms : List Bool) (i : ℕ) → mask_l ms < 2 ^ i → get_or ms i false ≡ false
above_mask ms i lt =
    clear_bit (get_or ms i false) (mask_l ms / 2 ^ i % 2) (bit_mask_l ms i) (ap (λ n. n % 2) (div-eq_of_lt lt))

-- and its top bit is set
top_of_mask : (ms : List Bool) (j : ℕ) → 2 ^ j ≤ mask_l ms → mask_l ms < 2 ^ suc j → get_or ms j false ≡ true
top_of_mask ms j le lt =
    let one : mask_l ms / 2 ^ j ≡ 1 = div-eq_of_lt-le {k = 1} (2 ^ j) (omega arith) (omega (arith, pow-suc 2 j)) in
    set_bit (get_or ms j false) (mask_l ms / 2 ^ j % 2) (bit_mask_l ms j) (ap (λ n. n % 2) one)

module _ (marks : List ℕ) (place start width mask : ℕ) (within : place < length marks) (ends : start + width ≡ suc place) (few : width ≤ 64) (is : mask ≡ mask_l (map is_some (chunk start width marks))) where
  long : length (chunk start width marks) ≡ width
  long = length-chunk start width marks (omega arith)

  byte : (i : ℕ) → i < width → get_or (map is_some (chunk start width marks)) i false ≡ is_some (get_or marks (start + i) 0)
  byte i lt = get_or-map is_some (chunk start width marks) i 0 false (omega (arith, long)) ∙ ap is_some (get_or-chunk start width marks i 0 lt)

  pub none_before : mask ≡ 0 → (k : ℕ) → k < width → get_or marks (place - k) 0 ≡ 0
  none_before none k lt =
      not_zero (get_or marks (place - k) 0) (none_from_empty_mask is_some marks start width 0 (omega arith) (sym is ∙ none) (place - k) (omega arith) (omega arith))

  small : mask < 2 ^ width
  small =
      let size : length (map is_some (chunk start width marks)) ≡ width = length-map (chunk start width marks) is_some ∙ long in
      let bound : mask_l (map is_some (chunk start width marks)) < 2 ^ width = rw size at (mask_l-lt (map is_some (chunk start width marks))) in
      omega (arith, bound, is)

  -- the top bit of the mask
  pub record Top : Type 0 where
    pub at : ℕ
    pub near : at < width
    pub zeros : count_leading_zeros 64 mask + suc at ≡ 64
    pub least : 2 ^ at ≤ mask
    pub below : mask < 2 ^ suc at

  pub top : mask ≢ 0 → Top
  top some =
      let wide : mask < 2 ^ 64 = omega (arith, small, pow_mono {i = width} {j = 64} few) in
      let (j, zeros, least, below) = leading_top 64 mask (omega (arith, some)) wide in
      record {
        at = j;
        near =
            elim (dec_lt j width) [
              | yes lt ↦ lt
              | no ge ↦ absurd (omega (arith, small, least, pow_mono {i = width} {j = j} (omega arith)))
            ];
        zeros = zeros;
        least = least;
        below = below;
      }

  -- no byte is marked that is nearer than the one of the top bit
  pub none_nearer : (t : Top) (k : ℕ) → t.at + suc k < width → get_or marks (place - k) 0 ≡ 0
  none_nearer t k lt =
      let bound : mask_l (map is_some (chunk start width marks)) < 2 ^ (width - 1 - k) = omega (arith, is, t.below, pow_mono {i = suc t.at} {j = width - 1 - k} (omega arith)) in
      let here : start + (width - 1 - k) ≡ place - k = omega arith in
      not_zero (get_or marks (place - k) 0)
      (ap (λ n. is_some (get_or marks n 0)) (sym here) ∙ sym (byte (width - 1 - k) (omega arith)) ∙ above_mask (map is_some (chunk start width marks)) (width - 1 - k) bound)

  -- and that one is marked
  pub top_marked : (t : Top) (k : ℕ) → t.at + suc k ≡ width → get_or marks (place - k) 0 ≢ 0
  top_marked t k same =
      let here : start + t.at ≡ place - k = omega (arith, t.near) in
      some_is (get_or marks (place - k) 0)
      (ap (λ n. is_some (get_or marks n 0)) (sym here) ∙ sym (byte t.at t.near)
      ∙ top_of_mask (map is_some (chunk start width marks)) t.at (omega (arith, is, t.least)) (omega (arith, is, t.below)))

-- what was passed over on the way to a mark
pub passed_over : (marks : List ℕ) (end run place : ℕ) → ((k : ℕ) → k < run → get_or marks (end - 1 - k) 0 ≡ 0) → ((k : ℕ) → end ≤ k → k ≤ place → get_or marks k 0 ≡ 0) →
    (k : ℕ) → end ≤ k + run → k ≤ place → get_or marks k 0 ≡ 0
passed_over marks end run place after none k from upto =
    elim (dec_lt k end) [
      | yes before ↦
          let back : k ≡ end - 1 - (end - 1 - k) = omega arith in
          ap (λ n. get_or marks n 0) back ∙ after (end - 1 - k) (omega arith)
      | no past ↦ none k (omega arith) upto
    ]

-- what was passed over on the way to a mark in either of two fields
pub both_passed : (marks : List ℕ) (a b count one two run : ℕ) → run ≤ one → run ≤ two → AreBare marks a b count
    → ((k : ℕ) → k < one → get_or marks (a - count - k) 0 ≡ 0) → ((k : ℕ) → k < two → get_or marks (b - count - k) 0 ≡ 0) → AreBare marks a b (count + run)
both_passed marks a b count one two run le_one le_two bare after_a after_b k lt =
    elim (dec_lt k count) [
      | yes before ↦ bare k before
      | no past ↦
          let a_back : a - k ≡ a - count - (k - count) = omega arith in
          let b_back : b - k ≡ b - count - (k - count) = omega arith in (
            ap (λ n. get_or marks n 0) a_back ∙ after_a (k - count) (omega arith),
            ap (λ n. get_or marks n 0) b_back ∙ after_b (k - count) (omega arith),
          )
    ]

-- the nearer of the marks that end two runs
pub either_stops : (marks : List ℕ) (a b count one two run : ℕ) → run ≡ min one two → run < 16 → (one < 16 → get_or marks (a - count - one) 0 ≢ 0) → (two < 16 → get_or marks (b - count - two) 0 ≢ 0)
    → IsEither marks a b (count + run)
either_stops marks a b count one two run is lt stops_a stops_b =
    elim (dec_lt two one) [
      | yes second ↦
          let place : b - (count + run) ≡ b - count - two = omega arith in
          inr (λ zero_there. stops_b (omega arith) (ap (λ n. get_or marks n 0) (sym place) ∙ zero_there))
      | no first ↦
          let place : a - (count + run) ≡ a - count - one = omega arith in
          inl (λ zero_there. stops_a (omega arith) (ap (λ n. get_or marks n 0) (sym place) ∙ zero_there))
    ]
