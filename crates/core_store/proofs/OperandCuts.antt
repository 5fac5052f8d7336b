-- where a field is cut
use Rattle.std.proofs.Common.{◌≡◌, ◌⊎◌, ℕ, ◌+◌, ◌-◌, ◌<◌, ◌≤◌, true, false, Option, Some, None, refl, sym, ◌∙◌, ap, arith}
use Rattle.std.proofs.lemmas.Bool.{le-leb, lt-leb}
use Rattle.std.proofs.lemmas.Bool.Decides.{nat_tests}
use Rattle.std.proofs.Math.Decide.{dec_lt}
use Rattle.std.specs.Option.{option_map}
use Rattle.core_store.specs.Storage.{Storage, is_marked, greatest_mark, GreatestMark, field_length}
use Rattle.core_store.specs.Operands.{cut_length, is_within, is_overlapping}
use Rattle.core_store.proofs.Marks.{greatest_is, none_below, greatest_is_greatest}

module _ (s : Storage) (p limit : ℕ) where
  -- none of the lowest count positions is marked
  abbrev pub Unmarked : ℕ → Type 0
  Unmarked count = (k : ℕ) → k < count → is_marked s (p - k) ≡ false

  cut_within : (count : ℕ) → field_length s p ≡ Some count → count ≤ limit → cut_length s p limit ≡ Some count
  unfolding cut_length
  cut_within count found le = rw (found, le-leb count limit le) refl

  cut_longer : is_within (field_length s p) limit ≡ false → limit ≤ p + 1 → cut_length s p limit ≡ Some limit
  unfolding cut_length
  cut_longer long le = rw (long, le-leb limit (p + 1) le) refl

  cut_past : is_within (field_length s p) limit ≡ false → p + 1 < limit → cut_length s p limit ≡ None
  unfolding cut_length
  cut_past long lt = rw (long, lt-leb limit (p + 1) lt) refl

  -- a mark at the next position
  pub cut_marked : (count : ℕ) → count < limit → count ≤ p → is_marked s (p - count) ≡ true → Unmarked count → cut_length s p limit ≡ Some (count + 1)
  unfolding field_length
  cut_marked count lt le marked none =
      let first : ℕ = p - count in
      let many : p + 1 - first ≡ count + 1 = omega arith in
      let found : greatest_mark s p ≡ Some first =
      greatest_is s p first marked (omega arith)
      (λ k after upto. let back : k ≡ p - (p - k) = omega arith in ap (is_marked s) back ∙ none (p - k) (omega arith)) in
      cut_within (count + 1) (ap (option_map (λ q. p + 1 - q)) found ∙ ap Some many) (omega arith)

  -- no mark before position 0 is passed
  pub cut_passed : (count : ℕ) → p < count → count < limit → Unmarked count → cut_length s p limit ≡ None
  unfolding field_length
  cut_passed count past lt none =
      let found : greatest_mark s p ≡ None = none_below s p (λ k le. let back : k ≡ p - (p - k) = omega arith in ap (is_marked s) back ∙ none (p - k) (omega arith)) in
      cut_past (ap (λ (q : Option ℕ). is_within (option_map (λ n. p + 1 - n) q) limit) found) (omega arith)

  beyond : (found : Option ℕ) → limit ≤ p + 1 → GreatestMark s p found → Unmarked limit → is_within (option_map (λ q. p + 1 - q) found) limit ≡ false
  beyond None le h none = refl
  beyond (Some q) le h none =
      elim (dec_lt (p - q) limit) [
        | yes near ↦
            let not_above : q ≤ p = h.not_above in
            let back : q ≡ p - (p - q) = omega arith in
            let clash : true ≡ false = sym h.marked ∙ ap (is_marked s) back ∙ none (p - q) near in
            absurd (cc)
        | no far ↦ let not_above : q ≤ p = h.not_above in lt-leb (p + 1 - q) limit (omega arith)
      ]

  -- no mark among those that are wanted
  pub cut_unmarked : (count : ℕ) → limit ≡ count → count ≤ p + 1 → Unmarked count → Some limit ≡ cut_length s p limit
  unfolding field_length
  cut_unmarked count end le none =
      sym (cut_longer (beyond (greatest_mark s p) (omega arith) (greatest_is_greatest s p) (λ k lt. none k (omega arith))) (omega arith))

  pub unmarked_more : (count : ℕ) → Unmarked count → is_marked s (p - count) ≡ false → Unmarked (count + 1)
  unmarked_more count none here k lt =
      elim (dec_lt k count) [
        | yes before ↦ none k before
        | no last ↦ let same : k ≡ count = omega arith in ap (λ n. is_marked s (p - n)) same ∙ here
      ]

-- characters that are not written over before they are read
pub not_overlapping : (a b count : ℕ) → is_overlapping a b count ≡ false → (a ≤ b) ⊎ (count ≤ a - b)
not_overlapping a b count h = grind (arith, nat_tests)
