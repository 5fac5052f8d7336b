-- the end of a word, by the mask of sixteen bytes
use Rattle.std.proofs.Common.{◌≡◌, ◌≢◌, ℕ, ◌+◌, ◌*◌, ◌/◌, ◌%◌, ◌<◌, ◌≤◌, ◌∙◌, if◌then◌else◌, Bool, true, false, not, cond, List, Option, Some, None, get_or, length, map, take, ap, sym, refl, arith}
use Rattle.std.proofs.Math.Decide.{dec_lt}
use Rattle.std.proofs.lemmas.Bool.{lt-ltb}
use Rattle.std.proofs.lemmas.List.{drop_more}
use Rattle.std.specs.Simd.Lanes.{mask_l, chunk}
use Rattle.std.specs.List.{prefix_len}
use Rattle.std.proofs.lemmas.Simd.{none_from_empty_mask, length-chunk, trailing_mask_l, run_in_chunk_fails, run_in_chunk_stops}
use lib.Count.{count_trailing_zeros}
use Rattle.core_store.specs.Storage.{Storage, is_marked, least_mark}
use Rattle.core_store.specs.Planes.{joined_planes}
use Rattle.core_store.proofs.Marks.{least_is, none_among}
use Rattle.core_store.proofs.PlaneLemmas.{is_some, some_is, not_zero, mark-joined_at, unmarked}

half_of : (b : Bool) (n m : ℕ) → m ≡ cond b 1 0 + 2 * n → m / 2 ≡ n
half_of true n m is = omega arith
half_of false n m is = omega arith

even_bit : (b : Bool) (n m : ℕ) → m ≡ cond b 1 0 + 2 * n → m % 2 ≡ 0 → b ≡ false
even_bit true n m is even = absurd (omega arith)
even_bit false n m is even = refl

odd_bit : (b : Bool) (n m : ℕ) → m ≡ cond b 1 0 + 2 * n → m % 2 ≢ 0 → b ≡ true
odd_bit true n m is odd = refl
odd_bit false n m is odd = absurd (omega arith)

-- the end of a word that begins with a mark, or not
abbrev pub Ends : Storage → ℕ → Option ℕ → Type 0
Ends s p found = found ≡ (if is_marked s p then least_mark s (p + 1) 8 else None)

no_word : (s : Storage) (p : ℕ) → is_marked s p ≡ false → Ends s p None
no_word s p m = rw m refl

a_word : (s : Storage) (p : ℕ) (found : Option ℕ) → is_marked s p ≡ true → least_mark s (p + 1) 8 ≡ found → Ends s p found
a_word s p found m is = rw m (sym is)

no_zeros : count_trailing_zeros 64 0 ≡ 64
unfolding count_trailing_zeros
no_zeros = refl

module _ (codes marks slice : List ℕ) (same : slice ≡ marks) (p mask : ℕ) (even : length codes ≡ length marks) (room : p + 16 ≤ length marks) (is : mask ≡ mask_l (map is_some (chunk p 16 slice))) where
  halves : mask ≡ cond (is_some (get_or marks p 0)) 1 0 + 2 * mask_l (map is_some (chunk (p + 1) 15 marks))
  halves =
      is ∙ ap (λ l. mask_l (map is_some (chunk p 16 l))) same
      ∙ ap (λ l. mask_l (map is_some (take 16 l))) (drop_more marks p 0 (omega arith))

  rest : mask / 2 ≡ mask_l (map is_some (chunk (p + 1) 15 marks))
  rest = half_of (is_some (get_or marks p 0)) (mask_l (map is_some (chunk (p + 1) 15 marks))) mask halves

  marked : mask % 2 ≢ 0 → is_marked (joined_planes codes marks) p ≡ true
  marked odd =
      let here = some_is (get_or marks p 0) (odd_bit (is_some (get_or marks p 0)) _ mask halves odd) in
      mark-joined_at codes marks p even ∙ lt-ltb 0 (get_or marks p 0) (omega (arith, here))

  counted : mask / 2 ≢ 0 → count_trailing_zeros 64 (mask / 2) ≡ prefix_len (λ x. not (is_some x)) (chunk (p + 1) 15 marks)
  counted some =
      ap (count_trailing_zeros 64) rest
      ∙ trailing_mask_l is_some 64 (chunk (p + 1) 15 marks) (omega (arith, length-chunk (p + 1) 15 marks (omega arith))) (omega (arith, some, rest))

  bare : (k : ℕ) → p + 1 ≤ k → k < p + 1 + 15 → k < p + 1 + count_trailing_zeros 64 (mask / 2) → is_marked (joined_planes codes marks) k ≡ false
  bare k le near lt =
      elim (dec_lt 0 (mask / 2)) [
        | yes some ↦
            unmarked codes marks k even (not_zero (get_or marks k 0) (run_in_chunk_fails is_some marks (p + 1) 15 (count_trailing_zeros 64 (mask / 2)) 0 (omega arith) (counted (omega arith)) k le lt))
        | no none ↦
            unmarked codes marks k even (not_zero (get_or marks k 0) (none_from_empty_mask is_some marks (p + 1) 15 0 (omega arith) (omega (arith, rest, none)) k le near))
      ]

  pub unmarked_word : mask % 2 ≡ 0 → Ends (joined_planes codes marks) p None
  unmarked_word none =
      no_word (joined_planes codes marks) p (unmarked codes marks p even (not_zero (get_or marks p 0) (even_bit (is_some (get_or marks p 0)) _ mask halves none)))

  pub long_word : mask % 2 ≢ 0 → 8 ≤ count_trailing_zeros 64 (mask / 2) → Ends (joined_planes codes marks) p None
  long_word odd long =
      a_word (joined_planes codes marks) p None (marked odd)
      (none_among (joined_planes codes marks) (p + 1) 8 (λ k le lt. bare k le (omega arith) (omega arith)))

  pub short_word : mask % 2 ≢ 0 → count_trailing_zeros 64 (mask / 2) < 8 → Ends (joined_planes codes marks) p (Some (p + 1 + count_trailing_zeros 64 (mask / 2)))
  short_word odd short =
      let end = p + 1 + count_trailing_zeros 64 (mask / 2) in
      let some : mask / 2 ≢ 0 = λ none. absurd (omega (arith, short, ap (count_trailing_zeros 64) none, no_zeros)) in
      let here = some_is (get_or marks end 0) (run_in_chunk_stops is_some marks (p + 1) 15 (count_trailing_zeros 64 (mask / 2)) 0 (omega arith) (counted some) (omega arith)) in
      a_word (joined_planes codes marks) p (Some end) (marked odd)
      (least_is (joined_planes codes marks) (p + 1) 8 end (omega arith) (omega arith)
      (mark-joined_at codes marks end even ∙ lt-ltb 0 (get_or marks end 0) (omega (arith, here)))
      (λ k le lt. bare k le (omega arith) lt))
