-- characters in a row, read and written together
use Rattle.std.proofs.Common.{◌≡◌, ◌++◌, ℕ, ◌+◌, ◌-◌, ◌<◌, ◌≤◌, All, List, sym, ◌∙◌, ap, arith, length, get_or, take, drop}
use Rattle.std.proofs.Math.Decide.{dec_lt}
use Rattle.std.proofs.lemmas.List.{ext_get_or, drop_all, drop_more, length-drop, length-append, length-take-le, get_or-drop, get_or-take, get_or_append_left, get_or-append-add}
use Rattle.std.proofs.lemmas.Simd.{length-chunk, get_or-chunk, length-put_chunk, get_or-put_chunk_below, get_or-put_chunk_at, get_or-put_chunk_above}
use Rattle.std.specs.Simd.Lanes.{chunk, put_chunk}
use Rattle.core_store.specs.Storage.{Storage, code_at, put, put_codes, codes_ending}
use Rattle.core_store.specs.Planes.{joined_planes}
use Rattle.core_store.proofs.Fields.{length-codes_ending, length-put_codes, is_marked-put_codes, cell-put_codes_below, cell-put_codes_above, code_at-put_codes, codes_ending_is_from, code-codes_from}
use Rattle.core_store.proofs.PlaneLemmas.{length-joined, cell-joined}
use Rattle.core_store.proofs.PlaneStretches.{put_codes_is, written_back}

-- ---- one by one

pub code-codes_ending : (s : Storage) (p count first j : ℕ) → first + count ≡ p + 1 → p < length s → j < count → get_or (codes_ending s p count) j 0 ≡ code_at s (first + j)
code-codes_ending s p count first j e h lt =
    ap (λ cs. get_or cs j 0) (codes_ending_is_from s p count first e) ∙ code-codes_from s first count j lt (omega arith)

pub codes_ending_is : (s : Storage) (p count first : ℕ) (xs : List ℕ) → first + count ≡ p + 1 → p < length s → length xs ≡ count →
    ((j : ℕ) → j < count → get_or xs j 0 ≡ code_at s (first + j)) → xs ≡ codes_ending s p count
codes_ending_is s p count first xs e h size read =
    let long : length (codes_ending s p count) ≡ count = length-codes_ending s p count h (omega arith) in
    ext_get_or 0 xs (codes_ending s p count) (size ∙ sym long)
    (λ j lt. let among : j < count = omega arith in read j among ∙ sym (code-codes_ending s p count first j e h among))

pub none_put : (s : Storage) (first n : ℕ) (codes : List ℕ) → length codes ≡ n → s ≡ put_codes s first (drop n codes)
unfolding put_codes
none_put s first n codes size = sym (ap (put_codes s first) (drop_all n codes (omega arith)))

pub one_put : (s now new : Storage) (first place : ℕ) (codes : List ℕ) (code : ℕ) → 0 < place → place ≤ length codes → now ≡ put_codes s (first + place) (drop place codes) →
    code ≡ get_or codes (place - 1) 0 → new ≡ put now (first + (place - 1)) code → new ≡ put_codes s (first + (place - 1)) (drop (place - 1) codes)
unfolding put_codes
one_put s now new first place codes code some le is code_is new_is =
    let back : place ≡ place - 1 + 1 = omega arith in
    let next : first + place ≡ first + (place - 1) + 1 = omega arith in
    new_is
    ∙ ap (put now (first + (place - 1))) code_is
    ∙ ap (λ t. put t (first + (place - 1)) (get_or codes (place - 1) 0)) (is ∙ ap (λ n. put_codes s n (drop place codes)) next ∙ ap (λ n. put_codes s (first + (place - 1) + 1) (drop n codes)) back)
    ∙ ap (put_codes s (first + (place - 1))) (sym (drop_more codes (place - 1) 0 (omega arith)))

-- ---- planes

pub codes_loaded : (codes marks plane lanes : List ℕ) (p : ℕ) → plane ≡ codes → length codes ≡ length marks → p < length codes → 15 ≤ p → lanes ≡ chunk (p - 15) 16 plane →
    lanes ≡ codes_ending (joined_planes codes marks) p 16
codes_loaded codes marks plane lanes p same even h room is =
    let long : length (joined_planes codes marks) ≡ length codes = length-joined codes marks even in
    let read : lanes ≡ chunk (p - 15) 16 codes = is ∙ ap (chunk (p - 15) 16) same in
    codes_ending_is (joined_planes codes marks) p 16 (p - 15) lanes (omega arith) (omega arith) (ap length read ∙ length-chunk (p - 15) 16 codes (omega arith))
    (λ j lt. ap (λ xs. get_or xs j 0) read ∙ get_or-chunk (p - 15) 16 codes j 0 lt ∙ ap (λ c. c.0) (sym (cell-joined codes marks (p - 15 + j) even)))

pub all_loaded : (codes plane lanes : List ℕ) (first n : ℕ) → plane ≡ codes → first + 16 ≤ length codes → lanes ≡ chunk first 16 plane → All (λ code. code < n) codes → All (λ code. code < n) lanes
all_loaded codes plane lanes first n same room is all k d lt =
    let read : lanes ≡ chunk first 16 codes = is ∙ ap (chunk first 16) same in
    let size : length lanes ≡ 16 = ap length read ∙ length-chunk first 16 codes room in
    let here : get_or lanes k d ≡ get_or codes (first + k) d = ap (λ xs. get_or xs k d) read ∙ get_or-chunk first 16 codes k d (omega arith) in
    let below : get_or codes (first + k) d < n = all (first + k) d (omega arith) in
    omega arith

module _ (codes lanes : List ℕ) (first : ℕ) (size : length lanes ≡ 16) (room : first + 16 ≤ length codes) where
  all_stored : (n : ℕ) → All (λ code. code < n) codes → All (λ code. code < n) lanes → All (λ code. code < n) (put_chunk first codes lanes)
  all_stored n all all' k d lt =
      let within : k < length codes = omega (arith, length-put_chunk first codes lanes) in
      elim (dec_lt k first) [
        | yes before ↦
            let here : get_or (put_chunk first codes lanes) k d ≡ get_or codes k d = get_or-put_chunk_below first codes lanes k d before in
            let below : get_or codes k d < n = all k d within in
            omega arith
        | no from ↦ elim (dec_lt k (first + 16)) [
          | yes among ↦
              let place : k ≡ first + (k - first) = omega arith in
              let here : get_or (put_chunk first codes lanes) k d ≡ get_or lanes (k - first) d =
              ap (λ i. get_or (put_chunk first codes lanes) i d) place ∙ get_or-put_chunk_at first codes lanes (k - first) d (omega arith) (omega arith) in
              let below : get_or lanes (k - first) d < n = all' (k - first) d (omega arith) in
              omega arith
          | no past ↦
              let here : get_or (put_chunk first codes lanes) k d ≡ get_or codes k d = get_or-put_chunk_above first codes lanes k d (omega arith) in
              let below : get_or codes k d < n = all k d within in
              omega arith
        ]
      ]

  stored_joined : (marks : List ℕ) → length codes ≡ length marks → joined_planes (put_chunk first codes lanes) marks ≡ put_codes (joined_planes codes marks) first lanes
  stored_joined marks even =
      let new = put_chunk first codes lanes in
      let s = joined_planes codes marks in
      let long : length s ≡ length codes = length-joined codes marks even in
      let kept : length new ≡ length codes = length-put_chunk first codes lanes in
      let even' : length new ≡ length marks = omega arith in
      put_codes_is s (joined_planes new marks) first lanes (length-joined new marks even' ∙ kept ∙ sym long) (omega arith)
      (λ k. ap (λ c. c.1) (cell-joined new marks k even') ∙ ap (λ c. c.1) (sym (cell-joined codes marks k even)))
      (λ k lt. ap (λ c. c.0) (cell-joined new marks k even') ∙ get_or-put_chunk_below first codes lanes k 0 lt ∙ ap (λ c. c.0) (sym (cell-joined codes marks k even)))
      (λ j lt. ap (λ c. c.0) (cell-joined new marks (first + j) even') ∙ get_or-put_chunk_at first codes lanes j 0 lt (omega arith))
      (λ k le. ap (λ c. c.0) (cell-joined new marks k even') ∙ get_or-put_chunk_above first codes lanes k 0 le ∙ ap (λ c. c.0) (sym (cell-joined codes marks k even)))

  -- the plane that is lent, written and given back
  module _ (n : ℕ) (plane new : List ℕ) (same : plane ≡ codes) (is : new ≡ put_chunk first plane lanes) (le : length codes ≤ n) where
    stored : new ≡ put_chunk first codes lanes
    stored = is ∙ ap (λ xs. put_chunk first xs lanes) same

    pub back : take n (new ++ drop (length new) codes) ≡ put_chunk first codes lanes
    back = written_back n new codes (ap length stored ∙ length-put_chunk first codes lanes) le ∙ stored

    pub length_back : length (take n (new ++ drop (length new) codes)) ≡ length codes
    length_back = ap length back ∙ length-put_chunk first codes lanes

    pub all_back : (m : ℕ) → All (λ code. code < m) codes → All (λ code. code < m) lanes → All (λ code. code < m) (take n (new ++ drop (length new) codes))
    all_back m all all' = rw back (all_stored m all all')

    pub joined_back : (marks : List ℕ) → length codes ≡ length marks → joined_planes (take n (new ++ drop (length new) codes)) marks ≡ put_codes (joined_planes codes marks) first lanes
    joined_back marks even = ap (λ xs. joined_planes xs marks) back ∙ stored_joined marks even

-- ---- the last of sixteen characters

pub last_of_sixteen : (s : Storage) (p count : ℕ) → 15 ≤ p → p < length s → count ≤ 16 → drop (16 - count) (codes_ending s p 16) ≡ codes_ending s p count
last_of_sixteen s p count room h le =
    let long : length (codes_ending s p 16) ≡ 16 = length-codes_ending s p 16 h (omega arith) in
    codes_ending_is s p count (p + 1 - count) (drop (16 - count) (codes_ending s p 16)) (omega arith) h (omega (arith, long, length-drop (16 - count) (codes_ending s p 16)))
    (λ j lt.
    let place : p - 15 + (16 - count + j) ≡ p + 1 - count + j = omega arith in
    get_or-drop (16 - count) (codes_ending s p 16) j 0 ∙ code-codes_ending s p 16 (p - 15) (16 - count + j) (omega arith) h (omega arith) ∙ ap (code_at s) place)

-- where the first of sixteen characters stay, only the last are written
module _ (s : Storage) (p count : ℕ) (xs : List ℕ) (room : 15 ≤ p) (h : p < length s) (le : count ≤ 16) (size : length xs ≡ count) where
  abbrev front : List ℕ
  front = take (16 - count) (codes_ending s p 16)

  abbrev all : List ℕ
  all = take (16 - count) (codes_ending s p 16) ++ xs

  front_long : length front ≡ 16 - count
  front_long = length-take-le (16 - count) (codes_ending s p 16) (omega (arith, length-codes_ending s p 16 h (omega arith)))

  long : length all ≡ 16
  long = length-append front xs ∙ sum_of (length front) (length xs) front_long size where
    sum_of : (x y : ℕ) → x ≡ 16 - count → y ≡ count → x + y ≡ 16
    sum_of x y ex ey = omega arith

  below : (k : ℕ) → k < p + 1 - count → code_at (put_codes s (p - 15) all) k ≡ code_at s k
  below k lt =
      elim (dec_lt k (p - 15)) [
        | yes before ↦ ap (λ c. c.0) (cell-put_codes_below s (p - 15) all k before)
        | no from ↦
            let place : k ≡ p - 15 + (k - (p - 15)) = omega arith in
            let back : p - 15 + (k - (p - 15)) ≡ k = omega arith in
            ap (code_at (put_codes s (p - 15) all)) place
            ∙ code_at-put_codes s (p - 15) all (k - (p - 15)) (omega (arith, long)) (omega (arith, long))
            ∙ get_or_append_left front xs 0 (k - (p - 15)) (omega (arith, front_long))
            ∙ get_or-take (16 - count) (codes_ending s p 16) (k - (p - 15)) 0 (omega arith)
            ∙ code-codes_ending s p 16 (p - 15) (k - (p - 15)) (omega arith) h (omega arith) ∙ ap (code_at s) back
      ]

  within : (j : ℕ) → j < length xs → code_at (put_codes s (p - 15) all) (p + 1 - count + j) ≡ get_or xs j 0
  within j lt =
      let place : p + 1 - count + j ≡ p - 15 + (length front + j) = omega (arith, front_long) in
      ap (code_at (put_codes s (p - 15) all)) place
      ∙ code_at-put_codes s (p - 15) all (length front + j) (omega (arith, long, front_long)) (omega (arith, long))
      ∙ get_or-append-add front xs j 0

  above : (k : ℕ) → p + 1 - count + length xs ≤ k → code_at (put_codes s (p - 15) all) k ≡ code_at s k
  above k from = ap (λ c. c.0) (cell-put_codes_above s (p - 15) all k (omega (arith, long)))

  pub put_last : put_codes s (p - 15) all ≡ put_codes s (p + 1 - count) xs
  put_last = put_codes_is s (put_codes s (p - 15) all) (p + 1 - count) xs (length-put_codes s (p - 15) all) (omega arith) (is_marked-put_codes s (p - 15) all) below within above
