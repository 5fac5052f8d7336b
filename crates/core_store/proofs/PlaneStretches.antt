-- storages that differ in one stretch
use Rattle.std.proofs.Common.{Bool, false, ◌++◌, take, drop, ◌≡◌, ℕ, ◌+◌, ◌-◌, ◌<◌, ◌≤◌, List, ltb, sym, ◌∙◌, ap, arith, length, get_or, replicate}
use Rattle.std.proofs.Math.Decide.{dec_lt}
use Rattle.std.proofs.lemmas.List.{ext_get_or, drop_all, append-nil, take_all, get_or-replicate, length-replicate}
use Rattle.std.specs.List.{CopiedTo, SameBelow, SameFrom}
use Rattle.core_store.specs.Storage.{Storage, code_at, is_marked, put_codes, put_cells, codes_ending, cells_ending, blank_cell}
use Rattle.core_store.specs.Planes.{joined_planes}
use Rattle.core_store.proofs.PlaneLemmas.{length-joined, cell-joined}
use Rattle.core_store.proofs.Fields.{length-put_codes, length-put_cells, cell-put_codes_below, cell-put_codes_above, code_at-put_codes, is_marked-put_codes, cell-put_cells_below, cell-put_cells_above, cell-put_cells, codes_ending_is_from, code-codes_from, length-codes_ending, length-cells_ending, nth-cells_ending}

pair_is : (c d : ℕ × Bool) → c.0 ≡ d.0 → c.1 ≡ d.1 → c ≡ d
pair_is (x, b) (y, m) h k = cc

-- other characters in a stretch
pub put_codes_is : (s t : Storage) (first : ℕ) (xs : List ℕ) → length t ≡ length s → first + length xs ≤ length s → ((k : ℕ) → is_marked t k ≡ is_marked s k) →
    ((k : ℕ) → k < first → code_at t k ≡ code_at s k) → ((j : ℕ) → j < length xs → code_at t (first + j) ≡ get_or xs j 0) →
    ((k : ℕ) → first + length xs ≤ k → code_at t k ≡ code_at s k) → t ≡ put_codes s first xs
put_codes_is s t first xs size room marks below within above =
    ext_get_or (0, false) t (put_codes s first xs) (size ∙ sym (length-put_codes s first xs))
    (λ i lt. pair_is (get_or t i (0, false)) (get_or (put_codes s first xs) i (0, false)) (code i) (marks i ∙ sym (is_marked-put_codes s first xs i))) where
      code : (i : ℕ) → code_at t i ≡ code_at (put_codes s first xs) i
      code i =
          elim (dec_lt i first) [
            | yes before ↦ below i before ∙ ap (λ c. c.0) (sym (cell-put_codes_below s first xs i before))
            | no from ↦ elim (dec_lt i (first + length xs)) [
              | yes among ↦
                  let place : i ≡ first + (i - first) = omega arith in
                  ap (code_at t) place ∙ within (i - first) (omega arith)
                  ∙ sym (code_at-put_codes s first xs (i - first) (omega arith) room) ∙ ap (code_at (put_codes s first xs)) (sym place)
              | no past ↦ above i (omega arith) ∙ ap (λ c. c.0) (sym (cell-put_codes_above s first xs i (omega arith)))
            ]
          ]

-- other cells in a stretch
pub put_cells_is : (s t : Storage) (first : ℕ) (xs : Storage) → length t ≡ length s → first + length xs ≤ length s →
    ((k : ℕ) → k < first → get_or t k (0, false) ≡ get_or s k (0, false)) → ((j : ℕ) → j < length xs → get_or t (first + j) (0, false) ≡ get_or xs j (0, false)) →
    ((k : ℕ) → first + length xs ≤ k → get_or t k (0, false) ≡ get_or s k (0, false)) → t ≡ put_cells s first xs
put_cells_is s t first xs size room below within above =
    ext_get_or (0, false) t (put_cells s first xs) (size ∙ sym (length-put_cells s first xs))
    (λ i lt. elim (dec_lt i first) [
      | yes before ↦ below i before ∙ sym (cell-put_cells_below s first xs i before)
      | no from ↦ elim (dec_lt i (first + length xs)) [
        | yes among ↦
            let place : i ≡ first + (i - first) = omega arith in
            ap (λ n. get_or t n (0, false)) place ∙ within (i - first) (omega arith)
            ∙ sym (cell-put_cells s first xs (i - first) (omega arith) room) ∙ ap (λ n. get_or (put_cells s first xs) n (0, false)) (sym place)
        | no past ↦ above i (omega arith) ∙ sym (cell-put_cells_above s first xs i (omega arith))
      ]
    ])

-- a plane after a copy within it
abbrev pub IsCopied : List ℕ → List ℕ → ℕ → ℕ → ℕ → Type 0
IsCopied old new src dest n = CopiedTo old new src dest n × SameBelow old new dest × SameFrom old new (dest + n)

copied_within : (old new : List ℕ) (src dest n j : ℕ) → IsCopied old new src dest n → j < n → get_or new (dest + j) 0 ≡ get_or old (src + j) 0
copied_within old new src dest n j copied lt =
    let back : src + (dest + j - dest) ≡ src + j = omega arith in
    copied.0 (dest + j) 0 (omega arith) (omega arith) ∙ ap (λ k. get_or old k 0) back

-- a plane that is lent and written back
pub written_back : (n : ℕ) (lent plane : List ℕ) → length lent ≡ length plane → length plane ≤ n → take n (lent ++ drop (length lent) plane) ≡ lent
written_back n lent plane size le =
    ap (λ rest. take n (lent ++ rest)) (drop_all (length lent) plane (omega arith)) ∙ ap (take n) (append-nil lent) ∙ take_all n lent (omega arith)

pub both_written_back : (n : ℕ) (codes old_codes : List ℕ) → length codes ≡ length old_codes → length old_codes ≤ n →
    (m : ℕ) (marks old_marks : List ℕ) → length marks ≡ length old_marks → length old_marks ≤ m →
    joined_planes (take n (codes ++ drop (length codes) old_codes)) (take m (marks ++ drop (length marks) old_marks)) ≡ joined_planes codes marks
both_written_back n codes old_codes size le m marks old_marks size' le' =
    ap (λ xs. joined_planes xs (take m (marks ++ drop (length marks) old_marks))) (written_back n codes old_codes size le)
    ∙ ap (joined_planes codes) (written_back m marks old_marks size' le')

module _ (codes marks : List ℕ) (a b count n : ℕ) (even : length codes ≡ length marks) (a_in : a < length codes) (b_in : b < length codes)
    (a_from : count ≤ a + 1) (b_from : count ≤ b + 1) (many : n ≡ count) (new : List ℕ) (size : length new ≡ length codes)
    (copied : IsCopied codes new (a + 1 - count) (b + 1 - count) n) where
  s : Storage
  s = joined_planes codes marks

  long : length (joined_planes codes marks) ≡ length codes
  long = length-joined codes marks even

  pub codes_copied : joined_planes new marks ≡ put_codes (joined_planes codes marks) (b + 1 - count) (codes_ending (joined_planes codes marks) a count)
  codes_copied =
      let first = b + 1 - count in
      let s = joined_planes codes marks in
      let t = joined_planes new marks in
      let xs = codes_ending s a count in
      let size_xs : length xs ≡ count = length-codes_ending s a count (omega (arith, long)) a_from in
      let even' : length new ≡ length marks = omega arith in
      put_codes_is s t first xs (length-joined new marks even' ∙ size ∙ sym long) (omega (arith, long))
      (λ k. ap (λ c. c.1) (cell-joined new marks k even') ∙ ap (λ c. c.1) (sym (cell-joined codes marks k even)))
      (λ k lt. ap (λ c. c.0) (cell-joined new marks k even') ∙ copied.1 k 0 lt ∙ ap (λ c. c.0) (sym (cell-joined codes marks k even)))
      (λ j lt.
      ap (λ c. c.0) (cell-joined new marks (first + j) even')
      ∙ copied_within codes new (a + 1 - count) first n j copied (omega arith)
      ∙ ap (λ c. c.0) (sym (cell-joined codes marks (a + 1 - count + j) even))
      ∙ sym (code-codes_from s (a + 1 - count) count j (omega arith) (omega (arith, long)))
      ∙ ap (λ cs. get_or cs j 0) (sym (codes_ending_is_from s a count (a + 1 - count) (omega arith))))
      (λ k le. ap (λ c. c.0) (cell-joined new marks k even') ∙ copied.2 k 0 (omega arith) ∙ ap (λ c. c.0) (sym (cell-joined codes marks k even)))

  pub cells_copied : (new_marks : List ℕ) → length new_marks ≡ length marks → (m : ℕ) → m ≡ count → IsCopied marks new_marks (a + 1 - count) (b + 1 - count) m →
      joined_planes new new_marks ≡ put_cells (joined_planes codes marks) (b + 1 - count) (cells_ending (joined_planes codes marks) a count)
  cells_copied new_marks size' m many' copied' =
      let first = b + 1 - count in
      let s = joined_planes codes marks in
      let t = joined_planes new new_marks in
      let xs = cells_ending s a count in
      let size_xs : length xs ≡ count = length-cells_ending s a count (omega (arith, long)) a_from in
      let even' : length new ≡ length new_marks = omega arith in
      put_cells_is s t first xs (length-joined new new_marks even' ∙ size ∙ sym long) (omega (arith, long))
      (λ k lt. cell-joined new new_marks k even' ∙ ap (λ x. (x, ltb 0 (get_or new_marks k 0))) (copied.1 k 0 lt) ∙ ap (λ y. (get_or codes k 0, ltb 0 y)) (copied'.1 k 0 lt)
      ∙ sym (cell-joined codes marks k even))
      (λ j lt.
      let back : a - (count - 1 - j) ≡ a + 1 - count + j = omega arith in
      cell-joined new new_marks (first + j) even'
      ∙ ap (λ x. (x, ltb 0 (get_or new_marks (first + j) 0))) (copied_within codes new (a + 1 - count) first n j copied (omega arith))
      ∙ ap (λ y. (get_or codes (a + 1 - count + j) 0, ltb 0 y)) (copied_within marks new_marks (a + 1 - count) first m j copied' (omega arith))
      ∙ sym (cell-joined codes marks (a + 1 - count + j) even)
      ∙ ap (λ n. get_or s n (0, false)) (sym back)
      ∙ sym (nth-cells_ending s a count j (count - 1 - j) (omega (arith, long)) a_from (omega arith)))
      (λ k le. cell-joined new new_marks k even' ∙ ap (λ x. (x, ltb 0 (get_or new_marks k 0))) (copied.2 k 0 (omega arith))
      ∙ ap (λ y. (get_or codes k 0, ltb 0 y)) (copied'.2 k 0 (omega arith)) ∙ sym (cell-joined codes marks k even))

-- a plane after one value was written in a stretch of it
abbrev pub IsFilled : List ℕ → List ℕ → ℕ → ℕ → ℕ → Type 0
IsFilled old new first end value = ((k d : ℕ) → first ≤ k → k < end → get_or new k d ≡ value) × SameBelow old new first × SameFrom old new end

pub filled_as : (plane lent new : List ℕ) (first end value code : ℕ) → lent ≡ plane → value ≡ code → ((k d : ℕ) → first ≤ k → k < end → get_or new k d ≡ value) →
    SameBelow lent new first × SameFrom lent new end → IsFilled plane new first end code
filled_as plane lent new first end value code is made filled kept = (
  (λ k d le lt. filled k d le lt ∙ made),
  (λ k d lt. kept.0 k d lt ∙ ap (λ l. get_or l k d) is),
  (λ k d le. kept.1 k d le ∙ ap (λ l. get_or l k d) is),
)

pub cells_cleared : (codes marks new new_marks : List ℕ) (first last : ℕ) → length codes ≡ length marks → first ≤ last → last < length codes →
    length new ≡ length codes → length new_marks ≡ length marks → IsFilled codes new first (last + 1) 0 → IsFilled marks new_marks first (last + 1) 0 →
    joined_planes new new_marks ≡ put_cells (joined_planes codes marks) first (replicate (last + 1 - first) blank_cell)
cells_cleared codes marks new new_marks first last even order inside size size' filled filled' =
    let s = joined_planes codes marks in
    let t = joined_planes new new_marks in
    let xs = replicate (last + 1 - first) blank_cell in
    let size_xs : length xs ≡ last + 1 - first = length-replicate (last + 1 - first) blank_cell in
    let long : length s ≡ length codes = length-joined codes marks even in
    let even' : length new ≡ length new_marks = omega arith in
    put_cells_is s t first xs (length-joined new new_marks even' ∙ size ∙ sym long) (omega arith)
    (λ k lt. cell-joined new new_marks k even' ∙ ap (λ x. (x, ltb 0 (get_or new_marks k 0))) (filled.1 k 0 lt) ∙ ap (λ y. (get_or codes k 0, ltb 0 y)) (filled'.1 k 0 lt)
    ∙ sym (cell-joined codes marks k even))
    (λ j lt.
    cell-joined new new_marks (first + j) even'
    ∙ ap (λ x. (x, ltb 0 (get_or new_marks (first + j) 0))) (filled.0 (first + j) 0 (omega arith) (omega arith))
    ∙ ap (λ y. (0, ltb 0 y)) (filled'.0 (first + j) 0 (omega arith) (omega arith))
    ∙ sym (get_or-replicate (last + 1 - first) j blank_cell (0, false) (omega arith)))
    (λ k le. cell-joined new new_marks k even' ∙ ap (λ x. (x, ltb 0 (get_or new_marks k 0))) (filled.2 k 0 (omega arith))
    ∙ ap (λ y. (get_or codes k 0, ltb 0 y)) (filled'.2 k 0 (omega arith)) ∙ sym (cell-joined codes marks k even))
