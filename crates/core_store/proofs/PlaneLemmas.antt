-- planes of codes and marks
use Rattle.std.proofs.Common.{◌≡◌, ◌≢◌, ◌⊎◌, inl, inr, ℕ, zero, suc, ◌+◌, ◌-◌, ◌<◌, ◌≤◌, ◌∙◌, Bool, true, false, not, cond, ◌%◌, ◌^◌, eqb, ltb, leb, ◌||◌, All, drop, List, [], ◌∷◌, Option, Some, None, get_or, set, length, replicate, map, min, ap, ap₂, sym, refl, arith}
use Rattle.std.proofs.lemmas.Bool.{eqb-true, lt-ltb}
use Rattle.std.specs.Simd.Lanes.{mask_l, chunk}
use Rattle.std.proofs.lemmas.Simd.{tops_compared, zip2_splat_left, mask_l-mod, none_from_empty_mask, length-chunk, get_or-chunk, trailing_mask_l, run_in_chunk_le, run_in_chunk_fails, run_in_chunk_stops}
use lib.Count.{count_trailing_zeros}
use lib.Lanes.{top, zip2}
use mir.Syntax.{w8}
use mir.Val.{bits, hbits}
use Rattle.std.proofs.lemmas.List.{length-map}
use Rattle.std.specs.List.{prefix_len, AllByRecursion}
use Rattle.std.proofs.lemmas.List.Elements.{recursion_from_All, All-take, All-drop}
use Rattle.core_store.specs.Storage.{is_marked, put, with_mark, greatest_mark, least_mark}
use Rattle.core_store.specs.Operands.{near_length, shared_length}
use Rattle.core_store.proofs.SharedMarks.{shared_here, shared_none}
use Rattle.core_store.proofs.NearMarks.{Bare, near_marked, near_unmarked}
use Rattle.std.proofs.Math.Decide.{dec_lt}
use Rattle.core_store.proofs.Marks.{none_below, greatest_is, least_is, none_among}
use Rattle.core_store.specs.Planes.{AreBare, IsBit, IsEither, joined_planes, IsLastMark}

pub not_other : (b : Bool) → not b ≡ false → b ≡ true
not_other true h = refl
not_other false h = absurd (cc)

pub not_zero : (n : ℕ) → not (eqb n 0) ≡ false → n ≡ 0
not_zero n h = eqb-true n 0 (not_other (eqb n 0) h)

pub length-joined : (codes marks : List ℕ) → length codes ≡ length marks → length (joined_planes codes marks) ≡ length codes
length-joined [] marks h = refl
length-joined (code ∷ codes) [] h = absurd (omega arith)
length-joined (code ∷ codes) (mark ∷ marks) h = ap suc (length-joined codes marks (omega arith))

pub cell-joined : (codes marks : List ℕ) (p : ℕ) → length codes ≡ length marks → get_or (joined_planes codes marks) p (0, false) ≡ (get_or codes p 0, ltb 0 (get_or marks p 0))
cell-joined [] [] p h = refl
cell-joined [] (mark ∷ marks) p h = absurd (omega arith)
cell-joined (code ∷ codes) [] p h = absurd (omega arith)
cell-joined (code ∷ codes) (mark ∷ marks) zero h = refl
cell-joined (code ∷ codes) (mark ∷ marks) (suc p) h = cell-joined codes marks p (omega arith)

pub joined-set_code : (codes marks : List ℕ) (p code : ℕ) → length codes ≡ length marks → joined_planes (set codes p code) marks ≡ set (joined_planes codes marks) p (code, ltb 0 (get_or marks p 0))
joined-set_code [] [] p code h = refl
joined-set_code [] (mark ∷ marks) p code h = refl
joined-set_code (c ∷ codes) [] p code h = absurd (omega arith)
joined-set_code (c ∷ codes) (mark ∷ marks) zero code h = refl
joined-set_code (c ∷ codes) (mark ∷ marks) (suc p) code h = ap (λ cells. (c, ltb 0 mark) ∷ cells) (joined-set_code codes marks p code (omega arith))

pub joined-set_mark : (codes marks : List ℕ) (p mark : ℕ) → length codes ≡ length marks → joined_planes codes (set marks p mark) ≡ set (joined_planes codes marks) p (get_or codes p 0, ltb 0 mark)
joined-set_mark [] [] p mark h = refl
joined-set_mark [] (m ∷ marks) p mark h = absurd (omega arith)
joined-set_mark (c ∷ codes) [] p mark h = absurd (omega arith)
joined-set_mark (c ∷ codes) (m ∷ marks) zero mark h = refl
joined-set_mark (c ∷ codes) (m ∷ marks) (suc p) mark h = ap (λ cells. (c, ltb 0 m) ∷ cells) (joined-set_mark codes marks p mark (omega arith))

pub joined-blank : (size : ℕ) → joined_planes (replicate size 0) (replicate size 0) ≡ replicate size (0, false)
joined-blank zero = refl
joined-blank (suc size) = ap (λ cells. (0, false) ∷ cells) (joined-blank size)

pub put-joined : (codes marks : List ℕ) (p code : ℕ) → length codes ≡ length marks → joined_planes (set codes p code) marks ≡ put (joined_planes codes marks) p code
put-joined codes marks p code h = joined-set_code codes marks p code h ∙ ap (λ (c : ℕ × Bool). set (joined_planes codes marks) p (code, c.1)) (sym (cell-joined codes marks p h))

pub mark-joined : (codes marks : List ℕ) (p mark : ℕ) → length codes ≡ length marks → joined_planes codes (set marks p mark) ≡ with_mark (joined_planes codes marks) p (ltb 0 mark)
mark-joined codes marks p mark h = joined-set_mark codes marks p mark h ∙ ap (λ (c : ℕ × Bool). set (joined_planes codes marks) p (c.0, ltb 0 mark)) (sym (cell-joined codes marks p h))

pub ruleset planes = (length-joined, cell-joined, joined-blank, put-joined, mark-joined)

pub mark-joined_at : (codes marks : List ℕ) (k : ℕ) → length codes ≡ length marks → is_marked (joined_planes codes marks) k ≡ ltb 0 (get_or marks k 0)
mark-joined_at codes marks k h = ap (λ (c : ℕ × Bool). c.1) (cell-joined codes marks k h)

pub unmarked : (codes marks : List ℕ) (k : ℕ) → length codes ≡ length marks → get_or marks k 0 ≡ 0 → is_marked (joined_planes codes marks) k ≡ false
unmarked codes marks k h zero_there = mark-joined_at codes marks k h ∙ ap (ltb 0) zero_there

-- the last byte that is not 0 is the greatest mark
pub last_is_greatest : (codes marks : List ℕ) (p : ℕ) (found : Option ℕ) → length codes ≡ length marks → IsLastMark marks p found → greatest_mark (joined_planes codes marks) p ≡ found
last_is_greatest codes marks p None h none = none_below (joined_planes codes marks) p (λ k le. unmarked codes marks k h (none k le))
last_is_greatest codes marks p (Some q) h last =
    let some : 0 < get_or marks q 0 = omega (arith, last.marked) in
    greatest_is (joined_planes codes marks) p q (mark-joined_at codes marks q h ∙ lt-ltb 0 (get_or marks q 0) some) last.not_above
    (λ k lt le. unmarked codes marks k h (last.none_between k lt le))

-- a byte that is not 0
abbrev pub is_some : ℕ → Bool
is_some x = not (eqb x 0)

pub some_is : (n : ℕ) → not (eqb n 0) ≡ true → n ≢ 0
some_is zero h = absurd (cc)
some_is (suc n) h = omega arith

-- of the bytes of marks, those that are not 0 are the ones from 128 on
zero_or_full : (x : ℕ) (zero_there full : Bool) → eqb x 0 ≡ zero_there → eqb x 255 ≡ full → (zero_there || full) ≡ true → leb 128 x ≡ is_some x
zero_or_full x true full zero_is full_is h = let e : x ≡ 0 = eqb-true x 0 zero_is in rw e refl
zero_or_full x false true zero_is full_is h = let e : x ≡ 255 = eqb-true x 255 full_is in rw e refl
zero_or_full x false false zero_is full_is h = absurd (cc)

top_is_some : (x : ℕ) → IsBit x → leb 128 x ≡ is_some x
top_is_some x bit = zero_or_full x (eqb x 0) (eqb x 255) refl refl bit

tops_are_some : (xs : List ℕ) → AllByRecursion IsBit xs → map (leb 128) xs ≡ map is_some xs
tops_are_some [] bits = refl
tops_are_some (x ∷ xs) bits = ap₂ (λ b bs. b ∷ bs) (top_is_some x bits.0) (tops_are_some xs bits.1)

pub tops_chunk : (marks : List ℕ) (at count : ℕ) → All IsBit marks → map (leb 128) (chunk at count marks) ≡ map is_some (chunk at count marks)
tops_chunk marks at count bits =
    tops_are_some (chunk at count marks) (recursion_from_All IsBit (chunk at count marks) (All-take IsBit count (drop at marks) (All-drop IsBit at marks bits)))

-- the mask of the bytes from 128 on is that of the marks
pub bitmask_marks : (marks : List ℕ) (at count : ℕ) → at + count ≤ length marks → count ≤ 64 → All IsBit marks →
    mask_l (map (top (hbits w8)) (zip2 (λ a b. cond (leb a b) (2 ^ bits w8 - 1) 0) (replicate count 128) (chunk at count marks))) % 2 ^ 64 ≡ mask_l (map is_some (chunk at count marks))
bitmask_marks marks at count room few all =
    let long : length (chunk at count marks) ≡ count = length-chunk at count marks room in
    ap (λ ms. mask_l ms % 2 ^ 64) (tops_compared w8 leb (replicate count 128) (chunk at count marks) ∙ zip2_splat_left leb 128 count (chunk at count marks) long ∙ tops_chunk marks at count all)
    ∙ mask_l-mod (map is_some (chunk at count marks)) 64 (omega (arith, long, length-map (chunk at count marks) is_some))

-- where the mask of some bytes is not 0, one of them passes
abbrev SomePasses : (ℕ → Bool) → List ℕ → Type 0
SomePasses p xs = (k : ℕ) × (k < length xs) × (p (get_or xs k 0) ≡ true)

passes_by_first : (p : ℕ → Bool) (x : ℕ) (xs : List ℕ) (first : Bool) → p x ≡ first → mask_l (map p (x ∷ xs)) ≢ 0 → (mask_l (map p xs) ≢ 0 → SomePasses p xs) → SomePasses p (x ∷ xs)
passes_by_first p x xs true here some rest = (0, omega arith, here)
passes_by_first p x xs false here some rest =
    let (k, within, passes) = rest (λ none. some (rw (here, none) refl)) in
    (suc k, omega arith, passes)

some_passes : (p : ℕ → Bool) (xs : List ℕ) → mask_l (map p xs) ≢ 0 → SomePasses p xs
some_passes p [] some = absurd (some refl)
some_passes p (x ∷ xs) some = passes_by_first p x xs (p x) refl some (some_passes p xs)

-- the same of the mask of a load
pub some_of_chunk : (marks : List ℕ) (at count : ℕ) → at + count ≤ length marks → mask_l (map is_some (chunk at count marks)) ≢ 0 →
    (k : ℕ) × (at ≤ k) × (k < at + count) × (get_or marks k 0 ≢ 0)
some_of_chunk marks at count room some =
    let (k, within, passes) = some_passes is_some (chunk at count marks) some in
    let long : length (chunk at count marks) ≡ count = length-chunk at count marks room in
    let here : get_or (chunk at count marks) k 0 ≡ get_or marks (at + k) 0 = get_or-chunk at count marks k 0 (omega arith) in
    (at + k, omega arith, omega arith, some_is (get_or marks (at + k) 0) (ap is_some (sym here) ∙ passes))

-- what the mask of eight bytes tells of them
module _ (marks : List ℕ) (at mask : ℕ) (room : at + 8 ≤ length marks) (is : mask ≡ mask_l (map is_some (chunk at 8 marks))) where
  long : length (chunk at 8 marks) ≡ 8
  long = length-chunk at 8 marks room

  pub none_of_eight : mask ≡ 0 → (k : ℕ) → at ≤ k → k < at + 8 → get_or marks k 0 ≡ 0
  none_of_eight none k le lt = not_zero (get_or marks k 0) (none_from_empty_mask is_some marks at 8 0 room (sym is ∙ none) k le lt)

  counted : mask ≢ 0 → count_trailing_zeros 64 mask ≡ prefix_len (λ x. not (is_some x)) (chunk at 8 marks)
  counted some = ap (count_trailing_zeros 64) is ∙ trailing_mask_l is_some 64 (chunk at 8 marks) (omega (arith, long)) (omega (arith, some, is))

  pub run_most : mask ≢ 0 → count_trailing_zeros 64 mask ≤ 8
  run_most some = run_in_chunk_le is_some marks at 8 (count_trailing_zeros 64 mask) 0 room (counted some)

  pub run_before : mask ≢ 0 → (k : ℕ) → at ≤ k → k < at + count_trailing_zeros 64 mask → get_or marks k 0 ≡ 0
  run_before some k le lt = not_zero (get_or marks k 0) (run_in_chunk_fails is_some marks at 8 (count_trailing_zeros 64 mask) 0 room (counted some) k le lt)

  pub run_stops : mask ≢ 0 → count_trailing_zeros 64 mask < 8 → get_or marks (at + count_trailing_zeros 64 mask) 0 ≢ 0
  run_stops some short = some_is _ (run_in_chunk_stops is_some marks at 8 (count_trailing_zeros 64 mask) 0 room (counted some) short)

-- the first of eight bytes that is not 0 is the next mark
module _ (codes marks slice : List ℕ) (same : slice ≡ marks) (p run : ℕ) (even : length codes ≡ length marks) (before : (k : ℕ) → p + 1 ≤ k → k < p + 1 + run → get_or slice k 0 ≡ 0) where
  none_before : (k : ℕ) → p + 1 ≤ k → k < p + 1 + run → is_marked (joined_planes codes marks) k ≡ false
  none_before k le lt = unmarked codes marks k even (ap (λ l. get_or l k 0) (sym same) ∙ before k le lt)

  pub next_mark : run < 8 → get_or slice (p + 1 + run) 0 ≢ 0 → least_mark (joined_planes codes marks) (p + 1) 8 ≡ Some (p + 1 + run)
  next_mark short stops =
      let here : get_or slice (p + 1 + run) 0 ≡ get_or marks (p + 1 + run) 0 = ap (λ l. get_or l (p + 1 + run) 0) same in
      let some : 0 < get_or marks (p + 1 + run) 0 = omega (arith, stops, here) in
      least_is (joined_planes codes marks) (p + 1) 8 (p + 1 + run) (omega arith) (omega arith)
      (mark-joined_at codes marks (p + 1 + run) even ∙ lt-ltb 0 (get_or marks (p + 1 + run) 0) some)
      none_before

  pub no_next_mark : run ≡ 8 → least_mark (joined_planes codes marks) (p + 1) 8 ≡ None
  no_next_mark all = none_among (joined_planes codes marks) (p + 1) 8 (λ k le lt. none_before k le (omega arith))

-- the last of sixteen bytes that is not 0 is the nearest mark
pub near_joined : (codes marks slice : List ℕ) → slice ≡ marks → (p run : ℕ) → length codes ≡ length marks → 15 ≤ p → run ≤ 16 →
    ((k : ℕ) → k < run → get_or slice (p - k) 0 ≡ 0) → (run < 16 → get_or slice (p - run) 0 ≢ 0) → run + 1 ≡ near_length (joined_planes codes marks) p
near_joined codes marks slice same p run even room most after stops =
    elim (dec_lt run 16) [
      | yes short ↦
          let here : get_or slice (p - run) 0 ≡ get_or marks (p - run) 0 = ap (λ l. get_or l (p - run) 0) same in
          let some : 0 < get_or marks (p - run) 0 = omega (arith, stops short, here) in
          near_marked (joined_planes codes marks) p run short room (mark-joined_at codes marks (p - run) even ∙ lt-ltb 0 (get_or marks (p - run) 0) some) bare
      | no whole ↦
          let all : run ≡ 16 = omega arith in
          ap (λ n. n + 1) all ∙ near_unmarked (joined_planes codes marks) p room (λ k lt. bare k (omega arith))
    ] where
      bare : Bare (joined_planes codes marks) p run
      bare k lt = unmarked codes marks (p - k) even (ap (λ l. get_or l (p - k) 0) (sym same) ∙ after k lt)

marked_there : (codes marks : List ℕ) (k : ℕ) → length codes ≡ length marks → get_or marks k 0 ≢ 0 → is_marked (joined_planes codes marks) k ≡ true
marked_there codes marks k even some =
    let more : 0 < get_or marks k 0 = omega (arith, some) in mark-joined_at codes marks k even ∙ lt-ltb 0 (get_or marks k 0) more

-- two fields of planes, of which so many last bytes are no marks
module _ (codes marks slice : List ℕ) (same : slice ≡ marks) (a b run : ℕ) (even : length codes ≡ length marks) where
  bare_a : AreBare slice a b run → Bare (joined_planes codes marks) a run
  bare_a none k lt = unmarked codes marks (a - k) even (ap (λ l. get_or l (a - k) 0) (sym same) ∙ (none k lt).0)

  bare_b : AreBare slice a b run → Bare (joined_planes codes marks) b run
  bare_b none k lt = unmarked codes marks (b - k) even (ap (λ l. get_or l (b - k) 0) (sym same) ∙ (none k lt).1)

  some_in : (p : ℕ) → get_or slice p 0 ≢ 0 → is_marked (joined_planes codes marks) p ≡ true
  some_in p some = marked_there codes marks p even (λ zero_there. some (ap (λ l. get_or l p 0) same ∙ zero_there))

  either : IsEither slice a b run → (is_marked (joined_planes codes marks) (a - run) ≡ true) ⊎ (is_marked (joined_planes codes marks) (b - run) ≡ true)
  either (inl some) = inl (some_in (a - run) some)
  either (inr some) = inr (some_in (b - run) some)

  pub shared_joined : run ≤ min a b → AreBare slice a b run → IsEither slice a b run → Some (run + 1) ≡ shared_length (joined_planes codes marks) a b
  shared_joined within none some = shared_here (joined_planes codes marks) a b run (omega arith) (omega arith) (either some) (bare_a none) (bare_b none)

  pub shared_none_joined : run ≡ min a b + 1 → AreBare slice a b run → None ≡ shared_length (joined_planes codes marks) a b
  shared_none_joined all none = shared_none (joined_planes codes marks) a b run all (bare_a none) (bare_b none)
