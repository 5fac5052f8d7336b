-- how many digit places are to the right of each of sixteen lanes
use Rattle.std.proofs.Common.{◌≡◌, ◌++◌, ℕ, zero, suc, ◌+◌, ◌-◌, ◌%◌, ◌<◌, ◌≤◌, ◌==◌, All, Bool, true, false, if◌then◌else◌, List, [], ◌∷◌, refl, sym, ◌∙◌, ap, arith, add-one, length, get_or, drop, map, replicate}
use Rattle.std.specs.List.{range_with_len}
use Rattle.std.specs.Simd.Lanes.{sel_l, zip2, pick_l, chunk}
use Rattle.std.proofs.Math.Decide.{dec_lt}
use Rattle.std.proofs.lemmas.List.{ext_get_or, drop_all, length-drop, length-append, length-map, get_or_past, get_or_append_left, get_or-append_right}
use Rattle.std.proofs.lemmas.List.Elements.{All-nil, All-cons, All-head, All-tail, All-same}
use Rattle.std.proofs.lemmas.Simd.{length-zip2, get_or-zip2, length-chunk, get_or-chunk, get_or-replicate, pick_l-range_with_len}
use Rattle.moves.specs.Edited.{is_place, places, places_right}
use Rattle.moves.proofs.LaneLemmas.{is_place_by_number, places_most}

-- ---- a lane of 1 for each digit place

abbrev pub place_bit : ℕ → ℕ
place_bit code = if is_place code then 1 else 0

abbrev pub without_zero : ℕ → ℕ
without_zero code = if code == 10 then 0 else code

bits_are : (control : List ℕ) (n : ℕ) → length control ≡ n → All (λ code. code < 64) control →
    sel_l (map (λ key. key == 0) (map without_zero control)) (replicate n 1) (replicate n 0) ≡ map place_bit control
bits_are [] n e all = refl
bits_are (c ∷ cs) zero e all = absurd (omega arith)
bits_are (c ∷ cs) (suc n) e all =
    ap (λ b. (if b then 1 else 0) ∷ sel_l (map (λ key. key == 0) (map without_zero cs)) (replicate n 1) (replicate n 0)) (sym (is_place_by_number c (All-head (λ code. code < 64) c cs all)))
    ∙ ap (λ l. place_bit c ∷ l) (bits_are cs n (omega arith) (All-tail (λ code. code < 64) c cs all))

pub place_bits : (control keys bits : List ℕ) → length control ≡ 16 → All (λ code. code < 64) control → keys ≡ map (λ lane. if lane == 10 then 0 else lane) control →
    bits ≡ sel_l (map (λ key. key == 0) keys) (replicate 16 1) (replicate 16 0) → bits ≡ map (λ code. if is_place code then 1 else 0) control
place_bits control keys bits long all keys_is bits_is =
    bits_is ∙ ap (λ l. sel_l (map (λ key. key == 0) l) (replicate 16 1) (replicate 16 0)) keys_is ∙ bits_are control 16 long all

-- ---- counts of one, two, four, eight and sixteen characters

-- each number is how many digit places are among the n characters from its place on
abbrev AreCounts : List ℕ → List ℕ → ℕ → Type 0
AreCounts control counts n = (k : ℕ) → get_or counts k 0 + places (drop (k + n) control) ≡ places (drop k control)

one_more : (b : Bool) (n : ℕ) → (if b then 1 else 0) + n ≡ (if b then suc n else n)
one_more true n = omega arith
one_more false n = omega arith

counted_one : (control : List ℕ) (k : ℕ) → get_or (map place_bit control) k 0 + places (drop (suc k) control) ≡ places (drop k control)
unfolding places
counted_one [] zero = refl
counted_one [] (suc k) = refl
counted_one (c ∷ cs) zero = one_more (is_place c) (places cs)
counted_one (c ∷ cs) (suc k) = counted_one cs k

counts_of_one : (control : List ℕ) → AreCounts control (map place_bit control) 1
counts_of_one control k = ap (λ j. get_or (map place_bit control) k 0 + places (drop j control)) (add-one k) ∙ counted_one control k

-- the lanes from n on, then zeros
abbrev pub later : ℕ → List ℕ → List ℕ
later n counts = pick_l 0 (counts ++ replicate 16 0) (range_with_len n 16)

abbrev pub wrapped : ℕ → ℕ → ℕ
wrapped x y = (x + y) % 256

-- the sums of each lane and the n-th after it
abbrev pub doubled : ℕ → List ℕ → List ℕ
doubled n counts = zip2 wrapped counts (later n counts)

none_left : (control : List ℕ) (k : ℕ) → length control ≤ k → places (drop k control) ≡ 0
unfolding places
none_left control k past = ap places (drop_all k control past)

module _ (counts : List ℕ) (n : ℕ) (long : length counts ≡ 16) (few : n ≤ 16) where
  room : n + 16 ≤ length (counts ++ replicate 16 0)
  room = omega (arith, length-append counts (replicate 16 0))

  later_is : later n counts ≡ chunk n 16 (counts ++ replicate 16 0)
  later_is = pick_l-range_with_len 0 (counts ++ replicate 16 0) n 16 room

  pub later_long : length (later n counts) ≡ 16
  later_long = ap length later_is ∙ length-chunk n 16 (counts ++ replicate 16 0) room

  pub doubled_long : length (doubled n counts) ≡ 16
  doubled_long = length-zip2 wrapped counts (later n counts) (long ∙ sym later_long) ∙ long

  pub get_or-later : (k : ℕ) → k < 16 → get_or (later n counts) k 0 ≡ get_or counts (k + n) 0
  get_or-later k lt =
      let place : n + k ≡ k + n = omega arith in
      ap (λ l. get_or l k 0) later_is ∙ get_or-chunk n 16 (counts ++ replicate 16 0) k 0 lt ∙ ap (λ j. get_or (counts ++ replicate 16 0) j 0) place
      ∙ elim (dec_lt (k + n) 16) [
        | yes within ↦ get_or_append_left counts (replicate 16 0) 0 (k + n) (omega arith)
        | no past ↦
            get_or-append_right counts (replicate 16 0) 16 (k + n) 0 long (omega arith)
            ∙ get_or-replicate 16 (k + n - 16) 0 0 (omega arith) ∙ sym (get_or_past counts (k + n) 0 (omega arith))
      ]

  get_or-doubled : (k : ℕ) → k < 16 → get_or (doubled n counts) k 0 ≡ (get_or counts k 0 + get_or counts (k + n) 0) % 256
  get_or-doubled k lt =
      get_or-zip2 wrapped counts (later n counts) k 0 0 0 (omega arith) (omega (arith, later_long))
      ∙ ap (λ y. (get_or counts k 0 + y) % 256) (get_or-later k lt)

  counts_doubled : (control : List ℕ) (m : ℕ) → length control ≡ 16 → m ≡ n + n → AreCounts control counts n → AreCounts control (doubled n counts) m
  counts_doubled control m size twice known k =
      elim (dec_lt k 16) [
        | yes within ↦
            let end : places (drop (k + n + n) control) ≡ places (drop (k + m) control) = ap (λ j. places (drop j control)) (omega arith) in
            let most : places (drop k control) ≤ 16 = omega (arith, places_most (drop k control), length-drop k control) in
            omega (arith, get_or-doubled k within, known k, known (k + n), end, most)
        | no past ↦
            let zero_lane : get_or (doubled n counts) k 0 ≡ 0 = get_or_past (doubled n counts) k 0 (omega (arith, doubled_long)) in
            omega (arith, zero_lane, none_left control k (omega arith), none_left control (k + m) (omega arith))
      ]

pub get_or-places_right : (control : List ℕ) (k : ℕ) → k < length control → get_or (places_right control) k 0 ≡ places (drop (suc k) control)
unfolding places_right
get_or-places_right [] k lt = absurd (omega arith)
get_or-places_right (c ∷ cs) zero lt = refl
get_or-places_right (c ∷ cs) (suc k) lt = get_or-places_right cs k (omega arith)

pub length-places_right : (control : List ℕ) → length (places_right control) ≡ length control
unfolding places_right
length-places_right [] = refl
length-places_right (c ∷ cs) = ap suc (length-places_right cs)

right_of_counts : (control counts : List ℕ) → length control ≡ 16 → length counts ≡ 16 → AreCounts control counts 16 → later 1 counts ≡ places_right control
right_of_counts control counts size long known =
    let few : 1 ≤ 16 = omega arith in
    let long' = later_long counts 1 long few in
    ext_get_or 0 (later 1 counts) (places_right control) (long' ∙ sym (length-places_right control ∙ size))
    (λ k lt.
    let within : k < 16 = omega (arith, long') in
    let all : get_or counts (k + 1) 0 ≡ places (drop (k + 1) control) = omega (arith, known (k + 1), none_left control (k + 1 + 16) (omega arith)) in
    get_or-later counts 1 long few k within ∙ all ∙ ap (λ j. places (drop j control)) (add-one k) ∙ sym (get_or-places_right control k (omega arith)))

-- the sums of four steps
pub counted_right : (control bits : List ℕ) → length control ≡ 16 → bits ≡ map place_bit control → later 1 (doubled 8 (doubled 4 (doubled 2 (doubled 1 bits)))) ≡ places_right control
counted_right control bits size is =
    let long : length bits ≡ 16 = ap length is ∙ length-map control place_bit ∙ size in
    let of_1 : AreCounts control bits 1 = λ k. ap (λ l. get_or l k 0 + places (drop (k + 1) control)) is ∙ counts_of_one control k in
    let long_2 = doubled_long bits 1 long (omega arith) in
    let of_2 = counts_doubled bits 1 long (omega arith) control 2 size refl of_1 in
    let long_4 = doubled_long (doubled 1 bits) 2 long_2 (omega arith) in
    let of_4 = counts_doubled (doubled 1 bits) 2 long_2 (omega arith) control 4 size refl of_2 in
    let long_8 = doubled_long (doubled 2 (doubled 1 bits)) 4 long_4 (omega arith) in
    let of_8 = counts_doubled (doubled 2 (doubled 1 bits)) 4 long_4 (omega arith) control 8 size refl of_4 in
    let long_16 = doubled_long (doubled 4 (doubled 2 (doubled 1 bits))) 8 long_8 (omega arith) in
    let of_16 = counts_doubled (doubled 4 (doubled 2 (doubled 1 bits))) 8 long_8 (omega arith) control 16 size refl of_8 in
    right_of_counts control (doubled 8 (doubled 4 (doubled 2 (doubled 1 bits)))) size long_16 of_16

-- ---- none has more than fifteen digit places to its right

right_below : (control : List ℕ) (n : ℕ) → length control ≤ n → All (λ place. place < n) (places_right control)
unfolding places_right
right_below [] n le = All-nil (λ place. place < n)
right_below (c ∷ cs) n le = All-cons (λ place. place < n) (places cs) (places_right cs) (omega (arith, places_most cs)) (right_below cs n (omega arith))

pub right_small : (control right : List ℕ) → length control ≡ 16 → right ≡ places_right control → All (λ place. place < 16) right
right_small control right size is = All-same (λ place. place < 16) right (places_right control) is (right_below control 16 (omega arith))

pub right_long : (control right : List ℕ) → length control ≡ 16 → right ≡ places_right control → length right ≡ 16
right_long control right size is = ap length is ∙ length-places_right control ∙ size

-- nor more than there are lanes to its right
pub right_within : (control right : List ℕ) → length control ≡ 16 → right ≡ places_right control → (lane : ℕ) → lane < 16 → get_or right lane 0 + lane < 16
right_within control right size is lane lt =
    let number : get_or right lane 0 ≡ places (drop (suc lane) control) = ap (λ l. get_or l lane 0) is ∙ get_or-places_right control lane (omega (arith, size, lt)) in
    omega (arith, number, places_most (drop (suc lane) control), length-drop (suc lane) control, size, lt)
