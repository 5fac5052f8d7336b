-- marks in a row, and characters as one number
use Rattle.std.proofs.Common.{◌≡◌, ℕ, zero, suc, ◌+◌, ◌-◌, ◌*◌, ◌/◌, ◌%◌, ◌^◌, ◌<◌, ◌≤◌, ◌∙◌, Bool, true, false, cond, ltb, not, All, List, [], ◌∷◌, get_or, length, take, drop, map, ap, sym, refl, arith}
use Rattle.std.specs.Int.{w64, from_bool, from_le_bytes}
use Rattle.std.specs.Simd.Lanes.{mask_l, chunk}
use Rattle.std.proofs.Math.Pow.{pow_mono}
use Rattle.std.proofs.Math.Nat.{mod-lt, pow-suc}
use Rattle.std.proofs.Math.Decide.{dec_lt}
use Rattle.std.proofs.lemmas.Bool.{lt-ltb, ne_eqb}
use Rattle.std.proofs.lemmas.Nat.{mod-mul-add, div-add-mod'}
use Rattle.std.proofs.lemmas.List.{ext_get_or, drop_more, length-drop, length-map, length-take, get_or-drop, get_or-map, get_or-take, get_or_default}
use Rattle.std.proofs.lemmas.Simd.{length-chunk, get_or-chunk, mask_l-lt}
use Rattle.core_store.specs.Storage.{Storage, Cell, code_at, codes_from, is_marked, marks_from}
use Rattle.core_store.specs.Planes.{joined_planes}
use Rattle.core_store.proofs.Fields.{code-codes_from, length-codes_from}
use Rattle.core_store.proofs.PlaneLemmas.{is_some, cell-joined, length-joined, mark-joined_at}

-- ---- marks in a row

row_is : (s : Storage) (first count : ℕ) → marks_from s first count ≡ map (λ (cell : Cell). cell.1) (take count (drop first s))
unfolding marks_from
row_is s first count = let many : first + count - first ≡ count = omega arith in rw many refl

pub length-marks_from : (s : Storage) (first count : ℕ) → first + count ≤ length s → length (marks_from s first count) ≡ count
length-marks_from s first count h =
    ap length (row_is s first count) ∙ length-map (take count (drop first s)) (λ (cell : Cell). cell.1) ∙ simp (length-take, length-drop) (omega arith)

pub mark-marks_from : (s : Storage) (first count place : ℕ) → place < count → first + count ≤ length s → get_or (marks_from s first count) place false ≡ is_marked s (first + place)
mark-marks_from s first count place lt h =
    let long : length (take count (drop first s)) ≡ count = simp (length-take, length-drop) (omega arith) in
    ap (λ ms. get_or ms place false) (row_is s first count)
    ∙ get_or-map (λ (cell : Cell). cell.1) (take count (drop first s)) place (0, false) false (omega arith)
    ∙ ap (λ (cell : Cell). cell.1) (get_or-take count (drop first s) place (0, false) lt ∙ get_or-drop first s place (0, false))

pub no_marks : (s : Storage) (first : ℕ) → 0 ≡ mask_l (marks_from s first 0)
no_marks s first = sym (ap mask_l (row_is s first 0))

marks_next : (s : Storage) (first count : ℕ) → first < length s → marks_from s first (suc count) ≡ is_marked s first ∷ marks_from s (first + 1) count
marks_next s first count h =
    row_is s first (suc count)
    ∙ ap (λ (cells : Storage). map (λ (cell : Cell). cell.1) (take (suc count) cells)) (drop_more s first (0, false) h)
    ∙ ap (λ ms. is_marked s first ∷ ms) (sym (row_is s (first + 1) count))

-- one more mark at the front of a row of them
pub one_mark : (s : Storage) (first count marks : ℕ) → first < length s → marks ≡ mask_l (marks_from s (first + 1) count) → 2 * marks + cond (is_marked s first) 1 0 ≡ mask_l (marks_from s first (suc count))
one_mark s first count marks h is = omega (arith, is, ap mask_l (marks_next s first count h))

byte_of : (b : Bool) → from_bool b ≡ cond b 1 0
byte_of true = refl
byte_of false = refl

-- one more mark before those that were read from the right
pub one_mark_before : (s : Storage) (position place marks one : ℕ) → position + place ≤ length s → 0 < place → place ≤ 9 → marks ≡ mask_l (marks_from s (position + place) (9 - place)) →
    one ≡ from_bool (is_marked s (position + (place - 1))) → 2 * marks + one ≡ mask_l (marks_from s (position + (place - 1)) (9 - (place - 1)))
one_mark_before s position place marks one inside some most read is =
    let next : position + place ≡ position + (place - 1) + 1 = omega arith in
    let many : 9 - (place - 1) ≡ suc (9 - place) = omega arith in
    ap (λ n. 2 * marks + n) (is ∙ byte_of (is_marked s (position + (place - 1))))
    ∙ one_mark s (position + (place - 1)) (9 - place) marks (omega arith) (read ∙ ap (λ p. mask_l (marks_from s p (9 - place))) next)
    ∙ ap (λ n. mask_l (marks_from s (position + (place - 1)) n)) (sym many)

pub byte_most : (b : Bool) → from_bool b ≤ 1
byte_most true = omega arith
byte_most false = omega arith

-- all nine
pub nine_read : (s : Storage) (position place marks : ℕ) → place ≡ 0 → marks ≡ mask_l (marks_from s (position + place) (9 - place)) → marks ≡ mask_l (marks_from s position 9)
nine_read s position place marks none read =
    let here : position + place ≡ position = omega arith in
    let many : 9 - place ≡ 9 = omega arith in
    read ∙ ap (λ p. mask_l (marks_from s p (9 - place))) here ∙ ap (λ n. mask_l (marks_from s position n)) many

pub nine_at_most : (s : Storage) (first count : ℕ) → first + count ≤ length s → count ≤ 9 → mask_l (marks_from s first count) < 512
nine_at_most s first count h few =
    omega (arith, mask_l-lt (marks_from s first count), length-marks_from s first count h, pow_mono {i = length (marks_from s first count)} {j = 9} (omega (arith, length-marks_from s first count h)))

-- ---- the lowest bits of a mask are the mask of the first flags

low_step : (one n p : ℕ) → one ≤ 1 → 0 < p → (one + 2 * n) % (2 * p) ≡ one + 2 * (n % p)
low_step one n p few some =
    let split : n / p * p + n % p ≡ n = div-add-mod' n p in
    let rest : n % p < p = mod-lt n some in
    let whole : one + 2 * n ≡ n / p * (2 * p) + (one + 2 * (n % p)) = omega (arith, split) in
    let less : one + 2 * (n % p) < 2 * p = omega arith in
    ap (λ m. m % (2 * p)) whole ∙ mod-mul-add (n / p) (2 * p) (one + 2 * (n % p)) less

flag_most : (b : Bool) → cond b 1 0 ≤ 1
flag_most true = omega arith
flag_most false = omega arith

pub low_mask : (ms : List Bool) (k : ℕ) → mask_l ms % 2 ^ k ≡ mask_l (take k ms)
low_mask ms zero = omega arith
low_mask [] (suc k) = omega arith
low_mask (m ∷ ms) (suc k) =
    let double : 2 ^ suc k ≡ 2 * 2 ^ k = omega (arith, pow-suc 2 k) in
    let some : 0 < 2 ^ k = omega (arith, pow_mono {i = 0} {j = k} (omega arith)) in
    ap (λ p. (cond m 1 0 + 2 * mask_l ms) % p) double ∙ low_step (cond m 1 0) (mask_l ms) (2 ^ k) (flag_most m) some ∙ ap (λ n. cond m 1 0 + 2 * n) (low_mask ms k)

-- ---- planes

some_is_over : (n : ℕ) → is_some n ≡ ltb 0 n
some_is_over n =
    elim (dec_lt 0 n) [
      | yes some ↦ ap not (ne_eqb n 0 (omega arith)) ∙ sym (lt-ltb 0 n some)
      | no none ↦ let zero_there : n ≡ 0 = omega arith in rw zero_there refl
    ]

pub nine_joined : (codes marks slice : List ℕ) (p mask : ℕ) → slice ≡ marks → length codes ≡ length marks → p + 16 ≤ length marks → mask ≡ mask_l (map is_some (chunk p 16 slice)) →
    mask % 512 ≡ mask_l (marks_from (joined_planes codes marks) p 9)
nine_joined codes marks slice p mask same even room is =
    let s = joined_planes codes marks in
    let inside : p + 9 ≤ length s = omega (arith, length-joined codes marks even) in
    let read : map is_some (chunk p 16 slice) ≡ map is_some (chunk p 16 marks) = ap (λ l. map is_some (chunk p 16 l)) same in
    let flags = map is_some (chunk p 16 marks) in
    let long : length flags ≡ 16 = length-map (chunk p 16 marks) is_some ∙ length-chunk p 16 marks room in
    let nine : length (take 9 flags) ≡ 9 = simp (length-take) (omega arith) in
    let here : take 9 flags ≡ marks_from s p 9 =
    ext_get_or false (take 9 flags) (marks_from s p 9) (nine ∙ sym (length-marks_from s p 9 inside))
    (λ j lt.
    let among : j < 9 = omega arith in
    get_or-take 9 flags j false among ∙ get_or-map is_some (chunk p 16 marks) j 0 false (omega (arith, length-chunk p 16 marks room))
    ∙ ap is_some (get_or-chunk p 16 marks j 0 (omega arith)) ∙ some_is_over (get_or marks (p + j) 0)
    ∙ sym (mark-joined_at codes marks (p + j) even) ∙ sym (mark-marks_from s p 9 j among inside)) in
    ap (λ n. n % 512) (is ∙ ap mask_l read) ∙ low_mask flags 9 ∙ ap mask_l here

-- ---- characters as one number

-- the number of eight bytes depends on these alone
pub eight_same : (xs ys : List ℕ) → ((i : ℕ) → i < 8 → get_or xs i 0 ≡ get_or ys i 0) → from_le_bytes w64 xs ≡ from_le_bytes w64 ys
eight_same xs ys same =
    omega (arith, same 0 (omega arith), same 1 (omega arith), same 2 (omega arith), same 3 (omega arith), same 4 (omega arith), same 5 (omega arith), same 6 (omega arith), same 7 (omega arith))

-- and is that of these eight, one by one
pub eight_listed : (plane : List ℕ) (first : ℕ) → first + 8 ≤ length plane →
    from_le_bytes w64 (get_or plane first 0 ∷ get_or plane (first + 1) 0 ∷ get_or plane (first + 2) 0 ∷ get_or plane (first + 3) 0
    ∷ get_or plane (first + 4) 0 ∷ get_or plane (first + 5) 0 ∷ get_or plane (first + 6) 0 ∷ get_or plane (first + 7) 0 ∷ [])
    ≡ from_le_bytes w64 (chunk first 8 plane)
eight_listed plane first room =
    let here : first + 0 ≡ first = omega arith in
    omega (
      arith,
      get_or-chunk first 8 plane 0 0 (omega arith) ∙ ap (λ n. get_or plane n 0) here,
      get_or-chunk first 8 plane 1 0 (omega arith),
      get_or-chunk first 8 plane 2 0 (omega arith),
      get_or-chunk first 8 plane 3 0 (omega arith),
      get_or-chunk first 8 plane 4 0 (omega arith),
      get_or-chunk first 8 plane 5 0 (omega arith),
      get_or-chunk first 8 plane 6 0 (omega arith),
      get_or-chunk first 8 plane 7 0 (omega arith),
    )

-- the characters that were read one by one are those of the stretch
pub stretch_read : (s : Storage) (first count : ℕ) (codes : List ℕ) → first + count ≤ length s → length codes ≡ count → ((j : ℕ) → j < count → get_or codes j 0 ≡ code_at s (first + j)) → codes ≡ codes_from s first count
stretch_read s first count codes inside long read =
    ext_get_or 0 codes (codes_from s first count) (long ∙ sym (length-codes_from s first count inside))
    (λ j lt. let among : j < count = omega arith in read j among ∙ sym (code-codes_from s first count j among inside))

pub eight_joined : (codes marks slice : List ℕ) (p number : ℕ) → slice ≡ codes → length codes ≡ length marks → p + 8 ≤ length codes → number ≡ from_le_bytes w64 (chunk p 8 slice) →
    number ≡ from_le_bytes w64 (codes_from (joined_planes codes marks) p 8)
eight_joined codes marks slice p number same even room is =
    let s = joined_planes codes marks in
    let inside : p + 8 ≤ length s = omega (arith, length-joined codes marks even) in
    is ∙ ap (λ l. from_le_bytes w64 (chunk p 8 l)) same
    ∙ eight_same (chunk p 8 codes) (codes_from s p 8)
    (λ j lt. get_or-chunk p 8 codes j 0 lt ∙ ap (λ (c : Cell). c.0) (sym (cell-joined codes marks (p + j) even)) ∙ sym (code-codes_from s p 8 j lt inside))

-- the characters of a stretch are below a bound that all are below
pub all_in_stretch : (codes marks : List ℕ) (p count n : ℕ) → length codes ≡ length marks → p + count ≤ length codes → All (λ code. code < n) codes →
    All (λ code. code < n) (codes_from (joined_planes codes marks) p count)
all_in_stretch codes marks p count n even room all k d lt =
    let s = joined_planes codes marks in
    let inside : p + count ≤ length s = omega (arith, length-joined codes marks even) in
    let among : k < count = omega (arith, length-codes_from s p count inside) in
    let here : get_or (codes_from s p count) k d ≡ get_or codes (p + k) d =
    get_or_default (codes_from s p count) k d 0 lt ∙ code-codes_from s p count k among inside ∙ ap (λ (c : Cell). c.0) (cell-joined codes marks (p + k) even)
    ∙ get_or_default codes (p + k) 0 d (omega arith) in
    let below : get_or codes (p + k) d < n = all (p + k) d (omega arith) in
    omega arith
