-- the same characters and word marks have the same shape, wherever they stand
use Rattle.std.proofs.Common.{◌≡◌, ℕ, zero, suc, ◌+◌, ◌-◌, ◌/◌, ◌%◌, ◌^◌, ◌<◌, ◌≤◌, min, Bool, true, false, cond, List, Option, Some, None, Ok, inl, inr, refl, sym, ap, ◌∙◌, arith, if◌then◌else◌, length, get_or, unwrap_or}
use Rattle.std.specs.Prelude.{codes}
use Rattle.std.specs.Option.{option_map}
use Rattle.std.specs.Int.{w64, to_le_bytes}
use Rattle.std.proofs.Math.Decide.{dec_lt}
use Rattle.std.proofs.lemmas.Bool.{le-leb}
use Rattle.std.proofs.lemmas.List.{ext_get_or, get_or_past}
use Rattle.std.proofs.lemmas.Nat.{le_bytes_8}
use Rattle.std.proofs.lemmas.Simd.{bit_mask_l}
use Rattle.core_store.specs.Storage.{Storage, code_at, codes_from, is_marked, least_mark, marks_from}
use Rattle.core_store.specs.Checked.{find_or}
use Rattle.core_store.specs.declared.checks.Check.TheVariants.{Instruction}
use Rattle.core_store.proofs.Fields.{code-codes_from, length-codes_from}
use Rattle.core_store.proofs.MarkRows.{mark-marks_from, nine_at_most}
use Rattle.machine.specs.Glyphs.{is_glyph}
use Rattle.machine.specs.Word.{ending_in, word_length, EndsAt}
use Rattle.machine.specs.Shapes.{Stands, shape_at, shape_of}
use Rattle.machine.specs.declared.shapes.Shape.{Shape}
use Rattle.machine.proofs.DecodeLaw.{length_ends}

-- ---- what stands there, one by one

flag_of : (a b : Bool) → ◌≡◌ {A = ℕ} (cond a 1 0) (cond b 1 0) → a ≡ b
flag_of true true e = refl
flag_of true false e = absurd (omega arith)
flag_of false true e = absurd (omega arith)
flag_of false false e = refl

module _ (s : Storage) (i number mask : ℕ) (h : Stands s i number mask) where
  eight : List ℕ
  eight = codes_from s i 8

  long : length (codes_from s i 8) ≡ 8
  long = length-codes_from s i 8 (omega (arith, h.inside))

  small : (k : ℕ) → get_or (codes_from s i 8) k 0 < 256
  small k =
      elim (dec_lt k 8) [
        | yes among ↦ let below : get_or (codes_from s i 8) k 0 < 64 = h.below k 0 (omega (arith, long)) in omega arith
        | no past ↦ let none : get_or (codes_from s i 8) k 0 ≡ 0 = get_or_past (codes_from s i 8) k 0 (omega (arith, long)) in omega arith
      ]

  pub characters_of : to_le_bytes w64 number ≡ codes_from s i 8
  characters_of = le_bytes_8 (codes_from s i 8) number long small h.characters

  pub character_of : (k : ℕ) → k < 8 → get_or (to_le_bytes w64 number) k 0 ≡ code_at s (i + k)
  character_of k lt = ap (λ xs. get_or xs k 0) characters_of ∙ code-codes_from s i 8 k lt (omega (arith, h.inside))

  pub mark_of : (k : ℕ) → k < 9 → mask / 2 ^ k % 2 ≡ cond (is_marked s (i + k)) 1 0
  mark_of k lt =
      ap (λ n. n / 2 ^ k % 2) h.marks ∙ bit_mask_l (marks_from s i 9) k
      ∙ ap (λ b. cond b 1 0) (mark-marks_from s i 9 k lt h.inside)

  pub few_marks : mask < 512
  few_marks = omega (arith, h.marks, nine_at_most s i 9 h.inside (omega arith))

-- ---- the nearest mark, from the same number of positions on

module _ (s t : Storage) (i j : ℕ) where
  by_flag : (start : ℕ) (b : Bool) (found other : Option ℕ) → option_map (λ q. q - i) found ≡ option_map (λ q. q - j) other →
      option_map (λ q. q - i) (if b then Some (i + start) else found) ≡ option_map (λ q. q - j) (if b then Some (j + start) else other)
  by_flag start true found other rest = let same : i + start - i ≡ j + start - j = omega arith in ap Some same
  by_flag start false found other rest = rest

  nearest_along : (start count : ℕ) → ((k : ℕ) → start ≤ k → k < start + count → is_marked s (i + k) ≡ is_marked t (j + k)) →
      option_map (λ q. q - i) (least_mark s (i + start) count) ≡ option_map (λ q. q - j) (least_mark t (j + start) count)
  unfolding least_mark
  nearest_along start zero same = refl
  nearest_along start (suc count) same =
      let next : i + start + 1 ≡ i + (start + 1) = omega arith in
      let next' : j + start + 1 ≡ j + (start + 1) = omega arith in
      let rest : option_map (λ q. q - i) (least_mark s (i + start + 1) count) ≡ option_map (λ q. q - j) (least_mark t (j + start + 1) count) =
      ap (λ p. option_map (λ q. q - i) (least_mark s p count)) next
      ∙ nearest_along (start + 1) count (λ k le lt. same k (omega arith) (omega arith))
      ∙ ap (λ p. option_map (λ q. q - j) (least_mark t p count)) (sym next') in
      ap (λ b. option_map (λ q. q - i) (if b then Some (i + start) else least_mark s (i + start + 1) count)) (same start (omega arith) (omega arith))
      ∙ by_flag start (is_marked t (j + start)) (least_mark s (i + start + 1) count) (least_mark t (j + start + 1) count) rest

-- ---- the length of an instruction, by how far its nearest mark is

abbrev measured : Bool → Bool → Option ℕ → Option ℕ
measured marked comma distance = if marked then (if comma then Some (min (unwrap_or distance 8) 7) else distance) else None

distance_of : (i : ℕ) (found : Option ℕ) → unwrap_or found (i + 8) - i ≡ unwrap_or (option_map (λ q. q - i) found) 8
distance_of i None = omega arith
distance_of i (Some q) = refl

length_by : (s : Storage) (i : ℕ) (marked comma : Bool) (found : Option ℕ) → i + 9 ≤ length s →
    (if marked then (if comma then ending_in s i (min (unwrap_or found (i + 8) - i) 7) else option_map (λ end. end - i) found) else None)
    ≡ measured marked comma (option_map (λ q. q - i) found)
length_by s i false comma found inside = refl
length_by s i true false found inside = refl
length_by s i true true found inside =
    let few : min (unwrap_or found (i + 8) - i) 7 ≤ 7 = omega arith in
    ap (λ b. if b then Some (min (unwrap_or found (i + 8) - i) 7) else None) (le-leb (i + min (unwrap_or found (i + 8) - i) 7) (length s) (omega arith))
    ∙ ap (λ n. Some (min n 7)) (distance_of i found)

length_is : (s : Storage) (i : ℕ) → i + 9 ≤ length s → word_length s i ≡ measured (is_marked s i) (is_glyph (code_at s i) (codes ",")) (option_map (λ q. q - i) (least_mark s (i + 1) 8))
unfolding word_length
length_is s i inside = length_by s i (is_marked s i) (is_glyph (code_at s i) (codes ",")) (least_mark s (i + 1) 8) inside

pub length_most : (s : Storage) (i count : ℕ) → word_length s i ≡ Some count → (count ≤ 8) × (i + count ≤ length s)
length_most s i count e =
    let h = length_ends s i count e in
    (ends_soon (is_glyph (code_at s i) (codes ",")) h.ends, h.inside)
  where
    ends_soon : (comma : Bool) → EndsAt comma s i count → count ≤ 8
    ends_soon false least = omega (arith, least.among)
    ends_soon true (inl early) = omega (arith, early.0)
    ends_soon true (inr late) = omega (arith, late.0)

-- ---- the shape

module _ (s t : Storage) (i j number mask : ℕ) (here : Stands s i number mask) (there : Stands t j number mask) where
  same_code : (k : ℕ) → k < 8 → code_at s (i + k) ≡ code_at t (j + k)
  same_code k lt = sym (character_of s i number mask here k lt) ∙ character_of t j number mask there k lt

  same_mark : (k : ℕ) → k < 9 → is_marked s (i + k) ≡ is_marked t (j + k)
  same_mark k lt =
      flag_of (is_marked s (i + k)) (is_marked t (j + k)) (sym (mark_of s i number mask here k lt) ∙ mark_of t j number mask there k lt)

  first_place : i + 0 ≡ i
  first_place = omega arith

  other_place : j + 0 ≡ j
  other_place = omega arith

  same_length : word_length s i ≡ word_length t j
  same_length =
      let marked : is_marked s i ≡ is_marked t j = ap (is_marked s) (sym first_place) ∙ same_mark 0 (omega arith) ∙ ap (is_marked t) other_place in
      let code : code_at s i ≡ code_at t j = ap (code_at s) (sym first_place) ∙ same_code 0 (omega arith) ∙ ap (code_at t) other_place in
      let nearest = nearest_along s t i j 1 8 (λ k le lt. same_mark k (omega arith)) in
      length_is s i here.inside
      ∙ ap (λ m. measured m (is_glyph (code_at s i) (codes ",")) (option_map (λ q. q - i) (least_mark s (i + 1) 8))) marked
      ∙ ap (λ c. measured (is_marked t j) (is_glyph c (codes ",")) (option_map (λ q. q - i) (least_mark s (i + 1) 8))) code
      ∙ ap (measured (is_marked t j) (is_glyph (code_at t j) (codes ","))) nearest
      ∙ sym (length_is t j there.inside)

  same_codes : (count : ℕ) → count ≤ 8 → codes_from s i count ≡ codes_from t j count
  same_codes count few =
      let inside : i + count ≤ length s = omega (arith, here.inside) in
      let inside' : j + count ≤ length t = omega (arith, there.inside) in
      let size : length (codes_from s i count) ≡ count = length-codes_from s i count inside in
      ext_get_or 0 (codes_from s i count) (codes_from t j count) (size ∙ sym (length-codes_from t j count inside'))
      (λ k lt.
      let among : k < count = omega arith in
      code-codes_from s i count k among inside ∙ same_code k (omega arith) ∙ sym (code-codes_from t j count k among inside'))

  shape_by : (found : Option ℕ) → word_length s i ≡ found →
      find_or found Instruction (λ count. shape_of count (codes_from s i count)) ≡ find_or found Instruction (λ count. shape_of count (codes_from t j count))
  shape_by None e = refl
  shape_by (Some count) e = ap (shape_of count) (same_codes count (length_most s i count e).0)

  pub same_shape : shape_at s i ≡ shape_at t j
  unfolding shape_at
  same_shape =
      shape_by (word_length s i) refl ∙ ap (λ found. find_or found Instruction (λ count. shape_of count (codes_from t j count))) same_length

-- what was read in one storage is right in every other
pub right_everywhere : (s : Storage) (i number mask : ℕ) (shape : Shape) → Stands s i number mask → shape_at s i ≡ Ok shape → (t : Storage) (j : ℕ) → Stands t j number mask → shape_at t j ≡ Ok shape
right_everywhere s i number mask shape here read t j there = sym (same_shape s t i j number mask here there) ∙ read

-- no nine marks are this number
pub stands_nowhere : (number : ℕ) (shape : Shape) (s : Storage) (i : ℕ) → Stands s i number 512 → shape_at s i ≡ Ok shape
stands_nowhere number shape s i h = let few : 512 < 512 = few_marks s i number 512 h in absurd (omega arith)
