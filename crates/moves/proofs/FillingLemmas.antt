-- a control that is filled with data from right to left
use Rattle.std.proofs.Common.{◌⊎◌, inl, inr, zero, ◌≡◌, ℕ, suc, ◌+◌, ◌-◌, ◌<◌, ◌≤◌, Bool, true, false, List, [], ◌∷◌, refl, sym, ◌∙◌, ap, arith, length, get_or, reverse, min, nat_lt, ◌==◌, ◌&&◌, ◌||◌, ◌≢◌, if◌then◌else◌, add-one, codes}
use Rattle.std.proofs.Math.Decide.{dec_lt}
use Rattle.std.proofs.lemmas.Bool.{lt-ltb, le-ltb, ne_eqb}
use Rattle.std.proofs.lemmas.Bool.Decides.{nat_tests}
use Rattle.std.proofs.lemmas.List.{get_or-reverse, length-reverse}
use Rattle.bcd.specs.Table.{glyph_of, zone_of}
use Rattle.core_store.specs.Storage.{Storage, code_at, put, put_codes, codes_ending, codes_from}
use Rattle.core_store.proofs.Fields.{codes_ending_more, codes_ending-none, length-codes_ending, codes_ending_is_from, cell-put_codes_below, codes_ending-put_apart}
use Rattle.moves.specs.Characters.{is_any, bare_units, from_right}
use Rattle.core_store.specs.Operands.{is_minus_zone}
use Rattle.moves.specs.Blanked.{ends, leading, blanked}
use Rattle.moves.specs.Edited.{is_place, places, filled_code, filled, through_zero, edited, is_minus, is_sharing}
use Rattle.moves.specs.declared.blanking.Stop.TheVariants.{Digit}
use Rattle.moves.proofs.BlankingLemmas.{blank_after, leading_more, leading_here}
use Rattle.moves.proofs.Copying.{length_bare_units, from_right-ending}

-- ---- digit places

pub places_none : (s : Storage) (b : ℕ) → 0 ≡ places (codes_ending s b 0)
unfolding places
places_none s b = sym (ap places (codes_ending-none s b))

pub places_more : (s : Storage) (b i : ℕ) → b < length s → i ≤ b → (n code : ℕ) → n ≡ places (codes_ending s b i) → code ≡ code_at s (b - i) → (if is_place code then n + 1 else n) ≡ places (codes_ending s b (i + 1))
unfolding places
places_more s b i b_in le n code n_is code_is =
    ap (λ k. if is_place code then k else n) (add-one n)
    ∙ ap (λ k. if is_place code then suc k else k) n_is
    ∙ ap (λ x. if is_place x then suc (places (codes_ending s b i)) else places (codes_ending s b i)) code_is
    ∙ sym (ap places (codes_ending_more s b i b_in le))

-- ---- filling

pub length-filled : (control amount : List ℕ) (minus : Bool) → length (filled control amount minus) ≡ length control
unfolding filled
length-filled [] amount minus = refl
length-filled (code ∷ control) amount minus = ap suc (length-filled control amount minus)

pub fill_none : (s : Storage) (b first : ℕ) (amount : List ℕ) (minus : Bool) → s ≡ put_codes s first (filled (codes_ending s b 0) amount minus)
unfolding put_codes filled
fill_none s b first amount minus = sym (ap (λ xs. put_codes s first (filled xs amount minus)) (codes_ending-none s b))

filled_more : (s : Storage) (b i : ℕ) → b < length s → i ≤ b → (amount : List ℕ) (minus : Bool) →
    filled (codes_ending s b (i + 1)) amount minus
    ≡ filled_code minus (length amount) (places (codes_ending s b i)) (from_right amount (places (codes_ending s b i))) (code_at s (b - i)) ∷ filled (codes_ending s b i) amount minus
unfolding filled
filled_more s b i b_in le amount minus = ap (λ xs. filled xs amount minus) (codes_ending_more s b i b_in le)

not_sharing : (a a_count b b_count : ℕ) → is_sharing a a_count b b_count ≡ false → (b + a_count ≤ a) ⊎ (a + b_count ≤ b)
not_sharing a a_count b b_count h = grind (arith, nat_tests)

module _ (s : Storage) (a a_count b b_count i : ℕ) (a_in : a < length s) (a_from : a_count ≤ a + 1) (b_in : b < length s) (b_from : b_count ≤ b + 1) (i_in : i < b_count)
    (apart : is_sharing a a_count b b_count ≡ false) (minus : Bool) (now : Storage)
    (is : now ≡ put_codes s (b + 1 - i) (filled (codes_ending s b i) (bare_units (codes_ending s a a_count)) minus)) where
  abbrev so_far : List ℕ
  so_far = filled (codes_ending s b i) (bare_units (codes_ending s a a_count)) minus

  long : length so_far ≡ i
  long = length-filled (codes_ending s b i) (bare_units (codes_ending s a a_count)) minus ∙ length-codes_ending s b i b_in (omega arith)

  -- the data are not written over
  kept : codes_ending now a a_count ≡ codes_ending s a a_count
  kept =
      ap (λ t. codes_ending t a a_count) is
      ∙ codes_ending-put_apart s a a_count (b + 1 - i) so_far a_in a_from (away (not_sharing a a_count b b_count apart)) where
        away : (b + a_count ≤ a) ⊎ (a + b_count ≤ b) → (a < b + 1 - i) ⊎ (b + 1 - i + length so_far + a_count ≤ a + 1)
        away (inl above) = inr (omega (arith, long))
        away (inr below) = inl (omega arith)

  pub read_control : code_at now (b - i) ≡ code_at s (b - i)
  read_control = ap (λ t. code_at t (b - i)) is ∙ ap (λ c. c.0) (cell-put_codes_below s (b + 1 - i) so_far (b - i) (omega arith))

  pub fill_step : (right digit code : ℕ) → right ≡ places (codes_ending s b i) → digit ≡ from_right (bare_units (codes_ending now a a_count)) right → code ≡ code_at now (b - i) →
      put now (b - i) (filled_code minus a_count right digit code) ≡ put_codes s (b + 1 - (i + 1)) (filled (codes_ending s b (i + 1)) (bare_units (codes_ending s a a_count)) minus)
  unfolding put_codes
  fill_step right digit code right_is digit_is code_is =
      let amount = bare_units (codes_ending s a a_count) in
      let many : a_count ≡ length amount = sym (length_bare_units (codes_ending s a a_count) ∙ length-codes_ending s a a_count a_in a_from) in
      let first : b + 1 - (i + 1) ≡ b - i = omega arith in
      let next : b - i + 1 ≡ b + 1 - i = omega arith in
      let made = filled_code minus (length amount) (places (codes_ending s b i)) (from_right amount (places (codes_ending s b i))) (code_at s (b - i)) in
      let same : filled_code minus a_count right digit code ≡ made =
      ap (filled_code minus a_count right digit) (code_is ∙ read_control)
      ∙ ap (λ d. filled_code minus a_count right d (code_at s (b - i))) (digit_is ∙ ap (λ xs. from_right (bare_units xs) right) kept)
      ∙ ap (λ r. filled_code minus a_count r (from_right amount r) (code_at s (b - i))) right_is
      ∙ ap (λ n. filled_code minus n (places (codes_ending s b i)) (from_right amount (places (codes_ending s b i))) (code_at s (b - i))) many in
      ap (put now (b - i)) same
      ∙ ap (λ t. put t (b - i) made) (is ∙ ap (λ n. put_codes s n so_far) (sym next))
      ∙ ap (λ n. put_codes s n (made ∷ so_far)) (sym first)
      ∙ ap (put_codes s (b + 1 - (i + 1))) (sym (filled_more s b i b_in (omega arith) amount minus))

pub sign_is : (s : Storage) (a a_count : ℕ) → a < length s → 1 ≤ a_count → a_count ≤ a + 1 → is_minus_zone (zone_of (code_at s a)) ≡ is_minus (codes_ending s a a_count)
sign_is s a a_count a_in some from =
    let whole : a ≡ a - 0 = omega arith in
    ap (λ c. is_minus_zone (zone_of c)) (ap (code_at s) whole ∙ sym (from_right-ending s a a_count 0 a_in from (omega arith)))

-- ---- a character that is a digit place, or is not

pub place_is_digit : (minus : Bool) (count right digit code : ℕ) → is_place code ≡ true → digit ≡ filled_code minus count right digit code
unfolding filled_code
place_is_digit minus count right digit code place = rw place refl

pub other_is_kept : (minus : Bool) (count right d e code : ℕ) → is_place code ≡ false → filled_code minus count right d code ≡ filled_code minus count right e code
unfolding filled_code
other_is_kept minus count right d e code other = rw other refl

-- no zero is among the other characters
pub other_is_no_zero : (through left code next : ℕ) → is_place code ≡ false → next ≡ through → next ≡ (if through == 0 && is_any (codes "0") code then left else through)
unfolding is_place is_any
other_is_no_zero through left code next other is = is ∙ kept (through == 0) (glyph_of code == 48) _ other where
  kept : (a b c : Bool) → (b || c) ≡ false → through ≡ (if a && (b || false) then left else through)
  kept a true c h = absurd (cc)
  kept true false c h = refl
  kept false false c h = refl

-- ---- the rightmost `0`

nth : (s : Storage) (b n j k : ℕ) → b < length s → n ≤ b + 1 → k + j + 1 ≡ n → get_or (codes_ending s b n) k 0 ≡ code_at s (b - j)
nth s b zero j k b_in le e = absurd (omega arith)
nth s b (suc n) j zero b_in le e =
    let same : n ≡ j = omega arith in
    ap (λ m. get_or (codes_ending s b m) 0 0) (sym (add-one n)) ∙ ap (λ xs. get_or xs 0 0) (codes_ending_more s b n b_in (omega arith)) ∙ ap (λ m. code_at s (b - m)) same
nth s b (suc n) j (suc k) b_in le e =
    ap (λ m. get_or (codes_ending s b m) (suc k) 0) (sym (add-one n)) ∙ ap (λ xs. get_or xs (suc k) 0) (codes_ending_more s b n b_in (omega arith)) ∙ nth s b n j k b_in (omega arith) (omega arith)

module _ (s : Storage) (b n : ℕ) (b_in : b < length s) (b_from : n ≤ b + 1) where
  pub length-backward : length (reverse (codes_ending s b n)) ≡ n
  length-backward = length-reverse (codes_ending s b n) ∙ length-codes_ending s b n b_in b_from

  pub backward : (j : ℕ) → j < n → get_or (reverse (codes_ending s b n)) j 0 ≡ code_at s (b - j)
  backward j h =
      let long = length-codes_ending s b n b_in b_from in
      get_or-reverse (codes_ending s b n) j 0 (omega arith) ∙ nth s b n j (length (codes_ending s b n) - 1 - j) b_in b_from (omega arith)

-- after the rightmost i characters: how many the control field has up to its rightmost `0`, or 0 if it is not among them
abbrev pub through_seen : List ℕ → ℕ → ℕ
through_seen control i =
    if nat_lt (leading (is_any (codes "0")) (reverse control)) i then length control - leading (is_any (codes "0")) (reverse control) else 0

module _ (control : List ℕ) (i : ℕ) (i_in : i < length control) where
  abbrev first : ℕ
  first = leading (is_any (codes "0")) (reverse control)

  inside : i < length (reverse control)
  inside = omega (arith, length-reverse control)

  later : (next through : ℕ) (zero_here : Bool) → first < i → through ≡ through_seen control i → next ≡ (if through == 0 && zero_here then length control - i else through) → next ≡ through_seen control (i + 1)
  later next through zero_here before is next_is =
      let known : through ≡ length control - first = is ∙ ap (λ b. if b then length control - first else 0) (lt-ltb first i before) in
      let some : through ≢ 0 = omega arith in
      let kept : next ≡ through = next_is ∙ ap (λ b. if b && zero_here then length control - i else through) (ne_eqb through 0 some) in
      kept ∙ known ∙ sym (ap (λ b. if b then length control - first else 0) (lt-ltb first (i + 1) (omega arith)))

  now : (next through : ℕ) (zero_here : Bool) → zero_here ≡ is_any (codes "0") (get_or (reverse control) i 0) → i ≤ first → through ≡ through_seen control i →
      next ≡ (if through == 0 && zero_here then length control - i else through) → next ≡ through_seen control (i + 1)
  now next through true here from is next_is =
      let none : through ≡ 0 = is ∙ ap (λ b. if b then length control - first else 0) (le-ltb first i from) in
      let same : first ≡ i = leading_here (is_any (codes "0")) (reverse control) i inside from (sym here) in
      let given : next ≡ length control - first = next_is ∙ ap (λ n. if n == 0 && true then length control - i else n) none ∙ ap (λ n. length control - n) (sym same) in
      given ∙ sym (ap (λ b. if b then length control - first else 0) (lt-ltb first (i + 1) (omega arith)))
  now next through false here from is next_is =
      let none : through ≡ 0 = is ∙ ap (λ b. if b then length control - first else 0) (le-ltb first i from) in
      let more : i + 1 ≤ first = leading_more (is_any (codes "0")) (reverse control) i inside from (sym here) in
      let kept : next ≡ 0 = next_is ∙ ap (λ n. if n == 0 && false then length control - i else n) none in
      kept ∙ sym (ap (λ b. if b then length control - first else 0) (le-ltb first (i + 1) more))

  pub seen_more : (next through : ℕ) (zero_here : Bool) → zero_here ≡ is_any (codes "0") (get_or (reverse control) i 0) → through ≡ through_seen control i →
      next ≡ (if through == 0 && zero_here then length control - i else through) → next ≡ through_seen control (i + 1)
  seen_more next through zero_here here is next_is =
      elim (dec_lt first i) [
        | yes before ↦ later next through zero_here before is next_is
        | no from ↦ now next through zero_here here (omega arith) is next_is
      ]

pub seen_none : (control : List ℕ) → 0 ≡ through_seen control 0
seen_none control = sym (ap (λ b. if b then length control - leading (is_any (codes "0")) (reverse control) else 0) (le-ltb (leading (is_any (codes "0")) (reverse control)) 0 (omega arith)))

pub seen_all : (control : List ℕ) (i through : ℕ) → i ≡ length control → through ≡ through_seen control i → through ≡ through_zero control
unfolding through_zero
seen_all control i through all is =
    let first = leading (is_any (codes "0")) (reverse control) in
    elim (dec_lt first i) [
      | yes before ↦ is ∙ ap (λ b. if b then length control - first else 0) (lt-ltb first i before)
      | no past ↦ let none : 0 ≡ length control - first = omega arith in is ∙ ap (λ b. if b then length control - first else 0) (le-ltb first i (omega arith)) ∙ none
    ]

pub through_within : (control : List ℕ) → through_zero control ≤ length control
unfolding through_zero
through_within control = omega arith

-- ---- the whole of an edit

pub all_edited : (s : Storage) (b n : ℕ) → b < length s → n ≤ b + 1 → (amount : List ℕ) (minus : Bool) (through : ℕ) → through ≡ through_zero (codes_ending s b n) →
    (t : Storage) → t ≡ put_codes s (b + 1 - n) (filled (codes_ending s b n) amount minus) →
    (new : Storage) → new ≡ put_codes t (b + 1 - n) (blanked (min through (leading (ends Digit) (codes_ending t b n))) (codes_ending t b n)) →
    new ≡ put_codes s (b + 1 - n) (edited (codes_ending s b n) amount minus)
unfolding edited
all_edited s b n b_in b_from amount minus through through_is t t_is new new_is =
    let long : length (filled (codes_ending s b n) amount minus) ≡ n = length-filled (codes_ending s b n) amount minus ∙ length-codes_ending s b n b_in b_from in
    new_is
    ∙ ap (λ xs. put_codes t (b + 1 - n) (blanked (min through (leading (ends Digit) xs)) xs)) (codes_ending_is_from t b n (b + 1 - n) (omega arith))
    ∙ ap (λ x. put_codes x (b + 1 - n) (blanked (min through (leading (ends Digit) (codes_from x (b + 1 - n) n))) (codes_from x (b + 1 - n) n))) t_is
    ∙ blank_after s (b + 1 - n) n through (ends Digit) (filled (codes_ending s b n) amount minus) long (omega arith)
    ∙ ap (λ k. put_codes s (b + 1 - n) (blanked (min k (leading (ends Digit) (filled (codes_ending s b n) amount minus))) (filled (codes_ending s b n) amount minus))) through_is

pub ending_is_from : (s new : Storage) (b n through : ℕ) → n ≤ b + 1 →
    new ≡ put_codes s (b + 1 - n) (blanked (min through (leading (ends Digit) (codes_from s (b + 1 - n) n))) (codes_from s (b + 1 - n) n)) →
    new ≡ put_codes s (b + 1 - n) (blanked (min through (leading (ends Digit) (codes_ending s b n))) (codes_ending s b n))
ending_is_from s new b n through le new_is =
    new_is ∙ ap (λ xs. put_codes s (b + 1 - n) (blanked (min through (leading (ends Digit) xs)) xs)) (sym (codes_ending_is_from s b n (b + 1 - n) (omega arith)))

-- the steps of the loop, of what the calls answered
module _ (s : Storage) (a a_count b b_count i : ℕ) (a_in : a < length s) (a_from : a_count ≤ a + 1) (b_in : b < length s) (b_from : b_count ≤ b + 1) (i_in : i < b_count)
    (apart : is_sharing a a_count b b_count ≡ false) (minus : Bool) (now : Storage)
    (is : now ≡ put_codes s (b + 1 - i) (filled (codes_ending s b i) (bare_units (codes_ending s a a_count)) minus))
    (right : ℕ) (right_is : right ≡ places (codes_ending s b i)) (code : ℕ) (code_is : code ≡ code_at now (b - i)) where
  pub filled_on : (digit : ℕ) → digit ≡ from_right (bare_units (codes_ending now a a_count)) right → (made : ℕ) → made ≡ filled_code minus a_count right digit code →
      (new : Storage) → new ≡ put now (b - i) made →
      new ≡ put_codes s (b + 1 - (i + 1)) (filled (codes_ending s b (i + 1)) (bare_units (codes_ending s a a_count)) minus)
  filled_on digit digit_is made made_is new new_is =
      new_is ∙ ap (put now (b - i)) made_is ∙ fill_step s a a_count b b_count i a_in a_from b_in b_from i_in apart minus now is right digit code right_is digit_is code_is

  pub right_on : (next : ℕ) → next ≡ (if is_place code then right + 1 else right) → next ≡ places (codes_ending s b (i + 1))
  right_on next next_is =
      next_is ∙ places_more s b i b_in (omega arith) right code right_is (code_is ∙ read_control s a a_count b b_count i a_in a_from b_in b_from i_in apart minus now is)

  pub through_on : (left : ℕ) → left ≡ b_count - i → (through : ℕ) → through ≡ through_seen (codes_ending s b b_count) i →
      (next : ℕ) → next ≡ (if through == 0 && is_any (codes "0") code then left else through) → next ≡ through_seen (codes_ending s b b_count) (i + 1)
  through_on left left_is through through_is next next_is =
      let control = codes_ending s b b_count in
      let long : length control ≡ b_count = length-codes_ending s b b_count b_in b_from in
      let here : is_any (codes "0") code ≡ is_any (codes "0") (get_or (reverse control) i 0) =
      ap (is_any (codes "0")) (code_is ∙ read_control s a a_count b b_count i a_in a_from b_in b_from i_in apart minus now is ∙ sym (backward s b b_count b_in b_from i i_in)) in
      let same : left ≡ length control - i = omega arith in
      seen_more control i (omega arith) next through (is_any (codes "0") code) here through_is (next_is ∙ ap (λ n. if through == 0 && is_any (codes "0") code then n else through) same)
