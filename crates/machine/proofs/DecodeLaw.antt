-- where an instruction ends
use Rattle.std.proofs.Common.{◌≡◌, ℕ, ◌+◌, ◌-◌, ◌<◌, ◌≤◌, min, Bool, true, false, Option, Some, None, refl, sym, ap, ◌∙◌, inl, inr, arith, if◌then◌else◌, length, leb, unwrap_or}
use Rattle.std.specs.Prelude.{codes}
use Rattle.std.specs.Option.{option_map}
use Rattle.std.proofs.lemmas.Bool.{leb-true, le-leb}
use Rattle.std.proofs.lemmas.Option.{none-some, same_Some, cond_some}
use Rattle.std.proofs.Math.Decide.{dec_lt}
use Rattle.core_store.specs.Storage.{Storage, IsLeastMark, LeastMark, code_at, is_marked, least_mark}
use Rattle.core_store.proofs.Marks.{least_is, least_is_least, past_end}
use Rattle.machine.specs.Glyphs.{is_glyph}
use Rattle.machine.specs.Word.{EndsAt, IsInstruction, ending_in, word_length}

-- a marked position lies in the storage
marked_within : (s : Storage) (p : ℕ) → is_marked s p ≡ true → p < length s
marked_within s p m =
    elim (dec_lt p (length s)) [
      | yes within ↦ within
      | no beyond ↦ let none : is_marked s p ≡ false = past_end s p (omega arith) in absurd (let e : true ≡ false = sym m ∙ none in cc)
    ]

ending_is : (s : Storage) (i n count : ℕ) → ending_in s i n ≡ Some count → (i + n ≤ length s) × (n ≡ count)
ending_is s i n count e =
    let parts = cond_some (leb (i + n) (length s)) n count e in
    (leb-true (i + n) (length s) parts.0, parts.1)

is_ending : (s : Storage) (i n count : ℕ) → i + count ≤ length s → n ≡ count → ending_in s i n ≡ Some count
is_ending s i n count within same = rw (same, le-leb (i + count) (length s) within) refl

-- how many characters come before the mark that was found, by whether the first one is a comma
abbrev counted : Storage → ℕ → Bool → Option ℕ → Option ℕ
counted s i comma found = if comma then ending_in s i (min (unwrap_or found (i + 8) - i) 7) else option_map (λ end. end - i) found

abbrev Ends : Storage → ℕ → ℕ → Bool → Type 0
Ends s i count comma = EndsAt comma s i count × (i + count ≤ length s)

-- ---- what is counted is where the instruction ends

least_at : (s : Storage) (i q count : ℕ) → q - i ≡ count → IsLeastMark s (i + 1) 8 q → IsLeastMark s (i + 1) 8 (i + count)
least_at s i q count e least =
    let below : i + 1 ≤ q = least.not_below in
    let same : q ≡ i + count = omega arith in
    rw same at least

comma_at : (s : Storage) (i q count : ℕ) → min (q - i) 7 ≡ count → IsLeastMark s (i + 1) 8 q → EndsAt true s i count
comma_at s i q count e least =
    let below : i + 1 ≤ q = least.not_below in
    elim (dec_lt (q - i) 7) [
      | yes early ↦ inl (omega arith, least_at s i q count (omega arith) least)
      | no late ↦ inr (omega arith, λ p after before. least.none_before p (omega arith) (omega arith))
    ]

counted_ends : (s : Storage) (i count : ℕ) (comma : Bool) (found : Option ℕ) → LeastMark s (i + 1) 8 found → counted s i comma found ≡ Some count → Ends s i count comma
counted_ends s i count false None h e = absurd (none-some count e)
counted_ends s i count false (Some q) h e =
    let least = least_at s i q count (same_Some (q - i) count e) h in
    let within : i + count < length s = marked_within s (i + count) least.marked in
    (least, omega arith)
counted_ends s i count true None h e =
    let (within, same) = ending_is s i (min (i + 8 - i) 7) count e in
    (inr (omega arith, λ p after before. h p (omega arith) (omega arith)), omega arith)
counted_ends s i count true (Some q) h e =
    let (within, same) = ending_is s i (min (q - i) 7) count e in
    (comma_at s i q count same h, omega arith)

-- ---- where an instruction ends is what is counted

found_is : (s : Storage) (i q : ℕ) → IsLeastMark s (i + 1) 8 q → least_mark s (i + 1) 8 ≡ Some q
found_is s i q least = least_is s (i + 1) 8 q least.not_below least.among least.marked least.none_before

-- with no mark before the eighth character a comma has seven
seven_counted : (s : Storage) (i : ℕ) (found : Option ℕ) → LeastMark s (i + 1) 8 found → ((p : ℕ) → i < p → p < i + 7 → is_marked s p ≡ false) → min (unwrap_or found (i + 8) - i) 7 ≡ 7
seven_counted s i None h none = omega arith
seven_counted s i (Some q) h none =
    elim (dec_lt q (i + 7)) [
      | yes early ↦ let unmarked : is_marked s q ≡ false = none q (omega (arith, h.not_below)) early in absurd (let e : true ≡ false = sym h.marked ∙ unmarked in cc)
      | no late ↦ omega arith
    ]

ends_counted : (s : Storage) (i count : ℕ) (comma : Bool) → EndsAt comma s i count → i + count ≤ length s → counted s i comma (least_mark s (i + 1) 8) ≡ Some count
ends_counted s i count false least within =
    let same : i + count - i ≡ count = omega arith in
    ap (option_map (λ end. end - i)) (found_is s i (i + count) least) ∙ ap Some same
ends_counted s i count true (inl (few, least)) within =
    let same : min (i + count - i) 7 ≡ count = omega arith in
    is_ending s i _ count within (ap (λ found. min (unwrap_or found (i + 8) - i) 7) (found_is s i (i + count) least) ∙ same)
ends_counted s i count true (inr (seven, none)) within =
    is_ending s i _ count within (seven_counted s i (least_mark s (i + 1) 8) (least_is_least s (i + 1) 8) none ∙ sym seven)

-- ---- both

abbrev comma_at_start : Storage → ℕ → Bool
comma_at_start s i = is_glyph (code_at s i) (codes ",")

length_if : (s : Storage) (i count : ℕ) (marked : Bool) → (if marked then counted s i (comma_at_start s i) (least_mark s (i + 1) 8) else None) ≡ Some count →
    (marked ≡ true) × Ends s i count (comma_at_start s i)
length_if s i count true e = (refl, counted_ends s i count (comma_at_start s i) (least_mark s (i + 1) 8) (least_is_least s (i + 1) 8) e)
length_if s i count false e = absurd (none-some count e)

pub length_ends : (s : Storage) (i count : ℕ) → word_length s i ≡ Some count → IsInstruction s i count
unfolding word_length
length_ends s i count e =
    let parts = length_if s i count (is_marked s i) e in
    record { begins = parts.0; ends = parts.1.0; inside = parts.1.1 }

pub ends_length : (s : Storage) (i count : ℕ) → IsInstruction s i count → word_length s i ≡ Some count
unfolding word_length
ends_length s i count h = rw h.begins (ends_counted s i count (comma_at_start s i) h.ends h.inside)
