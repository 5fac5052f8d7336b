-- two cards whose pictures have the same holes are one
use Rattle.std.proofs.Common.{◌≡◌, ◌≢◌, ℕ, ◌+◌, ◌-◌, ◌*◌, ◌/◌, ◌<◌, ◌≤◌, ◌==◌, ◌^◌, not, true, if◌then◌else◌, bit_and, nat_lt, inl, inr, List, get_or, refl, ap, sym, ◌∙◌, subst, arith}
use Rattle.std.specs.Int.{bit_at}
use Rattle.std.specs.List.{All, Contains}
use Rattle.std.proofs.lemmas.Bool.{cases_eq, eqb-true, ltb-true}
use Rattle.std.proofs.lemmas.List.{ext_get_or}
use Rattle.std.proofs.lemmas.List.Elements.{All-contains, All-weaker}
use Rattle.std.proofs.lemmas.List.Sums.{AllPass-from_list_all}
use Rattle.std.proofs.lemmas.Nat.Bits.{and_pow, bit_at-lt, same_from_bits_below}
use Rattle.bcd.proofs.Tables.{at_each}
use Rattle.bcd.specs.Table.{row}
use Rattle.card_forms.specs.Images.{IsImage}
use Rattle.card_forms.specs.declared.images.CardImage.{CardImage}
use Rattle.pictures.specs.Cards.{picture}
use Rattle.pictures.specs.Places.{column_middle, corner, row_middle, rows}
use Rattle.pictures.specs.Reading.{HasHole, IsPunched}
use Rattle.pictures.proofs.CardLaw.{picture_punches}

-- the row of a bit of a pattern
abbrev row_at : ℕ → ℕ
row_at place = if place == 11 then 12 else (if place == 10 then 11 else 9 - place)

row_bit : (place : ℕ) → place < 12 → row (row_at place) ≡ 2 ^ place
row_bit place below = eqb-true (row (row_at place)) (2 ^ place) (at_each (λ k. row (row_at k) == 2 ^ k) 12 refl place below)

row_there : (place : ℕ) → place < 12 → Contains rows (row_at place)
row_there place below =
    (11 - place, omega arith, eqb-true _ _ (at_each (λ k. get_or rows (11 - k) (row_at k) == row_at k) 12 refl place below))

bit_shown : (pattern place : ℕ) → place < 12 → bit_and pattern (row (row_at place)) ≡ bit_at pattern place * 2 ^ place
bit_shown pattern place below = ap (bit_and pattern) (row_bit place below) ∙ and_pow pattern place

-- a bit that is set is a hole, and a hole is a bit that is set
hole_of_bit : (pattern place : ℕ) → place < 12 → bit_at pattern place ≡ 1 → bit_and pattern (row (row_at place)) ≢ 0
hole_of_bit pattern place below is none =
    let power : 1 * 2 ^ place ≡ 0 = sym (ap (λ bit. bit * 2 ^ place) is) ∙ sym (bit_shown pattern place below) ∙ none in
    let some : not (1 * 2 ^ place == 0) ≡ true = at_each (λ k. not (1 * 2 ^ k == 0)) 12 refl place below in
    grind (arith, some, power)

none_of : (number : ℕ) → 0 * number ≡ 0
none_of number = omega arith

bit_of_hole : (pattern place : ℕ) → place < 12 → bit_and pattern (row (row_at place)) ≢ 0 → bit_at pattern place ≡ 1
bit_of_hole pattern place below hole = elim (cases_eq (bit_at pattern place) 0) [
  | inl none ↦ absurd (hole (bit_shown pattern place below ∙ ap (λ bit. bit * 2 ^ place) none ∙ none_of (2 ^ place)))
  | inr some ↦ omega (arith, bit_at-lt pattern place, some)
]

-- the row of a hole by its upper edge
abbrev row_back : ℕ → ℕ
row_back top = if top == 188 then 12 else (if top == 438 then 11 else (top + 62 - 750) / 250)

back_is : (number : ℕ) → number < 13 → row_back (row_middle number - 62) ≡ number
back_is number below =
    eqb-true (row_back (row_middle number - 62)) number (at_each (λ k. row_back (row_middle k - 62) == k) 13 refl number below)

low_rows : All (λ number. number < 13) rows
low_rows =
    All-weaker (λ number. nat_lt number 13 ≡ true) (λ number. number < 13) (λ number below. ltb-true number 13 below) rows
    (AllPass-from_list_all (λ number. nat_lt number 13) rows refl)

low_row : (number : ℕ) → Contains rows number → number < 13
low_row number there = All-contains (λ number. number < 13) rows number low_rows there

-- a corner is that of one column and one row
same_corner : (column other number next : ℕ) → 1 ≤ column → 1 ≤ other → Contains rows number → Contains rows next
    → corner (column, number) ≡ corner (other, next) → (column ≡ other) × (number ≡ next)
same_corner column other number next first second here there same =
    let left : column_middle column - 27 ≡ column_middle other - 27 = ap (λ (place : ℕ × ℕ). place.0) same in
    let top : row_middle number - 62 ≡ row_middle next - 62 = ap (λ (place : ℕ × ℕ). place.1) same in
    (omega (arith, left, first, second), sym (back_is number (low_row number here)) ∙ ap row_back top ∙ back_is next (low_row next there))

-- a hole of the one card is a hole of the other
hole_over : (one two : CardImage) → IsImage one → IsImage two → picture one ≡ picture two
    → (column number : ℕ) → IsPunched one column number → IsPunched two column number
hole_over one two is_one is_two same column number punched =
    let place = corner (column, number) in
    let has : HasHole (picture one) place = (picture_punches one is_one place).1 (column, number, refl, punched) in
    let found = (picture_punches two is_two place).0 (subst (λ (image : List ℕ). HasHole image place) same has) in
    let both = same_corner column found.0 number found.1 punched.first found.3.first punched.is_row found.3.is_row found.2 in
    subst (λ (c : ℕ). IsPunched two c number) (sym both.0) (subst (λ (n : ℕ). IsPunched two found.0 n) (sym both.1) found.3)

bit_over : (one two : CardImage) → ((column number : ℕ) → IsPunched one column number → IsPunched two column number)
    → (column place : ℕ) → 1 ≤ column → column ≤ 80 → place < 12
    → bit_at (get_or one.0 (column - 1) 0) place ≡ 1 → bit_at (get_or two.0 (column - 1) 0) place ≡ 1
bit_over one two over column place first last below is =
    let punched = over column (row_at place) (record {
      first = first;
      last = last;
      is_row = row_there place below;
      punched = hole_of_bit (get_or one.0 (column - 1) 0) place below is;
    }) in
    bit_of_hole (get_or two.0 (column - 1) 0) place below punched.punched

same_bit : (one two place : ℕ) → (bit_at one place ≡ 1 → bit_at two place ≡ 1) → (bit_at two place ≡ 1 → bit_at one place ≡ 1)
    → bit_at one place ≡ bit_at two place
same_bit one two place over back = elim (cases_eq (bit_at one place) 1) [
  | inl set ↦ set ∙ sym (over set)
  | inr clear ↦ elim (cases_eq (bit_at two place) 1) [
    | inl set ↦ absurd (clear (back set))
    | inr none ↦ omega (arith, bit_at-lt one place, bit_at-lt two place, clear, none)
  ]
]

same_image : (one two : CardImage) → one.0 ≡ two.0 → one ≡ two
same_image one two same = ap (λ (columns : List ℕ). let image : CardImage = record { 0 = columns } in image) same

-- two cards with one picture are one
pub one_image : (one two : CardImage) → IsImage one → IsImage two → picture one ≡ picture two → one ≡ two
one_image one two is_one is_two same =
    let over = hole_over one two is_one is_two same in
    let back = hole_over two one is_two is_one (sym same) in
    same_image one two (ext_get_or 0 one.0 two.0 (is_one.0 ∙ sym is_two.0) (λ k below.
    let column : k + 1 - 1 ≡ k = omega arith in
    let last : k + 1 ≤ 80 = omega (arith, below, is_one.0) in
    same_from_bits_below 12 (get_or one.0 k 0) (get_or two.0 k 0) (is_one.1 k 0 below) (is_two.1 k 0 (omega (arith, below, is_one.0, is_two.0))) (λ place under.
    same_bit (get_or one.0 k 0) (get_or two.0 k 0) place
    (rw column at (bit_over one two over (k + 1) place (omega arith) last under))
    (rw column at (bit_over two one back (k + 1) place (omega arith) last under)))))
