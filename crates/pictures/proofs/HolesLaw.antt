-- the holes of a card are the columns and rows in which it is punched
use Rattle.std.proofs.Common.{◌≡◌, ◌≢◌, ◌⊎◌, ℕ, zero, suc, ◌+◌, ◌-◌, ◌<◌, ◌≤◌, ◌==◌, inl, inr, Bool, true, false, not, bit_and, List, [], ◌∷◌, length, map, filter, get_or, refl, ap, sym, ◌∙◌, arith}
use Rattle.std.specs.List.{Contains}
use Rattle.std.proofs.lemmas.Bool.{cases_eq}
use Rattle.std.proofs.lemmas.List.Elements.{All-contains, All-contains_itself, All-filter, Contains-append_left, Contains-append_right, Contains-append_cases, filter_passes}
use Rattle.bcd.specs.Table.{row}
use Rattle.card_forms.specs.Images.{IsImage}
use Rattle.card_forms.specs.declared.images.CardImage.{CardImage}
use Rattle.pictures.specs.Cards.{holes_from, holes_in, is_punched}
use Rattle.pictures.specs.Places.{rows}
use Rattle.pictures.specs.Reading.{IsPunched}

-- an element of a list is its first one or one of the others
here : {X : Type 0} (x : X) (xs : List X) → Contains (x ∷ xs) x
here x xs = (0, omega arith, refl)

there : {X : Type 0} (y x : X) (xs : List X) → Contains xs x → Contains (y ∷ xs) x
there y x xs (k, below, is) = (suc k, omega (arith, below), is)

none_within : {X : Type 0} (x : X) → Contains [] x → ⊥
none_within x (k, below, is) = absurd (omega (arith, below))

cases_of : {X : Type 0} (y x : X) (xs : List X) → Contains (y ∷ xs) x → (y ≡ x) ⊎ Contains xs x
cases_of y x xs (zero, below, is) = inl is
cases_of y x xs (suc k, below, is) = inr (k, omega (arith, below), is)

-- what a test keeps
kept : {X : Type 0} (test : X → Bool) (xs : List X) (x : X) → Contains xs x → test x ≡ true → Contains (filter test xs) x
kept test [] x within passes = within
kept test (y ∷ xs) x within passes = elim (cases_of y x xs within) [
  | inl same ↦ let yes : test y ≡ true = ap test same ∙ passes in rw (yes, ← same) (here y (filter test xs))
  | inr later ↦ (elim (test y) as (λ t. test y ≡ t → Contains (filter test (y ∷ xs)) x) [
    | true ↦ λ yes. rw yes (there y x (filter test xs) (kept test xs x later passes))
    | false ↦ λ no. rw no (kept test xs x later passes)
  ]) refl
]

pub kept_only : {X : Type 0} (test : X → Bool) (xs : List X) (x : X) → Contains (filter test xs) x → Contains xs x × (test x ≡ true)
kept_only test xs x within = (
  All-contains (Contains xs) (filter test xs) x (All-filter test (Contains xs) xs (All-contains_itself xs)) within,
  All-contains (λ y. test y ≡ true) (filter test xs) x (filter_passes test xs) within,
)

-- what a function gives
pub given : {X Y : Type 0} (f : X → Y) (xs : List X) (x : X) → Contains xs x → Contains (map f xs) (f x)
given f [] x within = absurd (none_within x within)
given f (y ∷ xs) x within = elim (cases_of y x xs within) [
  | inl same ↦ rw (← same) (here (f y) (map f xs))
  | inr later ↦ there (f y) (f x) (map f xs) (given f xs x later)
]

pub given_only : {X Y : Type 0} (f : X → Y) (xs : List X) (y : Y) → Contains (map f xs) y → (x : X) × Contains xs x × (y ≡ f x)
given_only f [] y within = absurd (none_within y within)
given_only f (x ∷ xs) y within = elim (cases_of (f x) y (map f xs) within) [
  | inl same ↦ (x, here x xs, sym same)
  | inr later ↦ let rest = given_only f xs y later in (rest.0, there x rest.0 xs rest.1, rest.2)
]

-- a test that two numbers differ
differs : (n : ℕ) → not (n == 0) ≡ true → n ≢ 0
differs n other same = grind (arith, other, same)

differs_so : (n : ℕ) → n ≢ 0 → not (n == 0) ≡ true
differs_so n other = grind (arith, other)

-- the patterns of columns from one on have a hole in a column and a row
pub record IsPunchedFrom (first : ℕ) (codes : List ℕ) (column number : ℕ) : Type 0 where
  pub from : first ≤ column
  pub within : column < first + length codes
  pub is_row : Contains rows number
  pub punched : is_punched (get_or codes (column - first) 0) number ≡ true

-- the holes of one column
hole_in : (column code number : ℕ) → Contains rows number → is_punched code number ≡ true → Contains (holes_in column code) (column, number)
hole_in column code number is_row punched =
    given (λ number. (column, number)) (filter (is_punched code) rows) number (kept (is_punched code) rows number is_row punched)

hole_in_only : (column code : ℕ) (hole : ℕ × ℕ) → Contains (holes_in column code) hole → (hole.0 ≡ column) × Contains rows hole.1 × (is_punched code hole.1 ≡ true)
hole_in_only column code hole within =
    let found = given_only (λ number. (column, number)) (filter (is_punched code) rows) hole within in
    let parts = kept_only (is_punched code) rows found.0 found.1 in
    rw found.2 (refl, parts.0, parts.1)

-- the holes of columns from one on
pub holes_are : (first : ℕ) (codes : List ℕ) (hole : ℕ × ℕ) → Contains (holes_from first codes) hole → IsPunchedFrom first codes hole.0 hole.1
unfolding holes_from
holes_are first [] hole within = absurd (none_within hole within)
holes_are first (code ∷ codes) hole within =
    elim (Contains-append_cases (holes_in first code) (holes_from (first + 1) codes) hole within) [
      | inl now ↦
          let parts = hole_in_only first code hole now in
          let place : hole.0 - first ≡ 0 = omega (arith, parts.0) in
          record {
            from = omega (arith, parts.0);
            within = omega (arith, parts.0);
            is_row = parts.1;
            punched = rw place parts.2;
          }
      | inr later ↦
          let rest = holes_are (first + 1) codes hole later in
          let place : hole.0 - first ≡ suc (hole.0 - (first + 1)) = omega (arith, rest.from) in
          record {
            from = omega (arith, rest.from);
            within = omega (arith, rest.within);
            is_row = rest.is_row;
            punched = rw place rest.punched;
          }
    ]

pub are_holes : (first : ℕ) (codes : List ℕ) (column number : ℕ) → IsPunchedFrom first codes column number → Contains (holes_from first codes) (column, number)
unfolding holes_from
are_holes first [] column number punched = absurd (omega (arith, punched.from, punched.within))
are_holes first (code ∷ codes) column number punched =
    elim (cases_eq column first) [
      | inl same ↦
          let place : column - first ≡ 0 = omega (arith, same) in
          Contains-append_left (holes_in first code) (holes_from (first + 1) codes) (column, number)
          (rw same (hole_in first code number punched.is_row (rw place at punched.punched)))
      | inr other ↦
          let place : column - first ≡ suc (column - (first + 1)) = omega (arith, punched.from, other) in
          Contains-append_right (holes_in first code) (holes_from (first + 1) codes) (column, number)
          (are_holes (first + 1) codes column number (record {
            from = omega (arith, punched.from, other);
            within = omega (arith, punched.within);
            is_row = punched.is_row;
            punched = rw place at punched.punched;
          }))
    ]

-- by the punches of the card
pub of_card : (card : CardImage) (column number : ℕ) → IsImage card → IsPunchedFrom 1 card.0 column number → IsPunched card column number
of_card card column number is_card punched = record {
  first = punched.from;
  last = omega (arith, punched.within, is_card.0);
  is_row = punched.is_row;
  punched = differs (bit_and (get_or card.0 (column - 1) 0) (row number)) punched.punched;
}

pub by_card : (card : CardImage) (column number : ℕ) → IsImage card → IsPunched card column number → IsPunchedFrom 1 card.0 column number
by_card card column number is_card punched = record {
  from = punched.first;
  within = omega (arith, punched.last, is_card.0);
  is_row = punched.is_row;
  punched = differs_so (bit_and (get_or card.0 (column - 1) 0) (row number)) punched.punched;
}
