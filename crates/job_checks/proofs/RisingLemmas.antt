-- Lists that rise by their places.
use Rattle.std.proofs.Common.{◌≡◌, ◌<◌, ◌≤◌, ◌+◌, ◌++◌, ℕ, List, [], ◌∷◌, map, filter, Bool, true, false, cond, ◌==◌, nat_lt, Option, Some, None, refl, sym, ap, ◌∙◌, arith}
use Rattle.std.specs.List.{AllByRecursion}
use Rattle.std.specs.Option.{option_to_list}
use Rattle.std.proofs.lemmas.Bool.Decides.{nat_tests}
use Rattle.sqlite.specs.Order.{Row}
use Rattle.sqlite.specs.Tree.{IsAscending}
use Rattle.sqlite_keyed.proofs.ListLemmas.{all_weaker}
use Rattle.job_checks.specs.Tables.{placed_some}

-- what holds of those that pass a test
pub all_passing : {X : Type 0} (P Q : X → Type 0) (p : X → Bool) → ((x : X) → P x → p x ≡ true → Q x) → (xs : List X) → AllByRecursion P xs → AllByRecursion Q (filter p xs)
all_passing P Q p so [] all = tt
all_passing P Q p so (x ∷ xs) all = go (p x) refl (all_passing P Q p so xs all.1)
  where
    go : (b : Bool) → p x ≡ b → AllByRecursion Q (filter p xs) → AllByRecursion Q (cond b (x ∷ filter p xs) (filter p xs))
    go true passes rest = (so x all.0 passes, rest)
    go false fails rest = rest

-- ---- lists that are the same at each place

module _ {X : Type 0} (place : X → ℕ) (at : ℕ → X → Bool) where
  -- a test for each place tells whether it is this thing's
  abbrev pub IsPlaced : X → Type 0
  IsPlaced x = (k : ℕ) → at k x ≡ (place x == k)

  -- no place is past a later one
  abbrev pub Rise : List X → Type 0
  Rise = IsAscending (λ a b. place a ≤ place b)

  -- both have the same things at each place
  abbrev pub AreSameAt : List X → List X → Type 0
  AreSameAt xs ys = (k : ℕ) → filter (at k) xs ≡ filter (at k) ys

  at_its_place : (x : X) (k : ℕ) → IsPlaced x → place x ≡ k → at k x ≡ true
  at_its_place x k placed is = placed k ∙ grind (arith, nat_tests, is)

  at_no_earlier : (x : X) (k : ℕ) → IsPlaced x → k < place x → at k x ≡ false
  at_no_earlier x k placed less = placed k ∙ grind (arith, nat_tests, less)

  -- before the first place there is nothing
  none_before : (k : ℕ) (xs : List X) → AllByRecursion IsPlaced xs → AllByRecursion (λ x. k < place x) xs → filter (at k) xs ≡ []
  none_before k [] placed past = refl
  none_before k (x ∷ xs) placed past = rw (at_no_earlier x k placed.0 past.0) (none_before k xs placed.1 past.1)

  kept_first : (x : X) (xs : List X) (k : ℕ) → IsPlaced x → place x ≡ k → filter (at k) (x ∷ xs) ≡ x ∷ filter (at k) xs
  kept_first x xs k placed is = rw (at_its_place x k placed is) refl

  -- the first place is not past that of the other list
  first_least : (x y : X) (xs ys : List X) → AllByRecursion IsPlaced (x ∷ xs) → IsPlaced y → Rise (x ∷ xs) → AreSameAt (x ∷ xs) (y ∷ ys) → place x ≤ place y
  first_least x y xs ys placed other up same = go (nat_lt (place y) (place x)) refl
    where
      go : (b : Bool) → nat_lt (place y) (place x) ≡ b → place x ≤ place y
      go false is = grind (arith, nat_tests, is)
      go true is =
          let less : place y < place x = grind (arith, nat_tests, is) in
          let past = all_weaker (λ z. place x ≤ place z) (λ z. place y < place z) (λ z least. omega (arith, least, less)) xs up.0 in
          let none : filter (at (place y)) (x ∷ xs) ≡ [] = none_before (place y) (x ∷ xs) placed (less, past) in
          let some : filter (at (place y)) (y ∷ ys) ≡ y ∷ filter (at (place y)) ys = kept_first y ys (place y) other refl in
          absurd (let e : [] ≡ y ∷ filter (at (place y)) ys = sym none ∙ same (place y) ∙ some in cc)

  -- without their first things, at the same place
  others_same : (x y : X) (xs ys : List X) → IsPlaced x → IsPlaced y → place x ≡ place y → AreSameAt (x ∷ xs) (y ∷ ys) → AreSameAt xs ys
  others_same x y xs ys one two level same k = go (place x == k) refl
    where
      go : (b : Bool) → (place x == k) ≡ b → filter (at k) xs ≡ filter (at k) ys
      go true is =
          let here : place x ≡ k = grind (arith, nat_tests, is) in
          let e : x ∷ filter (at k) xs ≡ y ∷ filter (at k) ys = sym (kept_first x xs k one here) ∙ same k ∙ kept_first y ys k two (sym level ∙ here) in
          cc
      go false is =
          let first : at k x ≡ false = one k ∙ is in
          let second : at k y ≡ false = two k ∙ ap (λ n. n == k) (sym level) ∙ is in
          rw (first, second) at (same k)

  -- lists that rise, and have the same at each place, are the same
  pub same_rising : (xs ys : List X) → AllByRecursion IsPlaced xs → AllByRecursion IsPlaced ys → Rise xs → Rise ys → AreSameAt xs ys → xs ≡ ys
  same_rising [] [] one two up rise same = refl
  same_rising [] (y ∷ ys) one two up rise same = absurd (let e : [] ≡ y ∷ filter (at (place y)) ys = same (place y) ∙ kept_first y ys (place y) two.0 refl in cc)
  same_rising (x ∷ xs) [] one two up rise same = absurd (let e : x ∷ filter (at (place x)) xs ≡ [] = sym (kept_first x xs (place x) one.0 refl) ∙ same (place x) in cc)
  same_rising (x ∷ xs) (y ∷ ys) one two up rise same =
      let low = first_least x y xs ys one two.0 up same in
      let high = first_least y x ys xs two one.0 rise (λ k. sym (same k)) in
      let level : place x ≡ place y = omega (arith, low, high) in
      let firsts : x ∷ filter (at (place x)) xs ≡ y ∷ filter (at (place x)) ys = sym (kept_first x xs (place x) one.0 refl) ∙ same (place x) ∙ kept_first y ys (place x) two.0 (sym level) in
      let first : x ≡ y = cc in
      let rest : xs ≡ ys = same_rising xs ys one.1 two.1 up.1 rise.1 (others_same x y xs ys one.0 two.0 level same) in
      cc

-- ---- rows of those things that have one

module _ {X Y : Type 0} (cell : X → Option Y) (row : ℕ → Y → Row) where
  -- what holds of the row at each place holds of all
  pub all_some : (P : Row → Type 0) → ((k : ℕ) (y : Y) → P (row k y)) → (first : ℕ) (xs : List X) → AllByRecursion P (placed_some cell row first xs)
  all_some P each first [] = tt
  all_some P each first (x ∷ xs) = one (cell x) (all_some P each (first + 1) xs)
    where
      one : (o : Option Y) → AllByRecursion P (placed_some cell row (first + 1) xs) → AllByRecursion P (map (row first) (option_to_list o) ++ placed_some cell row (first + 1) xs)
      one None rest = rest
      one (Some y) rest = (each first y, rest)

  module _ (place : Row → ℕ) (placed : (k : ℕ) (y : Y) → place (row k y) ≡ k) where
    all_from : (low first : ℕ) (xs : List X) → low ≤ first → AllByRecursion (λ r. low ≤ place r) (placed_some cell row first xs)
    all_from low first [] below = tt
    all_from low first (x ∷ xs) below = one (cell x) (all_from low (first + 1) xs (omega (arith, below)))
      where
        one : (o : Option Y) → AllByRecursion (λ r. low ≤ place r) (placed_some cell row (first + 1) xs) → AllByRecursion (λ r. low ≤ place r) (map (row first) (option_to_list o) ++ placed_some cell row (first + 1) xs)
        one None rest = rest
        one (Some y) rest = (omega (arith, below, placed first y), rest)

    -- they rise by their places
    pub some_rise : (first : ℕ) (xs : List X) → IsAscending (λ a b. place a ≤ place b) (placed_some cell row first xs)
    some_rise first [] = tt
    some_rise first (x ∷ xs) = one (cell x) (some_rise (first + 1) xs)
      where
        later : (y : Y) → AllByRecursion (λ r. place (row first y) ≤ place r) (placed_some cell row (first + 1) xs)
        later y = all_from (place (row first y)) (first + 1) xs (omega (arith, placed first y))

        one : (o : Option Y) → IsAscending (λ a b. place a ≤ place b) (placed_some cell row (first + 1) xs) → IsAscending (λ a b. place a ≤ place b) (map (row first) (option_to_list o) ++ placed_some cell row (first + 1) xs)
        one None rest = rest
        one (Some y) rest = (later y, rest)
