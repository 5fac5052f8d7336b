-- The stretches that a job's rows hold, read one after the other.
use Rattle.std.proofs.Common.{◌≡◌, ◌<◌, ◌≤◌, ◌+◌, ◌++◌, ◌^◌, ℕ, zero, suc, List, [], ◌∷◌, map, take, drop, length, get_or, Bool, true, false, nat_lt, refl, sym, ap, ◌∙◌, arith}
use Rattle.std.proofs.lemmas.Bool.Decides.{nat_tests}
use Rattle.std.proofs.lemmas.List.{take_all, take_more}
use Rattle.std.proofs.lemmas.List.Sums.{sum_by-cons}
use Rattle.std.proofs.Math.ListN.{drop_of_length-le}
use Rattle.office.specs.Jobs.{granted, AreStretches, HasSwitches}
use Rattle.office.specs.declared.stretches.Stretch.{Stretch}
use Rattle.sqlite.specs.Order.{Row}
use Rattle.office_tables.specs.Standing.{stretch_row}
use Rattle.ledger_tables.specs.Tables as row
use Rattle.job_checks.specs.Tables.{rows_of}
use Rattle.job_checks.proofs.PlacedLemmas.{placed_from, placed_more}
use Rattle.job_checks.proofs.RowLemmas.{kept_here, left_here}

-- no stretch is granted more than all together
each_granted : (xs : List Stretch) (k : ℕ) (d : Stretch) → k < length xs → (get_or xs k d).granted ≤ granted xs
each_granted [] k d less = absurd (omega (arith, less))
each_granted (x ∷ xs) zero d less = let all : granted (x ∷ xs) ≡ x.granted + granted xs = sum_by-cons (λ (s : Stretch). s.granted) x xs in omega (arith, all)
each_granted (x ∷ xs) (suc k) d less = let all : granted (x ∷ xs) ≡ x.granted + granted xs = sum_by-cons (λ (s : Stretch). s.granted) x xs in let rest = each_granted xs k d (omega (arith, less)) in omega (arith, all, rest)

pub granted_below : (xs : List Stretch) (k : ℕ) (d : Stretch) → AreStretches xs → k < length xs → (get_or xs k d).granted < 2 ^ 32
granted_below xs k d are less = let one = each_granted xs k d less in let most = are.most in omega (arith, one, most)

module _ (customer : List ℕ) (number : ℕ) (rows : List Row) (xs : List Stretch) where
  abbrev pub at_place : ℕ → Stretch
  at_place k = get_or xs k (record { switches = record { 0 = 0 }; granted = 0 })

  -- the rows of the stretches from a place on
  abbrev left : ℕ → List Row
  left k = placed_from (row.stretch_row customer number) stretch_row 0 xs k

  -- these are the first stretches, and the rows from a place on are those of the others
  pub record HasRead (items : List Stretch) (at : ℕ) : Type 0 where
    pub first : items ≡ take (length items) xs
    pub others : rows_of customer number (drop at rows) ≡ left (length items)

  none_left : (k : ℕ) → length xs ≤ k → left k ≡ []
  none_left k past = ap (λ ys. row.placed (row.stretch_row customer number) (0 + k) (map stretch_row ys)) (drop_of_length-le xs past)

  -- where a row is left, a stretch is
  some_left : (k : ℕ) (r : Row) (rest : List Row) → r ∷ rest ≡ left k → k < length xs
  some_left k r rest is = go (nat_lt k (length xs)) refl
    where
      go : (b : Bool) → nat_lt k (length xs) ≡ b → k < length xs
      go true less = grind (arith, nat_tests, less)
      go false more = let past : length xs ≤ k = grind (arith, nat_tests, more) in absurd (let none : r ∷ rest ≡ [] = is ∙ none_left k past in cc)

  -- the next row is that of the next stretch
  pub record IsNext (items : List Stretch) (at : ℕ) (r : Row) : Type 0 where
    pub within : length items < length xs
    pub row_is : r ≡ row.stretch_row customer number (0 + length items) (stretch_row (at_place (length items)))
    pub rest_is : rows_of customer number (drop (at + 1) rows) ≡ left (length items + 1)

  pub next_is : (items : List Stretch) (at : ℕ) (d : Row) → at < length rows → HasRead items at → row.is_row_of customer number (get_or rows at d) ≡ true → IsNext items at (get_or rows at d)
  next_is items at d less has passes =
      let k : ℕ = length items in
      let next : List Row = rows_of customer number (drop (at + 1) rows) in
      let cons : get_or rows at d ∷ next ≡ left k = sym (kept_here (row.is_row_of customer number) rows at d less passes) ∙ has.others in
      let within : k < length xs = some_left k (get_or rows at d) next cons in
      let both = cons ∙ placed_more (row.stretch_row customer number) stretch_row 0 xs k (record { switches = record { 0 = 0 }; granted = 0 }) within in
      record { within = within; row_is = ap (λ (rs : List Row). get_or rs 0 []) both; rest_is = ap (drop 1) both }

  longer : (items : List Stretch) (s : Stretch) → length (items ++ s ∷ []) ≡ length items + 1
  longer [] s = refl
  longer (x ∷ items) s = let rest = longer items s in omega (arith, rest)

  pub read_more : (items : List Stretch) (at : ℕ) (r : Row) (s : Stretch) → HasRead items at → IsNext items at r → s ≡ at_place (length items) → HasRead (items ++ s ∷ []) (at + 1)
  read_more items at r s has next is =
      let k : ℕ = length items in
      record {
        first = ap (λ ys. ys ++ s ∷ []) has.first ∙ ap (λ y. take k xs ++ y ∷ []) is ∙ sym (take_more xs k (record { switches = record { 0 = 0 }; granted = 0 }) next.within) ∙ ap (λ n. take n xs) (sym (longer items s));
        others = next.rest_is ∙ ap left (sym (longer items s));
      }

  pub passed_over : (items : List Stretch) (at : ℕ) (d : Row) → at < length rows → HasRead items at → row.is_row_of customer number (get_or rows at d) ≡ false → HasRead items (at + 1)
  passed_over items at d less has fails = record { first = has.first; others = sym (left_here (row.is_row_of customer number) rows at d less fails) ∙ has.others }

  pub read_all : (items : List Stretch) (at : ℕ) → length rows ≤ at → HasRead items at → items ≡ xs
  read_all items at past has = go (nat_lt (length items) (length xs)) refl
    where
      none : [] ≡ left (length items)
      none = sym (ap (rows_of customer number) (drop_of_length-le rows past)) ∙ has.others

      go : (b : Bool) → nat_lt (length items) (length xs) ≡ b → items ≡ xs
      go true less =
          let within : length items < length xs = grind (arith, nat_tests, less) in
          absurd (let some = none ∙ placed_more (row.stretch_row customer number) stretch_row 0 xs (length items) (record { switches = record { 0 = 0 }; granted = 0 }) within in cc)
      go false more = let all : length xs ≤ length items = grind (arith, nat_tests, more) in has.first ∙ take_all (length items) xs all

  -- the next stretch is one that a row can hold
  pub next_held : (items : List Stretch) (at : ℕ) (r : Row) → AreStretches xs → IsNext items at r → HasSwitches (at_place (length items)) × ((at_place (length items)).granted < 2 ^ 32)
  next_held items at r are next = (are.switches (length items) (record { switches = record { 0 = 0 }; granted = 0 }) next.within, granted_below xs (length items) (record { switches = record { 0 = 0 }; granted = 0 }) are next.within)
