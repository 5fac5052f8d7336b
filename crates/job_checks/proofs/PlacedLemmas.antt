-- Rows that are passed one after the other.
use Rattle.std.proofs.Common.{◌≡◌, ◌<◌, ◌≤◌, ◌↔◌, ◌+◌, ◌++◌, ℕ, zero, suc, List, [], ◌∷◌, map, drop, length, get_or, Option, Some, None, refl, sym, ap, subst, ◌∙◌, arith}
use Rattle.std.specs.Option.{option_to_list}
use Rattle.std.proofs.lemmas.List.{drop_more}
use Rattle.std.proofs.Math.ListN.{drop_of_length-le}
use Rattle.sqlite.specs.Order.{Row}
use Rattle.ledger_tables.specs.Cells.{unless_blank}
use Rattle.ledger_tables.specs.Tables.{placed}
use Rattle.core_store.specs.Storage.{Storage}
use Rattle.ledger_rows.specs.Pages.{page_bytes}
use Rattle.job_checks.specs.Tables.{pages_from, placed_some}

-- the rows that are left are these exactly if all rows are those that are wanted
abbrev pub Leads : List Row → List Row → List Row → List Row → Type 0
Leads whole wanted rest left = (rest ≡ left) ↔ (whole ≡ wanted)

module _ {X Y : Type 0} (row : ℕ → Y → Row) (f : X → Y) (first : ℕ) (xs : List X) where
  -- the rows from a place on
  abbrev pub placed_from : ℕ → List Row
  placed_from at = placed row (first + at) (map f (drop at xs))

  pub placed_more : (at : ℕ) (d : X) → at < length xs → placed_from at ≡ row (first + at) (f (get_or xs at d)) ∷ placed_from (at + 1)
  placed_more at d less =
      let on : first + at + 1 ≡ first + (at + 1) = omega arith in
      ap (λ ys. placed row (first + at) (map f ys)) (drop_more xs at d less)
      ∙ ap (λ n. row (first + at) (f (get_or xs at d)) ∷ placed row n (map f (drop (at + 1) xs))) on

  pub placed_step : (at : ℕ) (d : X) (old new whole wanted : List Row) (it : Row) → at < length xs → Leads whole wanted old (placed_from at) → old ≡ it ∷ new → it ≡ row (first + at) (f (get_or xs at d)) → Leads whole wanted new (placed_from (at + 1))
  placed_step at d old new whole wanted it less leads passed is =
      let this : placed_from at ≡ it ∷ placed_from (at + 1) = placed_more at d less ∙ ap (λ v. v ∷ placed_from (at + 1)) (sym is) in
      (λ left. leads.0 (passed ∙ ap (λ vs. it ∷ vs) left ∙ sym this), λ all. ap (drop 1) (sym passed ∙ leads.1 all ∙ this))

  -- a row that is another one shows that not all are those that are wanted
  pub placed_fails : (at : ℕ) (d : X) (old whole wanted : List Row) (it : Row) → at < length xs → Leads whole wanted old (placed_from at) → ((rest : List Row) → ¬ (old ≡ it ∷ rest)) → it ≡ row (first + at) (f (get_or xs at d)) → ¬ (whole ≡ wanted)
  placed_fails at d old whole wanted it less leads other is =
      λ all. other (placed_from (at + 1)) (leads.1 all ∙ placed_more at d less ∙ ap (λ v. v ∷ placed_from (at + 1)) (sym is))

  pub placed_ends : (at : ℕ) (rest whole wanted : List Row) → length xs ≤ at → Leads whole wanted rest (placed_from at) → Leads whole wanted rest []
  placed_ends at rest whole wanted past leads =
      let none : placed_from at ≡ [] = ap (λ ys. placed row (first + at) (map f ys)) (drop_of_length-le xs past) in
      (λ is. leads.0 (is ∙ sym none), λ all. leads.1 all ∙ none)

-- the same rows before two lists that are equal
cancel : {Y : Type 0} (o : Option Y) (f : Y → Row) (xs ys : List Row) → map f (option_to_list o) ++ xs ≡ map f (option_to_list o) ++ ys → xs ≡ ys
cancel None f xs ys is = is
cancel (Some y) f xs ys is = ap (drop 1) is

module _ {X Y : Type 0} (cell : X → Option Y) (row : ℕ → Y → Row) (first : ℕ) (xs : List X) where
  -- the rows from a place on, of those that have one
  abbrev pub some_from : ℕ → List Row
  some_from at = placed_some cell row (first + at) (drop at xs)

  some_more : (at : ℕ) (d : X) → at < length xs → some_from at ≡ map (row (first + at)) (option_to_list (cell (get_or xs at d))) ++ some_from (at + 1)
  some_more at d less =
      let on : first + at + 1 ≡ first + (at + 1) = omega arith in
      ap (placed_some cell row (first + at)) (drop_more xs at d less)
      ∙ ap (λ n. map (row (first + at)) (option_to_list (cell (get_or xs at d))) ++ placed_some cell row n (drop (at + 1) xs)) on

  pub some_step : (at : ℕ) (d : X) (old new whole wanted : List Row) → at < length xs → Leads whole wanted old (some_from at) → old ≡ map (row (first + at)) (option_to_list (cell (get_or xs at d))) ++ new → Leads whole wanted new (some_from (at + 1))
  some_step at d old new whole wanted less leads passed = (
    λ left. leads.0 (passed ∙ ap (λ vs. map (row (first + at)) (option_to_list (cell (get_or xs at d))) ++ vs) left ∙ sym (some_more at d less)),
    λ all. cancel (cell (get_or xs at d)) (row (first + at)) new (some_from (at + 1)) (sym passed ∙ leads.1 all ∙ some_more at d less),
  )

  pub some_fails : (at : ℕ) (d : X) (old whole wanted here : List Row) → at < length xs → Leads whole wanted old (some_from at) → ((rest : List Row) → ¬ (old ≡ here ++ rest)) → here ≡ map (row (first + at)) (option_to_list (cell (get_or xs at d))) → ¬ (whole ≡ wanted)
  some_fails at d old whole wanted here less leads other is = λ all. other (some_from (at + 1)) (leads.1 all ∙ some_more at d less ∙ ap (λ vs. vs ++ some_from (at + 1)) (sym is))

  pub some_ends : (at : ℕ) (rest whole wanted : List Row) → length xs ≤ at → Leads whole wanted rest (some_from at) → Leads whole wanted rest []
  some_ends at rest whole wanted past leads =
      let none : some_from at ≡ [] = ap (placed_some cell row (first + at)) (drop_of_length-le xs past) in
      (λ is. leads.0 (is ∙ sym none), λ all. leads.1 all ∙ none)

-- ---- the pages of a storage

pub pages_long : (s : Storage) (first count : ℕ) → length (pages_from s first count) ≡ count
pages_long s first zero = refl
pages_long s first (suc count) = ap suc (pages_long s (first + 1) count)

pub page_there : (s : Storage) (first count k : ℕ) (d : List ℕ) → k < count → get_or (pages_from s first count) k d ≡ page_bytes s (first + k)
page_there s first zero k d less = absurd (omega (arith, less))
page_there s first (suc count) zero d less = let same : first ≡ first + 0 = omega arith in ap (page_bytes s) same
page_there s first (suc count) (suc k) d less =
    let same : first + 1 + k ≡ first + suc k = omega arith in
    page_there s (first + 1) count k d (omega (arith, less)) ∙ ap (page_bytes s) same

abbrev pub page_cell : List ℕ → Option (List ℕ)
page_cell bytes = unless_blank (Some bytes)

module _ (s : Storage) (count page : ℕ) (row : ℕ → List ℕ → Row) (bytes : List ℕ) (old whole wanted : List Row) (less : page < count) (leads : Leads whole wanted old (some_from page_cell row 0 (pages_from s 0 count) page)) (is : bytes ≡ page_bytes s page) where
  within : page < length (pages_from s 0 count)
  within = subst (λ n. page < n) (sym (pages_long s 0 count)) less

  -- the row of the page, if it has one
  same : map (row page) (option_to_list (page_cell bytes)) ≡ map (row (0 + page)) (option_to_list (page_cell (get_or (pages_from s 0 count) page [])))
  same =
      let zeroth : page ≡ 0 + page = omega arith in
      let there : bytes ≡ get_or (pages_from s 0 count) page [] = is ∙ ap (page_bytes s) zeroth ∙ sym (page_there s 0 count page [] less) in
      ap (λ n. map (row n) (option_to_list (page_cell bytes))) zeroth ∙ ap (λ b. map (row (0 + page)) (option_to_list (page_cell b))) there

  pub page_step : (new : List Row) → old ≡ map (row page) (option_to_list (page_cell bytes)) ++ new → Leads whole wanted new (some_from page_cell row 0 (pages_from s 0 count) (page + 1))
  page_step new passed = some_step page_cell row 0 (pages_from s 0 count) page [] old new whole wanted within leads (passed ∙ ap (λ vs. vs ++ new) same)

  pub page_fails : ((rest : List Row) → ¬ (old ≡ map (row page) (option_to_list (page_cell bytes)) ++ rest)) → ¬ (whole ≡ wanted)
  page_fails other = some_fails page_cell row 0 (pages_from s 0 count) page [] old whole wanted _ within leads other same

pub page_ends : (s : Storage) (count page : ℕ) (row : ℕ → List ℕ → Row) (rest whole wanted : List Row) → count ≤ page → Leads whole wanted rest (some_from page_cell row 0 (pages_from s 0 count) page) → Leads whole wanted rest []
page_ends s count page row rest whole wanted past leads = some_ends page_cell row 0 (pages_from s 0 count) page rest whole wanted (subst (λ n. n ≤ page) (sym (pages_long s 0 count)) past) leads
