-- What a query for a whole table answers.
use Rattle.std.proofs.Common.{◌≡◌, ℕ, ℤ, suc, List, [], ◌∷◌, ◌++◌, true, cond, map, filter, flat_map, get_or, All, false, IsTrue, IsSorted, Ordering, Less, Greater, is_lt, refl, sym, ap, ap₂, subst, ◌∙◌, add-one, arith, true≢false}
use Rattle.std.specs.Cmp.{IsTotalOrder}
use Rattle.std.specs.List.{AllByRecursion}
use Rattle.std.specs.List.Sorted.{IsPermutation}
use Rattle.std.specs.Ordering.{ordering_reverse}
use Rattle.std.proofs.lemmas.List.Elements.{recursion_from_All, All-from_recursion}
use Rattle.std.proofs.lemmas.List.Sorted.{All-permutation, IsPermutation-map, ranks_by, sorted_far}
use Rattle.sqlite.specs.declared.types.Value.{Value}
use Rattle.sqlite.specs.declared.types.Value.TheVariants.{Null, Int, Real, Text, Blob}
use Rattle.sqlite.specs.Order.{Row, column, value_cmp}
use Rattle.sqlite.specs.Program.{overlay}
use Rattle.sqlite.specs.Query.{Query, Output, output, output_cmp, IsAnswer, IsSureAnswer}
use Rattle.sqlite.specs.Term.{Term, Env, col, eval}
use Rattle.sqlite.specs.Tree.{Trees, IsAscending}
use Rattle.sqlite.specs.View.{IsShaped}
use Rattle.sqlite_trees.specs.declared.store.Shape.TheVariants.{Table}
use Rattle.sqlite_trees.specs.Tree.{rowid}
use Rattle.sqlite_trees.specs.View.{is_int}
use Rattle.sqlite_sql.proofs.QueryLemmas.{output_cmp_total}
use Rattle.sqlite_value.proofs.OrderLemmas.{then-Equal}
use Rattle.sqlite_keyed.proofs.ListLemmas.{all-filter, all-map, ascending-filter, ascending-map}
use Rattle.ledger_tables.proofs.LookupStatement.{passes, show, ordered_query, ordered_answer, keyed_pair}
use Rattle.job_checks.specs.Tables.{RiseByPlace}

-- each row passes no tests
pub all_pass : (params : Row) (rows : List Row) → filter (passes [] params) rows ≡ rows
all_pass params [] = refl
all_pass params (r ∷ rows) = ap (λ xs. r ∷ xs) (all_pass params rows)

pub int_of : (v : Value) → IsTrue (is_int v) → (n : ℤ) × (v ≡ Int n)
int_of Null is = absurd (true≢false (sym is))
int_of (Int n) is = (n, refl)
int_of (Real x) is = absurd (true≢false (sym is))
int_of (Text t) is = absurd (true≢false (sym is))
int_of (Blob b) is = absurd (true≢false (sym is))

module _ {X : Type 0} (P : X → Type 0) (R S : X → X → Type 0) (so : (a b : X) → P a → P b → R a b → S a b) where
  all_so : (a : X) (xs : List X) → P a → AllByRecursion P xs → AllByRecursion (R a) xs → AllByRecursion (S a) xs
  all_so a [] here each above = tt
  all_so a (x ∷ xs) here each above = (so a x here each.0 above.0, all_so a xs here each.1 above.1)

  pub ascending_so : (xs : List X) → AllByRecursion P xs → IsAscending R xs → IsAscending S xs
  ascending_so [] each up = tt
  ascending_so (x ∷ xs) each up = (all_so x xs each.0 each.1 up.0, ascending_so xs each.1 up.1)

module _ (tree : ℕ) (tests shown : List Term) (params : Row) where
  abbrev by_rowid : Query
  by_rowid = ordered_query tree tests shown (col 1 0)

  abbrev pair : Row → Output
  pair = keyed_pair tree tests shown (col 1 0) params

  before : (a b : Row) → IsTrue (is_int (rowid a)) → IsTrue (is_int (rowid b)) → value_cmp (rowid a) (rowid b) ≡ Less → output_cmp by_rowid (pair a) (pair b) ≡ Less
  before a b here there less =
      let one = int_of (rowid a) here in
      let two = int_of (rowid b) there in
      let order : value_cmp (Int one.0) (Int two.0) ≡ Less = rw (one.1, two.1) at less in
      let first : eval (col 1 0) (params ∷ a ∷ []) ≡ Int one.0 = one.1 in
      let second : eval (col 1 0) (params ∷ b ∷ []) ≡ Int two.0 = two.1 in
      rw (first, second, order)

  abbrev kept : List Row → List Row
  kept = filter (passes tests params)

  rise : (rows : List Row) → IsShaped Table rows → IsAscending (λ a b. output_cmp by_rowid a b ≡ Less) (map pair (kept rows))
  rise rows shaped =
      ascending-map _ pair (kept rows) (ascending_so (λ r. IsTrue (is_int (rowid r))) (λ a b. value_cmp (rowid a) (rowid b) ≡ Less) _ before (kept rows)
      (all-filter _ (passes tests params) rows shaped.1) (ascending-filter _ (passes tests params) rows shaped.0))

  -- by their rowids the rows that pass come as they stand
  pub kept_in_order : (db : Trees) (rows : List Row) → overlay db [] tree ≡ db tree → IsShaped Table (db tree) → IsSureAnswer by_rowid (overlay db []) params rows → rows ≡ map (show shown params) (kept (db tree))
  kept_in_order db rows below shaped sure = ordered_answer tree tests shown (col 1 0) params db rows below sure (rise (db tree) shaped)

-- by their rowids all rows come as they stand
pub whole_in_order : (tree : ℕ) (shown : List Term) (db : Trees) (rows : List Row) → overlay db [] tree ≡ db tree → IsShaped Table (db tree) → IsSureAnswer (ordered_query tree [] shown (col 1 0)) (overlay db []) [] rows → rows ≡ map (show shown []) (db tree)
whole_in_order tree shown db rows below shaped sure = kept_in_order tree [] shown [] db rows below shaped sure ∙ ap (map (show shown [])) (all_pass [] (db tree))

-- ---- in the order of their places

-- no item of a sorted list is greater than a later one
module _ {X : Type 0} (cmp : X → X → Ordering) (total : IsTotalOrder cmp) where
  not_greater : (a b : X) → is_lt (cmp b a) ≡ false → ¬ (cmp a b ≡ Greater)
  not_greater a b low is = absurd (true≢false (sym (ap is_lt (total.antisymm b a ∙ ap ordering_reverse is)) ∙ low))

  rising : (xs : List X) → IsSorted cmp xs → IsAscending (λ a b. ¬ (cmp a b ≡ Greater)) xs
  rising [] sorted = tt
  rising (x ∷ xs) sorted =
      let order = ranks_by total (λ z. z) in
      let each : All (λ y. ¬ (cmp x y ≡ Greater)) xs = λ k d less. not_greater x (get_or xs k d) (sorted_far (λ a b. is_lt (cmp a b)) order (x ∷ xs) sorted 0 (suc k) d (omega arith) (omega (arith, less))) in
      (recursion_from_All (λ y. ¬ (cmp x y ≡ Greater)) xs each, rising xs (λ k d from within. rw add-one (rw add-one at (sorted (suc k) d (omega arith) (omega (arith, within))))))

module _ (tree : ℕ) (tests shown : List Term) (key : Term) (params : Row) (shows : (row : Row) → column (show shown params row) 2 ≡ eval key (params ∷ row ∷ [])) where
  abbrev by_key : Query
  by_key = ordered_query tree tests shown key

  abbrev kept_env : Row → List Env
  kept_env row = cond (passes tests params row) ((params ∷ row ∷ []) ∷ []) []

  abbrev key_pair : Row → Output
  key_pair row = (eval key (params ∷ row ∷ []) ∷ [], show shown params row)

  abbrev kept_rows : List Row → List Row
  kept_rows = filter (passes tests params)

  outputs : (rows : List Row) → map (output by_key) (flat_map kept_env rows) ≡ map key_pair (kept_rows rows)
  outputs [] = refl
  outputs (r ∷ rows) = elim (passes tests params r) as (λ b. map (output by_key) (cond b ((params ∷ r ∷ []) ∷ []) [] ++ flat_map kept_env rows) ≡ map key_pair (cond b (r ∷ kept_rows rows) (kept_rows rows)))
      [ true ↦ ap (λ xs. key_pair r ∷ xs) (outputs rows) | false ↦ outputs rows ]

  firsts : (rows : List Row) → map (λ (p : Output). p.1) (map key_pair rows) ≡ map (show shown params) rows
  firsts [] = refl
  firsts (r ∷ rows) = ap (λ xs. show shown params r ∷ xs) (firsts rows)

  -- an output is sorted by the third column of what it shows
  abbrev ShowsKey : Output → Type 0
  ShowsKey it = column it.1 2 ≡ column it.0 0

  by_place : (a b : Output) → ShowsKey a → ShowsKey b → ¬ (output_cmp by_key a b ≡ Greater) → ¬ (value_cmp (column a.1 2) (column b.1 2) ≡ Greater)
  by_place a b here there up is = up (then-Equal (value_cmp (column a.0 0) (column b.0 0)) ∙ ap₂ value_cmp (sym here) (sym there) ∙ is)

  shown_rise : (rows : List Row) (outs : List Output) → IsPermutation (map key_pair rows) outs → IsSorted (output_cmp by_key) outs → RiseByPlace (map (λ (p : Output). p.1) outs)
  shown_rise rows outs same sorted =
      let each : All ShowsKey (map key_pair rows) = All-from_recursion ShowsKey (map key_pair rows) (all-map ShowsKey key_pair shows rows) in
      let keyed : AllByRecursion ShowsKey outs = recursion_from_All ShowsKey outs (All-permutation ShowsKey (map key_pair rows) outs same each) in
      let up : IsAscending (λ a b. ¬ (output_cmp by_key a b ≡ Greater)) outs = rising (output_cmp by_key) (output_cmp_total by_key) outs sorted in
      ascending-map (λ (a b : Row). ¬ (value_cmp (column a 2) (column b 2) ≡ Greater)) (λ (p : Output). p.1) outs
      (ascending_so ShowsKey (λ a b. ¬ (output_cmp by_key a b ≡ Greater)) (λ a b. ¬ (value_cmp (column a.1 2) (column b.1 2) ≡ Greater)) by_place outs keyed up)

  pub kept_by_place : (db : Trees) (rows : List Row) → overlay db [] tree ≡ db tree → IsSureAnswer by_key (overlay db []) params rows → IsPermutation (map (show shown params) (kept_rows (db tree))) rows × RiseByPlace rows
  kept_by_place db rows below sure =
      let a : IsAnswer by_key (overlay db []) params rows = sure Null in
      let staged = a.grouped ∙ ap (flat_map kept_env) below in
      let kept = a.distinct ∙ ap (map (output by_key)) staged ∙ outputs (db tree) in
      let outs : IsPermutation (map key_pair (kept_rows (db tree))) a.ordered = subst (λ k. IsPermutation k a.ordered) kept a.same in
      let same = IsPermutation-map (λ (p : Output). p.1) _ _ outs in (
        subst (IsPermutation (map (show shown params) (kept_rows (db tree)))) (sym a.shown) (subst (λ xs. IsPermutation xs (map (λ (p : Output). p.1) a.ordered)) (firsts (kept_rows (db tree))) same),
        subst RiseByPlace (sym a.shown) (shown_rise (kept_rows (db tree)) a.ordered outs a.sorted),
      )
