-- What the statement does that takes the rows of all blank pages away.
use Rattle.std.proofs.Common.{◌≡◌, inl, inr, ℕ, ℤ, List, [], ◌∷◌, map, drop, filter, codes, cond, Bool, true, false, not, ◌&&◌, bytes_eq, if◌then◌else◌, Option, Some, None, IsTrue, Ok, Less, Greater, refl, sym, ap, subst, ◌∙◌, true≢false}
use Rattle.std.specs.List.{AllByRecursion}
use Rattle.std.specs.List.Sorted.{IsPermutation}
use Rattle.std.specs.Option.{option_to_list}
use Rattle.std.specs.Ordering.{is_eq}
use Rattle.std.proofs.lemmas.Bool.{cases_Bool}
use Rattle.std.proofs.lemmas.Cmp.{tied_itself}
use Rattle.std.proofs.lemmas.List.Elements.{recursion_from_All}
use Rattle.std.proofs.lemmas.List.Sorted.{All-permutation, IsPermutation-map, IsPermutation-sym}
use Rattle.std.proofs.lemmas.Map.Text.{is_eq-slice_cmp}
use Rattle.sqlite.specs.declared.types.Value.TheVariants.{Int, Blob}
use Rattle.sqlite.specs.Collation.TheVariants.{Binary}
use Rattle.sqlite.specs.Command.TheVariants.{Delete}
use Rattle.sqlite.specs.Edit.{id_in}
use Rattle.sqlite.specs.Listing.{understood}
use Rattle.sqlite.specs.Ops.{binary, is_true, from_truth}
use Rattle.sqlite.specs.Order.{Row, value_cmp}
use Rattle.sqlite.specs.State.{State, ExecutesInside}
use Rattle.sqlite.specs.Term.{Term, col, op2}
use Rattle.sqlite.specs.Tree.{rowid, without_rowid}
use Rattle.sqlite.specs.View.{IsShaped, is_int}
use Rattle.sqlite_rules.specs.Calls.{ids_of}
use Rattle.sqlite_rules.specs.Edit.{without_all}
use Rattle.sqlite_rules.proofs.TableLemmas.{int_is}
use Rattle.sqlite_sql.specs.declared.ops.BinaryOp.TheVariants.{Compare}
use Rattle.sqlite_sql.specs.declared.ops.CompareOp.TheVariants.{Eq}
use Rattle.sqlite_tied.specs.Compute.{everything}
use Rattle.sqlite_trees.specs.Tree.{has_rowid}
use Rattle.sqlite_trees.specs.declared.store.Shape.TheVariants.{Table as Rising}
use Rattle.sqlite_trees.proofs.TreeLemmas.{IsShaped-filter}
use Rattle.sqlite_trees.proofs.ListLemmas.{all-filter}
use Rattle.sqlite_value.proofs.OrderLemmas.{value_cmp_total, value_cmp-Blob}
use Rattle.ledger_tables.specs.Cells.{blank_bytes, unless_blank}
use Rattle.ledger_tables.specs.Raising.{without_blank_pages}
use Rattle.ledger_tables.specs.Schema.{paged_schema, pages}
use Rattle.ledger_tables.specs.Tables.{Tables, HoldsAs, IsOne, cells, is_row_at, page_row, paged}
use Rattle.ledger_tables.proofs.InsertStatement.{Means}
use Rattle.ledger_tables.proofs.LookupKeys.{and_true}
use Rattle.ledger_tables.proofs.LookupStatement.{passes, show, plain_query, plain_answer}
use Rattle.ledger_tables.proofs.PageLookups.{all_at}
use Rattle.ledger_tables.proofs.PageTables.{deletes, left, all_left, pages_alone, same_filter}
use Rattle.ledger_tables.proofs.UpdateStatements.{idle_beside, on_cells}

abbrev pub clear_blanks : List ℕ
clear_blanks = codes "DELETE FROM pages WHERE storage = ?1"

-- the row's storage is the parameter
abbrev is_stored : List Term
is_stored = op2 (Compare Eq Binary) (col 1 4) (col 0 0) ∷ []

clear_blanks_is : Means paged_schema clear_blanks (Delete 6 (record { lets = []; body = plain_query 13 is_stored (col 1 0 ∷ []) }))
unfolding understood everything
clear_blanks_is = (refl, (refl, refl))

abbrev blank_params : Row
blank_params = Blob blank_bytes ∷ []

-- whether a row passes, by its columns
abbrev is_blank : Row → Bool
is_blank = on_cells is_stored blank_params

blind_storage : (r : Row) → passes is_stored blank_params r ≡ is_blank (drop 1 r)
blind_storage [] = refl
blind_storage (x ∷ r) = refl

truth_is : (b : Bool) → is_true (from_truth (Some b)) ≡ b
truth_is true = refl
truth_is false = refl

bytes_test : (a b : List ℕ) → is_true (from_truth (Some (is_eq (value_cmp (Blob a) (Blob b))))) ≡ bytes_eq a b
bytes_test a b = truth_is (is_eq (value_cmp (Blob a) (Blob b))) ∙ ap is_eq (value_cmp-Blob a b) ∙ is_eq-slice_cmp a b

page_is_blank : (c : List ℕ) (n k : ℕ) (storage : List ℕ) → is_blank (page_row c n k storage) ≡ bytes_eq storage blank_bytes
unfolding binary
page_is_blank c n k storage = rw (bytes_test storage blank_bytes, and_true (bytes_eq storage blank_bytes))

-- ---- rows without those of many rowids

-- whether none of these rowids is the row's
abbrev lacks : List ℤ → Row → Bool
lacks [] r = true
lacks (id ∷ ids) r = not (has_rowid id r) && lacks ids r

filter_twice : {X : Type 0} (p q : X → Bool) (xs : List X) → filter q (filter p xs) ≡ filter (λ x. p x && q x) xs
filter_twice p q [] = refl
filter_twice p q (x ∷ xs) = go (p x) refl (filter_twice p q xs)
  where
    go : (b : Bool) → p x ≡ b → filter q (filter p xs) ≡ filter (λ y. p y && q y) xs → filter q (filter p (x ∷ xs)) ≡ filter (λ y. p y && q y) (x ∷ xs)
    go true this rest = rw this (ap (λ ys. cond (q x) (x ∷ ys) ys) rest)
    go false this rest = rw this rest

all_kept : {X : Type 0} (xs : List X) → filter (λ x. true) xs ≡ xs
all_kept [] = refl
all_kept (x ∷ xs) = ap (λ ys. x ∷ ys) (all_kept xs)

without_all_is : (ids : List ℤ) (rows : List Row) → without_all rows ids ≡ filter (lacks ids) rows
without_all_is [] rows = sym (all_kept rows)
without_all_is (id ∷ ids) rows = without_all_is ids (without_rowid id rows) ∙ filter_twice (λ r. not (has_rowid id r)) (lacks ids) rows

abbrev id_of : Row → ℤ
id_of r = id_in (rowid r)

-- a row's own rowid
own_id : (r : Row) → IsTrue (is_int (rowid r)) → rowid r ≡ Int (id_of r)
own_id r int = int_is (rowid r) int

has_own : (r : Row) → IsTrue (is_int (rowid r)) → has_rowid (id_of r) r ≡ true
has_own r int = ap (λ v. is_eq (value_cmp (rowid r) v)) (sym (own_id r int)) ∙ ap is_eq (tied_itself value_cmp_total (rowid r))

before_other : (a b : Row) → IsTrue (is_int (rowid b)) → value_cmp (rowid a) (rowid b) ≡ Less → has_rowid (id_of b) a ≡ false
before_other a b int less = ap (λ v. is_eq (value_cmp (rowid a) v)) (sym (own_id b int)) ∙ ap is_eq less

after_other : (a b : Row) → IsTrue (is_int (rowid a)) → value_cmp (rowid a) (rowid b) ≡ Less → has_rowid (id_of a) b ≡ false
after_other a b int less =
    let greater : value_cmp (rowid b) (rowid a) ≡ Greater = value_cmp_total.antisymm (rowid b) (rowid a) ∙ rw less in
    ap (λ v. is_eq (value_cmp (rowid b) v)) (sym (own_id a int)) ∙ ap is_eq greater

module _ (p : Row → Bool) where
  -- a row before others lacks their rowids
  lacks_later : (a : Row) (rows : List Row) → AllByRecursion (λ b. value_cmp (rowid a) (rowid b) ≡ Less) rows → AllByRecursion (λ b. IsTrue (is_int (rowid b))) rows → lacks (map id_of rows) a ≡ true
  lacks_later a [] less ints = refl
  lacks_later a (b ∷ rows) less ints = let here = before_other a b ints.0 less.0 in rw here (lacks_later a rows less.1 ints.1)

  -- a row lacks the rowids of those that pass just if it does not pass itself
  lacks_those : (rows : List Row) → IsShaped Rising rows → AllByRecursion (λ r. lacks (map id_of (filter p rows)) r ≡ not (p r)) rows
  lacks_those [] shaped = tt
  lacks_those (r ∷ rows) shaped = go (p r) refl (lacks_those rows (shaped.0.1, shaped.1.1))
    where
      others : (xs : List Row) → AllByRecursion (λ x. value_cmp (rowid r) (rowid x) ≡ Less) xs → AllByRecursion (λ x. lacks (map id_of (filter p rows)) x ≡ not (p x)) xs
          → AllByRecursion (λ x. lacks (id_of r ∷ map id_of (filter p rows)) x ≡ not (p x)) xs
      others [] less all = tt
      others (x ∷ xs) less all = (let apart_from = after_other r x shaped.1.0 less.0 in rw apart_from all.0, others xs less.1 all.1)

      go : (b : Bool) → p r ≡ b → AllByRecursion (λ x. lacks (map id_of (filter p rows)) x ≡ not (p x)) rows → AllByRecursion (λ x. lacks (map id_of (filter p (r ∷ rows))) x ≡ not (p x)) (r ∷ rows)
      go true this rest =
          let kept : filter p (r ∷ rows) ≡ r ∷ filter p rows = rw this refl in
          let own = has_own r shaped.1.0 in
          let first : lacks (map id_of (r ∷ filter p rows)) r ≡ not (p r) = rw (own, this) refl in
          subst (λ fs. AllByRecursion (λ x. lacks (map id_of fs) x ≡ not (p x)) (r ∷ rows)) (sym kept) (first, others rows shaped.0.0 rest)
      go false this rest =
          let kept : filter p (r ∷ rows) ≡ filter p rows = rw this refl in
          let less = all-filter (λ x. value_cmp (rowid r) (rowid x) ≡ Less) p rows shaped.0.0 in
          let ints = all-filter (λ x. IsTrue (is_int (rowid x))) p rows shaped.1.1 in
          let first : lacks (map id_of (filter p rows)) r ≡ not (p r) = rw this (lacks_later r (filter p rows) less ints) in
          subst (λ fs. AllByRecursion (λ x. lacks (map id_of fs) x ≡ not (p x)) (r ∷ rows)) (sym kept) (first, rest)

-- the order of rowids does not matter
lacks_all : (ids : List ℤ) (r : Row) → lacks ids r ≡ true → AllByRecursion (λ id. has_rowid id r ≡ false) ids
lacks_all [] r h = tt
lacks_all (id ∷ ids) r h = elim (cases_Bool (has_rowid id r)) [
  | inl has ↦ absurd (let no = rw has at h in cc)
  | inr none ↦ (none, lacks_all ids r (rw none at h))
]

all_lack : (ids : List ℤ) (r : Row) → AllByRecursion (λ id. has_rowid id r ≡ false) ids → lacks ids r ≡ true
all_lack [] r all = refl
all_lack (id ∷ ids) r all = rw all.0 (all_lack ids r all.1)

moved_lack : (ids others : List ℤ) (r : Row) → IsPermutation ids others → lacks ids r ≡ true → lacks others r ≡ true
moved_lack ids others r same h =
    all_lack others r (recursion_from_All (λ id. has_rowid id r ≡ false) others (All-permutation (λ id. has_rowid id r ≡ false) ids others same (all_at (λ id. has_rowid id r ≡ false) ids (lacks_all ids r h))))

same_lack : (ids others : List ℤ) (r : Row) → IsPermutation ids others → lacks ids r ≡ lacks others r
same_lack ids others r same = go (lacks ids r) refl (lacks others r) refl
  where
    go : (a : Bool) → lacks ids r ≡ a → (b : Bool) → lacks others r ≡ b → lacks ids r ≡ lacks others r
    go true this true that = this ∙ sym that
    go true this false that = absurd (true≢false (sym (moved_lack ids others r same this) ∙ that))
    go false this true that = absurd (true≢false (sym (moved_lack others ids r (IsPermutation-sym ids others same) that) ∙ this))
    go false this false that = this ∙ sym that

each_moved : (ids others : List ℤ) (p : Row → Bool) (rows : List Row) → IsPermutation ids others → AllByRecursion (λ r. lacks ids r ≡ not (p r)) rows → AllByRecursion (λ r. lacks others r ≡ not (p r)) rows
each_moved ids others p [] same all = tt
each_moved ids others p (r ∷ rows) same all = (sym (same_lack ids others r same) ∙ all.0, each_moved ids others p rows same all.1)

-- ---- the rows of pages

shown_ids : (rows : List Row) → map (λ (r : Row). id_in (rowid r)) (map (show (col 1 0 ∷ []) blank_params) rows) ≡ map id_of rows
shown_ids [] = refl
shown_ids (r ∷ rows) = ap (λ ids. id_of r ∷ ids) (shown_ids rows)

left_cells : (rows : List Row) → cells (filter (λ r. not (passes is_stored blank_params r)) rows) ≡ left is_blank (cells rows)
left_cells [] = refl
left_cells (r ∷ rows) = go (is_blank (drop 1 r)) refl (left_cells rows)
  where
    go : (b : Bool) → is_blank (drop 1 r) ≡ b → cells (filter (λ x. not (passes is_stored blank_params x)) rows) ≡ left is_blank (cells rows)
        → cells (filter (λ x. not (passes is_stored blank_params x)) (r ∷ rows)) ≡ left is_blank (cells (r ∷ rows))
    go true this rest = rw (blind_storage r, this) rest
    go false this rest = rw (blind_storage r, this) (ap (λ xs. drop 1 r ∷ xs) rest)

-- two tests in either order
tests_turned : {X : Type 0} (p q : X → Bool) (xs : List X) → filter p (filter q xs) ≡ filter q (filter p xs)
tests_turned p q [] = refl
tests_turned p q (x ∷ xs) = go (p x) refl (q x) refl (tests_turned p q xs)
  where
    go : (b : Bool) → p x ≡ b → (d : Bool) → q x ≡ d → filter p (filter q xs) ≡ filter q (filter p xs) → filter p (filter q (x ∷ xs)) ≡ filter q (filter p (x ∷ xs))
    go true this true that rest = rw (this, that, this) (ap (λ ys. x ∷ ys) rest)
    go true this false that rest = rw (this, that) rest
    go false this true that rest = rw (this, that, this) rest
    go false this false that rest = rw (this, that) rest

rows_unless_blank : (c : List ℕ) (n k : ℕ) (o : Option (List ℕ)) → left is_blank (map (page_row c n k) (option_to_list o)) ≡ map (page_row c n k) (option_to_list (unless_blank o))
rows_unless_blank c n k None = refl
rows_unless_blank c n k (Some storage) = go (bytes_eq storage blank_bytes) refl
  where
    go : (b : Bool) → bytes_eq storage blank_bytes ≡ b → left is_blank (page_row c n k storage ∷ []) ≡ map (page_row c n k) (option_to_list (if bytes_eq storage blank_bytes then None else Some storage))
    go true this = rw (page_is_blank c n k storage, this) refl
    go false this = rw (page_is_blank c n k storage, this) refl

pub blanks_cleared : (old new : State) (count : ℕ) → ExecutesInside 0 clear_blanks (Blob blank_bytes ∷ []) old new (Ok count) → (t : Tables) (version : ℕ) → (IsTrue old.is_open → HoldsAs paged version old.now t)
    → HoldsAs paged version new.now (without_blank_pages t)
blanks_cleared old new count h t version has =
    let holds = has h.1.was_open in
    let did = deletes paged_schema clear_blanks 6 (record pages { tree = 13 }) is_stored (col 1 0 ∷ []) clear_blanks_is refl (idle_beside paged 13) old new blank_params count holds.schema h.0 in
    let db = old.now.trees in
    let some = plain_answer 13 is_stored (col 1 0 ∷ []) blank_params db did.0 refl did.1.answer in
    let test : Row → Bool = passes is_stored blank_params in
    let ids : IsPermutation (map id_of (filter test (db 13))) (ids_of did.0) = subst (λ xs. IsPermutation xs (ids_of did.0)) (shown_ids (filter test (db 13))) (IsPermutation-map (λ (r : Row). id_in (rowid r)) _ did.0 some) in
    let gone : new.now.trees 13 ≡ filter (λ r. not (test r)) (db 13) =
    did.3 ∙ without_all_is (ids_of did.0) (db 13) ∙ same_filter (lacks (ids_of did.0)) (λ r. not (test r)) (db 13) (each_moved _ (ids_of did.0) test (db 13) ids (lacks_those test (db 13) holds.pages.rise)) in
    let now : cells (new.now.trees 13) ≡ left is_blank (cells (db 13)) = ap cells gone ∙ left_cells (db 13) in
    pages_alone paged version old.now new.now t _ holds did.2 did.5 did.4
    (record {
      each = λ c n k. ap (filter (is_row_at c n k)) now ∙ tests_turned (is_row_at c n k) (λ row. not (is_blank row)) (cells (db 13)) ∙ ap (left is_blank) (holds.pages.each c n k) ∙ rows_unless_blank c n k (t.pages c n k);
      named = subst (AllByRecursion (IsOne page_row)) (sym now) (all_left (IsOne page_row) (λ row. not (is_blank row)) (cells (db 13)) holds.pages.named);
      rise = subst (IsShaped Rising) (sym gone) (IsShaped-filter Rising _ (db 13) holds.pages.rise);
    })
