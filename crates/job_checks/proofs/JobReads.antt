-- The rows of one job, as they are read.
use Rattle.std.proofs.Common.{◌≡◌, ℕ, ℤ, pos, negsuc, List, [], ◌∷◌, map, filter, drop, length, Bool, true, false, ◌&&◌, bytes_eq, Some, refl, ap, subst, ◌∙◌}
use Rattle.std.specs.List.{AllByRecursion}
use Rattle.std.specs.List.Sorted.{IsPermutation}
use Rattle.std.specs.Ordering.{is_eq}
use Rattle.sqlite.specs.declared.types.Value.{Value}
use Rattle.sqlite.specs.declared.types.Value.TheVariants.{Int, Text}
use Rattle.sqlite.specs.Effect.{Database}
use Rattle.sqlite.specs.Ops.{binary, is_true, from_truth}
use Rattle.sqlite.specs.Order.{Row, column, value_cmp}
use Rattle.sqlite.specs.Program.{overlay}
use Rattle.sqlite.specs.State.{State, IsUnchanged, Shown}
use Rattle.sqlite.specs.Term.{Term, col, eval}
use Rattle.sqlite.specs.Tree.{Trees}
use Rattle.sqlite.specs.View.{IsShaped}
use Rattle.sqlite_keyed.proofs.ListLemmas.{all-filter}
use Rattle.sqlite_schema.specs.declared.schema.Column.{Column}
use Rattle.sqlite_trees.specs.declared.store.Shape.TheVariants.{Table}
use Rattle.sqlite_value.proofs.OrderLemmas.{value_cmp-Int}
use Rattle.ledger_tables.specs.Schema.{bureau_schema}
use Rattle.ledger_tables.specs.Tables.{cells, is_row_of}
use Rattle.ledger_tables.proofs.LookupAnswers.{looks}
use Rattle.ledger_tables.proofs.LookupKeys.{columns, kept_cells, key_passes, shown_cells, text_test}
use Rattle.ledger_tables.proofs.LookupStatement.{ordered_query, passes, show}
use Rattle.ledger_tables.proofs.ReadTexts.{Selects, is_key}
use Rattle.job_checks.specs.Tables.{rows_of, RiseByPlace}
use Rattle.job_checks.proofs.KeyLemmas.{naming, naming_rows, IsNaming}
use Rattle.job_checks.proofs.TableAnswers.{kept_by_place, kept_in_order}
use Rattle.job_checks.proofs.TableReads.{AreObeyed}
use Rattle.job_checks.proofs.WidthLemmas.{in_full, upto, AreRequired}

-- the parameters of a query for a job
abbrev key_of : List ℕ → ℕ → Row
key_of customer number = Text customer ∷ Int (pos number) ∷ []

-- ---- the test of a key

not_equal : (b : Bool) → is_true (from_truth (Some b)) ≡ b
not_equal true = refl
not_equal false = refl

-- a number below 0 is no job's
below_0 : (k n : ℕ) → is_true (from_truth (Some (is_eq (value_cmp (Int (negsuc k)) (Int (pos n)))))) ≡ false
below_0 k n = not_equal (is_eq (value_cmp (Int (negsuc k)) (Int (pos n)))) ∙ ap is_eq (value_cmp-Int (negsuc k) (pos n))

no_number : (x : Value) (name : List ℕ) (k : ℕ) (rest : Row) (customer : List ℕ) (number : ℕ) → passes is_key (key_of customer number) (x ∷ Text name ∷ Int (negsuc k) ∷ rest) ≡ (bytes_eq name customer && false)
unfolding binary
no_number x name k rest customer number = rw (text_test name customer, below_0 k number)

any_number : (x : Value) (name : List ℕ) (m : ℤ) (rest : Row) (customer : List ℕ) (number : ℕ) → passes is_key (key_of customer number) (x ∷ Text name ∷ Int m ∷ rest) ≡ is_row_of customer number (Text name ∷ Int m ∷ rest)
any_number x name (pos n) rest customer number = key_passes x name n rest customer number []
any_number x name (negsuc k) rest customer number = no_number x name k rest customer number

naming_form : (r : Row) (h : IsNaming r) → (x : Value) × (rest : Row) × (r ≡ x ∷ Text h.customer ∷ Int h.number ∷ rest)
naming_form [] h = absurd (let e = h.text in cc)
naming_form (x ∷ []) h = absurd (let e = h.text in cc)
naming_form (x ∷ a ∷ []) h = absurd (let e = h.integer in cc)
naming_form (x ∷ a ∷ b ∷ rest) h = (x, rest, ap (λ v. x ∷ v ∷ b ∷ rest) h.text ∙ ap (λ v. x ∷ Text h.customer ∷ v ∷ rest) h.integer)

key_is_name : (customer : List ℕ) (number : ℕ) (r : Row) → IsNaming r → passes is_key (key_of customer number) r ≡ is_row_of customer number (drop 1 r)
key_is_name customer number r h = let it = naming_form r h in rw it.2 (any_number it.0 h.customer h.number it.1 customer number)

all_keys : (customer : List ℕ) (number : ℕ) (rows : List Row) → AllByRecursion IsNaming rows → AllByRecursion (λ r. passes is_key (key_of customer number) r ≡ is_row_of customer number (drop 1 r)) rows
all_keys customer number [] named = tt
all_keys customer number (r ∷ rows) named = (key_is_name customer number r named.0, all_keys customer number rows named.1)

-- ---- the rows of a key

module _ (tree : ℕ) (cs : List Column) (required : AreRequired (naming cs)) (customer : List ℕ) (number : ℕ) where
  abbrev params : Row
  params = key_of customer number

  abbrev shown : List Term
  shown = columns (upto 0 (length (naming cs)))

  abbrev kept : List Row → List Row
  kept = filter (passes is_key params)

  shown_whole : (db : Database) → AreObeyed db tree (naming cs) → map (show shown params) (kept (db.trees tree)) ≡ rows_of customer number (cells (db.trees tree))
  shown_whole db obeyed =
      shown_cells (upto 0 (length (naming cs))) params (kept (db.trees tree))
      ∙ in_full (naming cs) (kept (db.trees tree)) required (all-filter _ (passes is_key params) (db.trees tree) obeyed.typed) (all-filter _ (passes is_key params) (db.trees tree) obeyed.present)
      ∙ kept_cells (passes is_key params) (is_row_of customer number) (db.trees tree) (all_keys customer number (db.trees tree) (naming_rows cs (db.trees tree) obeyed.typed obeyed.present))

  module _ (sql : List ℕ) (names : List (List ℕ)) (below : (db : Trees) → overlay db [] tree ≡ db tree) (old new : State) (rows : List Row) (found : Shown sql params old new rows) (ours : old.now.schema ≡ bureau_schema) where
    pub read_key_in_order : Selects sql (ordered_query tree is_key shown (col 1 0)) names → IsUnchanged old new × (IsShaped Table (old.now.trees tree) → AreObeyed old.now tree (naming cs) → rows ≡ rows_of customer number (cells (old.now.trees tree)))
    read_key_in_order is =
        let did = looks sql _ names is old new params rows ours found in
        (did.0, λ shaped obeyed. kept_in_order tree is_key shown params old.now.trees rows (below old.now.trees) shaped did.1 ∙ shown_whole old.now obeyed)

    pub read_key_by_place : Selects sql (ordered_query tree is_key shown (col 1 3)) names → ((row : Row) → column (show shown params row) 2 ≡ eval (col 1 3) (params ∷ row ∷ []))
        → IsUnchanged old new × (AreObeyed old.now tree (naming cs) → IsPermutation (rows_of customer number (cells (old.now.trees tree))) rows × RiseByPlace rows)
    read_key_by_place is shows =
        let did = looks sql _ names is old new params rows ours found in (
          did.0,
          λ obeyed.
              let it = kept_by_place tree is_key shown (col 1 3) params shows old.now.trees rows (below old.now.trees) did.1 in
              (subst (λ xs. IsPermutation xs rows) (shown_whole old.now obeyed) it.0, it.1),
        )
