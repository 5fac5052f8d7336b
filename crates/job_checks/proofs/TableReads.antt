-- The rows of whole tables, as they are read.
use Rattle.std.proofs.Common.{◌≡◌, ℕ, List, [], ◌∷◌, map, drop, length, true, ◌&&◌, None, Some, refl, ap, subst, ◌∙◌}
use Rattle.std.specs.List.{AllByRecursion, list_all}
use Rattle.std.specs.List.Sorted.{IsPermutation}
use Rattle.std.proofs.lemmas.Bool.{and_parts}
use Rattle.sqlite.specs.Effect.{Database}
use Rattle.sqlite.specs.Order.{Row}
use Rattle.sqlite.specs.Program.{overlay}
use Rattle.sqlite.specs.Schema.{Schema}
use Rattle.sqlite.specs.State.{State, IsUnchanged, Shown}
use Rattle.sqlite.specs.Term.{col}
use Rattle.sqlite.specs.Tree.{Trees}
use Rattle.sqlite.specs.View.{IsShaped}
use Rattle.sqlite_schema.specs.Rules.{are_present, are_typed, passes}
use Rattle.sqlite_schema.specs.declared.schema.Column.{Column}
use Rattle.sqlite_schema.specs.declared.schema.Constraint.TheVariants.{Datatype, NotNull}
use Rattle.sqlite_schema.specs.declared.schema.Table.{Table as Listed}
use Rattle.sqlite_trees.specs.declared.store.Shape.TheVariants.{Table}
use Rattle.ledger_tables.specs.Schema.{bureau_schema}
use Rattle.ledger_tables.specs.Schema as schema
use Rattle.ledger_tables.specs.Tables.{cells}
use Rattle.ledger_tables.proofs.LookupAnswers.{looks}
use Rattle.ledger_tables.proofs.LookupKeys.{columns, shown_cells}
use Rattle.ledger_tables.proofs.LookupStatement.{plain_answer, ordered_query, show}
use Rattle.ledger_tables.proofs.ReadTexts.{Selects}
use Rattle.job_checks.specs.Tables.{IsBureaus, version_columns}
use Rattle.job_checks.proofs.TableAnswers.{all_pass, whole_in_order}
use Rattle.job_checks.proofs.TableTexts.{version_terms, select_version, select_version_is}
use Rattle.job_checks.proofs.WidthLemmas.{AreRequired, in_full, upto}

-- the rows of each table obey the rules of types and of NOT NULL
pub record AreObeyed (db : Database) (tree : ℕ) (cs : List Column) : Type 0 where
  pub typed : AllByRecursion (λ row. are_typed None 0 cs (drop 1 row) ≡ true) (db.trees tree)
  pub present : AllByRecursion (λ row. are_present None 0 cs row ≡ true) (db.trees tree)

all_typed : (cs : List Column) (rows : List Row) → AllByRecursion (λ row. (are_typed None 0 cs (drop 1 row) && true) ≡ true) rows → AllByRecursion (λ row. are_typed None 0 cs (drop 1 row) ≡ true) rows
all_typed cs [] all = tt
all_typed cs (r ∷ rows) all = ((and_parts _ _ all.0).0, all_typed cs rows all.1)

module _ (tree : ℕ) (cs : List Column) (required : AreRequired cs) (sql : List ℕ) (names : List (List ℕ)) where
  full_rows : (db : Database) → AreObeyed db tree cs → map (show (columns (upto 0 (length cs))) []) (db.trees tree) ≡ cells (db.trees tree)
  full_rows db obeyed = shown_cells (upto 0 (length cs)) [] (db.trees tree) ∙ in_full cs (db.trees tree) required obeyed.typed obeyed.present

  pub read_in_order : Selects sql (ordered_query tree [] (columns (upto 0 (length cs))) (col 1 0)) names → ((db : Trees) → overlay db [] tree ≡ db tree)
      → (old new : State) (rows : List Row) → Shown sql [] old new rows → old.now.schema ≡ bureau_schema → IsUnchanged old new × (IsShaped Table (old.now.trees tree) → AreObeyed old.now tree cs → rows ≡ cells (old.now.trees tree))
  read_in_order is below old new rows shown ours =
      let did = looks sql _ names is old new [] rows ours shown in
      (did.0, λ shaped obeyed. whole_in_order tree (columns (upto 0 (length cs))) old.now.trees rows (below old.now.trees) shaped did.1 ∙ full_rows old.now obeyed)

-- ---- each table

abbrev pub all_rules : Database → (Listed → List Row → Type 0) → Type 0
all_rules db P = AllByRecursion (λ (t : Listed). P t (db.trees t.tree)) bureau_schema.tables

typed_rows : (db : Database) → IsBureaus db → AllByRecursion (λ (t : Listed). AllByRecursion (λ row. passes Datatype bureau_schema db.trees t row ≡ true) (db.trees t.tree)) bureau_schema.tables
typed_rows db bureaus = subst (λ (s : Schema). AllByRecursion (λ (t : Listed). AllByRecursion (λ row. passes Datatype s db.trees t row ≡ true) (db.trees t.tree)) s.tables) bureaus.schema (bureaus.sound.obeys.rules Datatype)

present_rows : (db : Database) → IsBureaus db → AllByRecursion (λ (t : Listed). AllByRecursion (λ row. passes NotNull bureau_schema db.trees t row ≡ true) (db.trees t.tree)) bureau_schema.tables
present_rows db bureaus = subst (λ (s : Schema). AllByRecursion (λ (t : Listed). AllByRecursion (λ row. passes NotNull s db.trees t row ≡ true) (db.trees t.tree)) s.tables) bureaus.schema (bureaus.sound.obeys.rules NotNull)

pub jobs_obeyed : (db : Database) → IsBureaus db → AreObeyed db 1 schema.jobs.columns
jobs_obeyed db bureaus = record { typed = all_typed schema.jobs.columns _ (typed_rows db bureaus).1.0; present = (present_rows db bureaus).1.0 }

pub stretches_obeyed : (db : Database) → IsBureaus db → AreObeyed db 3 schema.stretches.columns
stretches_obeyed db bureaus = record { typed = all_typed schema.stretches.columns _ (typed_rows db bureaus).1.1.0; present = (present_rows db bureaus).1.1.0 }

pub cards_obeyed : (db : Database) → IsBureaus db → AreObeyed db 7 schema.cards.columns
cards_obeyed db bureaus = record { typed = all_typed schema.cards.columns _ (typed_rows db bureaus).1.1.1.0; present = (present_rows db bureaus).1.1.1.0 }

pub lines_obeyed : (db : Database) → IsBureaus db → AreObeyed db 9 schema.lines.columns
lines_obeyed db bureaus = record { typed = all_typed schema.lines.columns _ (typed_rows db bureaus).1.1.1.1.0; present = (present_rows db bureaus).1.1.1.1.0 }

pub states_obeyed : (db : Database) → IsBureaus db → AreObeyed db 11 schema.states.columns
states_obeyed db bureaus = record { typed = all_typed schema.states.columns _ (typed_rows db bureaus).1.1.1.1.1.0; present = (present_rows db bureaus).1.1.1.1.1.0 }

pub pages_obeyed : (db : Database) → IsBureaus db → AreObeyed db 13 schema.pages.columns
pages_obeyed db bureaus = record { typed = all_typed schema.pages.columns _ (typed_rows db bureaus).1.1.1.1.1.1.0; present = (present_rows db bureaus).1.1.1.1.1.1.0 }

pub profiles_obeyed : (db : Database) → IsBureaus db → AreObeyed db 15 schema.profiles.columns
profiles_obeyed db bureaus = record { typed = all_typed schema.profiles.columns _ (typed_rows db bureaus).1.1.1.1.1.1.1.0; present = (present_rows db bureaus).1.1.1.1.1.1.1.0 }

pub pockets_obeyed : (db : Database) → IsBureaus db → AreObeyed db 17 schema.pockets.columns
pockets_obeyed db bureaus = record { typed = all_typed schema.pockets.columns _ (typed_rows db bureaus).1.1.1.1.1.1.1.1.0; present = (present_rows db bureaus).1.1.1.1.1.1.1.1.0 }

required_by : (cs : List Column) → list_all (λ c. c.not_null) cs ≡ true → AreRequired cs
required_by [] all = tt
required_by (c ∷ cs) all = let both = and_parts c.not_null (list_all (λ c. c.not_null) cs) all in (both.0, required_by cs both.1)

-- each column of each table always has a value
pub jobs_required : AreRequired schema.jobs.columns
jobs_required = required_by schema.jobs.columns refl

pub stretches_required : AreRequired schema.stretches.columns
stretches_required = required_by schema.stretches.columns refl

pub cards_required : AreRequired schema.cards.columns
cards_required = required_by schema.cards.columns refl

pub lines_required : AreRequired schema.lines.columns
lines_required = required_by schema.lines.columns refl

pub states_required : AreRequired schema.states.columns
states_required = required_by schema.states.columns refl

pub pages_required : AreRequired schema.pages.columns
pages_required = required_by schema.pages.columns refl

pub profiles_required : AreRequired schema.profiles.columns
profiles_required = required_by schema.profiles.columns refl

pub pockets_required : AreRequired schema.pockets.columns
pockets_required = required_by schema.pockets.columns refl

-- the row of the version
pub version_read : (old new : State) (rows : List Row) → Shown select_version [] old new rows → old.now.schema ≡ bureau_schema → IsUnchanged old new × IsPermutation (map version_columns (old.now.trees 0)) rows
version_read old new rows shown ours =
    let did = looks select_version _ _ select_version_is old new [] rows ours shown in
    (did.0, subst (λ xs. IsPermutation xs rows) (ap (map (show version_terms [])) (all_pass [] (old.now.trees 0))) (plain_answer 0 [] version_terms [] old.now.trees rows refl did.1))

bureau_typed_so : (rows : List Row) → AllByRecursion (λ row. (are_typed (Some 0) 0 schema.bureau.columns (drop 1 row) && true) ≡ true) rows → AllByRecursion (λ row. are_typed (Some 0) 0 schema.bureau.columns (drop 1 row) ≡ true) rows
bureau_typed_so [] all = tt
bureau_typed_so (r ∷ rows) all = ((and_parts _ _ all.0).0, bureau_typed_so rows all.1)

pub bureau_typed : (db : Database) → IsBureaus db → AllByRecursion (λ row. are_typed (Some 0) 0 schema.bureau.columns (drop 1 row) ≡ true) (db.trees 0)
bureau_typed db bureaus = bureau_typed_so (db.trees 0) (typed_rows db bureaus).0
