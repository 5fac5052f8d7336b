-- By the foreign keys of a bureau's schema each row of the other tables names a job.
use Rattle.std.proofs.Common.{◌≡◌, ℕ, List, [], ◌∷◌, drop, codes, true, false, not, ◌&&◌, None, Some, refl, sym, subst, ◌∙◌}
use Rattle.std.specs.List.{AllByRecursion, list_any}
use Rattle.std.specs.List.Sorted.{IsPermutation}
use Rattle.std.proofs.lemmas.Bool.{and_parts}
use Rattle.std.proofs.lemmas.List.Elements.{recursion_from_All, All-from_recursion}
use Rattle.std.proofs.lemmas.List.Sorted.{All-permutation}
use Rattle.sqlite.specs.Effect.{Database}
use Rattle.sqlite.specs.Order.{Row, column}
use Rattle.sqlite.specs.Schema.{Schema}
use Rattle.sqlite.specs.Tree.{Trees}
use Rattle.sqlite_value.specs.Keys.{plain, joined}
use Rattle.sqlite_sql.specs.Ops.{is_null}
use Rattle.sqlite.specs.Kind.TheVariants.{Integer}
use Rattle.sqlite_schema.specs.Names.{same_name}
use Rattle.sqlite_schema.specs.Rules.{agree, are_present, has_parent, parent_key, passes}
use Rattle.sqlite_schema.specs.declared.schema.Column.{Column}
use Rattle.sqlite_schema.specs.declared.schema.Constraint.TheVariants.{ForeignKey}
use Rattle.sqlite_schema.specs.declared.schema.Table.{Table as Listed}
use Rattle.ledger_tables.specs.Schema.{bureau_schema, required, to_card, to_job}
use Rattle.ledger_tables.specs.Schema as schema
use Rattle.ledger_tables.specs.Tables.{cells}
use Rattle.job_checks.specs.Kept.{AreOwned, IsOwned}
use Rattle.job_checks.specs.Tables.{HasRows, IsBureaus, WholeTables}
use Rattle.job_checks.proofs.AmongLemmas.{IsAmong, all_among}
use Rattle.job_checks.proofs.KeptLemmas.{contains}
use Rattle.job_checks.proofs.KeyLemmas.{agree_in_name, any_among, column_of_cells, naming, naming_rows, not_null, IsNaming, NameTheSame}
use Rattle.job_checks.proofs.TableReads as rules
use Rattle.job_checks.proofs.TableReads.{AreObeyed}

-- one of these rows names the same
abbrev HasOwner : List Row → Row → Type 0
HasOwner parents row = (parent : Row) × IsAmong parent parents × NameTheSame parent row

-- ---- where the references point

job_key : parent_key bureau_schema.tables to_job ≡ Some (1, 1 ∷ 2 ∷ [], plain)
unfolding joined same_name
job_key = refl

card_key : parent_key bureau_schema.tables to_card ≡ Some (7, 1 ∷ 2 ∷ 3 ∷ [], plain)
unfolding joined same_name
card_key = refl

-- a row whose parent is there has an owner
owner_of : (parents : List Row) → AllByRecursion IsNaming parents → (places : List ℕ) (row : Row) → IsNaming row
    → list_any (λ parent. agree plain (1 ∷ 2 ∷ places) parent (1 ∷ 2 ∷ places) row) parents ≡ true → HasOwner parents row
owner_of parents each places row named is =
    let it = any_among _ parents is in
    (it.0, it.1, agree_in_name places it.0 row (all_among IsNaming it.0 parents each it.1) named it.2)

module _ (db : Trees) (jobs : AllByRecursion IsNaming (db 1)) where
  -- the owner of a row that refers to a job
  job_of : (row : Row) → IsNaming row → has_parent bureau_schema.tables db row to_job ≡ true → HasOwner (db 1) row
  job_of row named is =
      let held : list_any (λ parent. agree plain (1 ∷ 2 ∷ []) parent (1 ∷ 2 ∷ []) row) (db 1) ≡ true = rw (named.text, named.integer, job_key) at is in
      owner_of (db 1) jobs [] row named held

  owned : (row : Row) → HasOwner (db 1) row → IsOwned (cells (db 1)) (drop 1 row)
  owned row owner = (
    drop 1 owner.0,
    contains (drop 1) (db 1) owner.0 owner.1,
    column_of_cells owner.0 0 ∙ owner.2.0 ∙ sym (column_of_cells row 0),
    column_of_cells owner.0 1 ∙ owner.2.1 ∙ sym (column_of_cells row 1),
  )

  all_owned : (rows : List Row) → AllByRecursion (HasOwner (db 1)) rows → AllByRecursion (IsOwned (cells (db 1))) (cells rows)
  all_owned [] each = tt
  all_owned (r ∷ rows) each = (owned r each.0, all_owned rows each.1)

  jobs_of : (rows : List Row) → AllByRecursion IsNaming rows → AllByRecursion (λ row. (has_parent bureau_schema.tables db row to_job && true) ≡ true) rows → AllByRecursion (HasOwner (db 1)) rows
  jobs_of [] named refer = tt
  jobs_of (r ∷ rows) named refer = (job_of r named.0 (and_parts _ _ refer.0).0, jobs_of rows named.1 refer.1)

  -- a row that refers to a card has the card's owner
  module _ (cards : AllByRecursion IsNaming (db 7)) (owners : AllByRecursion (HasOwner (db 1)) (db 7)) where
    card_of : (row : Row) → IsNaming row → is_null (column row 3) ≡ false → has_parent bureau_schema.tables db row to_card ≡ true → HasOwner (db 7) row
    card_of row named some is =
        let held : list_any (λ parent. agree plain (1 ∷ 2 ∷ 3 ∷ []) parent (1 ∷ 2 ∷ 3 ∷ []) row) (db 7) ≡ true = rw (named.text, named.integer, some, card_key) at is in
        owner_of (db 7) cards (3 ∷ []) row named held

    through_card : (row : Row) → HasOwner (db 7) row → HasOwner (db 1) row
    through_card row card =
        let owner = all_among (HasOwner (db 1)) card.0 (db 7) owners card.1 in
        (owner.0, owner.1, (owner.2.0 ∙ card.2.0, owner.2.1 ∙ card.2.1))

    jobs_through_cards : (rows : List Row) → AllByRecursion IsNaming rows → AllByRecursion (λ row. is_null (column row 3) ≡ false) rows
        → AllByRecursion (λ row. (has_parent bureau_schema.tables db row to_card && true) ≡ true) rows → AllByRecursion (HasOwner (db 1)) rows
    jobs_through_cards [] named placed refer = tt
    jobs_through_cards (r ∷ rows) named placed refer = (through_card r (card_of r named.0 placed.0 (and_parts _ _ refer.0).0), jobs_through_cards rows named.1 placed.1 refer.1)

-- ---- each table

referring_rows : (db : Database) → IsBureaus db → AllByRecursion (λ (t : Listed). AllByRecursion (λ row. passes ForeignKey bureau_schema db.trees t row ≡ true) (db.trees t.tree)) bureau_schema.tables
referring_rows db bureaus = subst (λ (s : Schema). AllByRecursion (λ (t : Listed). AllByRecursion (λ row. passes ForeignKey s db.trees t row ≡ true) (db.trees t.tree)) s.tables) bureaus.schema (bureaus.sound.obeys.rules ForeignKey)

placed_rows : (cs : List Column) (rows : List Row) → AllByRecursion (λ row. are_present None 0 (naming (required (codes "place") Integer ∷ cs)) row ≡ true) rows → AllByRecursion (λ row. is_null (column row 3) ≡ false) rows
placed_rows cs [] present = tt
placed_rows cs (r ∷ rows) present =
    let number = (and_parts (not (is_null (column r 1))) _ present.0).1 in
    let place = (and_parts (not (is_null (column r 2))) _ number).1 in
    (not_null (column r 3) _ place, placed_rows cs rows present.1)

named : (db : Database) (tree : ℕ) (cs : List Column) → AreObeyed db tree (naming cs) → AllByRecursion IsNaming (db.trees tree)
named db tree cs obeyed = naming_rows cs (db.trees tree) obeyed.typed obeyed.present

module _ (db : Database) (bureaus : IsBureaus db) where
  abbrev Owned : List Row → Type 0
  Owned = AllByRecursion (HasOwner (db.trees 1))

  pub jobs_named : AllByRecursion IsNaming (db.trees 1)
  jobs_named = named db 1 (drop 2 schema.jobs.columns) (rules.jobs_obeyed db bureaus)

  cards_named : AllByRecursion IsNaming (db.trees 7)
  cards_named = named db 7 (drop 2 schema.cards.columns) (rules.cards_obeyed db bureaus)

  stretches_owned : Owned (db.trees 3)
  stretches_owned = jobs_of db.trees jobs_named (db.trees 3) (named db 3 (drop 2 schema.stretches.columns) (rules.stretches_obeyed db bureaus)) (referring_rows db bureaus).1.1.0

  cards_owned : Owned (db.trees 7)
  cards_owned = jobs_of db.trees jobs_named (db.trees 7) cards_named (referring_rows db bureaus).1.1.1.0

  lines_owned : Owned (db.trees 9)
  lines_owned = jobs_of db.trees jobs_named (db.trees 9) (named db 9 (drop 2 schema.lines.columns) (rules.lines_obeyed db bureaus)) (referring_rows db bureaus).1.1.1.1.0

  states_owned : Owned (db.trees 11)
  states_owned = jobs_of db.trees jobs_named (db.trees 11) (named db 11 (drop 2 schema.states.columns) (rules.states_obeyed db bureaus)) (referring_rows db bureaus).1.1.1.1.1.0

  pages_owned : Owned (db.trees 13)
  pages_owned = jobs_of db.trees jobs_named (db.trees 13) (named db 13 (drop 2 schema.pages.columns) (rules.pages_obeyed db bureaus)) (referring_rows db bureaus).1.1.1.1.1.1.0

  profiles_owned : Owned (db.trees 15)
  profiles_owned = jobs_of db.trees jobs_named (db.trees 15) (named db 15 (drop 2 schema.profiles.columns) (rules.profiles_obeyed db bureaus)) (referring_rows db bureaus).1.1.1.1.1.1.1.0

  pockets_owned : Owned (db.trees 17)
  pockets_owned =
      let obeyed = rules.pockets_obeyed db bureaus in
      jobs_through_cards db.trees jobs_named cards_named cards_owned (db.trees 17) (named db 17 (drop 2 schema.pockets.columns) obeyed)
      (placed_rows (drop 3 schema.pockets.columns) (db.trees 17) obeyed.present) (referring_rows db bureaus).1.1.1.1.1.1.1.1.0

-- ---- the rows as they are read

module _ (jobs table rows : List Row) (owned : AllByRecursion (IsOwned jobs) table) where
  as_they_stand : rows ≡ table → AllByRecursion (IsOwned jobs) rows
  as_they_stand same = subst (AllByRecursion (IsOwned jobs)) (sym same) owned

  in_another_order : IsPermutation table rows → AllByRecursion (IsOwned jobs) rows
  in_another_order same = recursion_from_All (IsOwned jobs) rows (All-permutation (IsOwned jobs) table rows same (All-from_recursion (IsOwned jobs) table owned))

pub all_are_owned : (db : Database) (all : WholeTables) → HasRows db all → AreOwned all
all_are_owned db all has =
    let bureaus = has.bureaus in
    let read = has.rows in
    let each : (rows : List Row) → AllByRecursion (HasOwner (db.trees 1)) rows → AllByRecursion (IsOwned all.jobs) (cells rows) =
    λ rows owners. subst (λ jobs. AllByRecursion (IsOwned jobs) (cells rows)) (sym read.jobs) (all_owned db.trees (jobs_named db bureaus) rows owners) in
    record {
      stretches = as_they_stand _ _ _ (each (db.trees 3) (stretches_owned db bureaus)) read.stretches;
      states = as_they_stand _ _ _ (each (db.trees 11) (states_owned db bureaus)) read.states;
      pages = in_another_order _ _ _ (each (db.trees 13) (pages_owned db bureaus)) read.pages;
      cards = as_they_stand _ _ _ (each (db.trees 7) (cards_owned db bureaus)) read.cards;
      lines = as_they_stand _ _ _ (each (db.trees 9) (lines_owned db bureaus)) read.lines;
      profiles = as_they_stand _ _ _ (each (db.trees 15) (profiles_owned db bureaus)) read.profiles;
      pockets = in_another_order _ _ _ (each (db.trees 17) (pockets_owned db bureaus)) read.pockets;
    }
