-- What the statements do that make the tables of an earlier version those of this one.
use Rattle.std.proofs.Common.{◌≡◌, ◌≢◌, ℕ, pos, List, [], ◌∷◌, ◌++◌, map, drop, filter, replicate, slice_get, codes, Bool, true, false, Option, Some, None, IsTrue, Ok, Less, refl, sym, ap, subst, ◌∙◌, append-nil, append_assoc}
use Rattle.std.specs.List.{AllByRecursion}
use Rattle.std.specs.List.Sorted.{IsPermutation}
use Rattle.std.specs.Option.{option_map, option_to_list}
use Rattle.std.proofs.lemmas.Cmp.{tied_itself}
use Rattle.std.proofs.lemmas.List.Elements.{filter-append}
use Rattle.sqlite_value.proofs.OrderLemmas.{value_cmp_total}
use Rattle.sqlite.specs.declared.types.Value.TheVariants.{Null, Int, Text}
use Rattle.sqlite.specs.Order.{Row, value_cmp}
use Rattle.sqlite.specs.Program.{overlay}
use Rattle.sqlite.specs.Collation.{Collation}
use Rattle.sqlite.specs.Collation.TheVariants.{Binary}
use Rattle.sqlite.specs.Cast.{cast, cast_row}
use Rattle.sqlite.specs.Kind.TheVariants.{Integer}
use Rattle.sqlite.specs.Command.TheVariants.{Insert, Update, DropTable}
use Rattle.sqlite.specs.Source.TheVariants.{Query as FromQuery}
use Rattle.sqlite.specs.Change.{without_table, KeepsRows}
use Rattle.sqlite.specs.Does.{Tally, Does, OnRows, is_acted_on}
use Rattle.sqlite.specs.Edit.{Edit, edit_of, edited, next_rowid, numbered, put_all}
use Rattle.sqlite.specs.Effect.{Database, IsDatabase, Answers}
use Rattle.sqlite.specs.Listing.{understood}
use Rattle.sqlite.specs.Query.{Query, IsSureAnswer, output_cmp}
use Rattle.sqlite.specs.Rows.{Written, Task, stamped}
use Rattle.sqlite.specs.Rowids.TheVariants.{Chosen, Given}
use Rattle.sqlite.specs.Schema.{Schema}
use Rattle.sqlite.specs.State.{State, mode_of, Executes, ExecutesInside, IsUnchanged, Shown}
use Rattle.sqlite.specs.Table.{Table}
use Rattle.sqlite.specs.Term.{Term, lit, col}
use Rattle.sqlite.specs.Tree.{Trees, IsAscending, put_row, rowid, without_rowid}
use Rattle.sqlite.specs.View.{IsShaped}
use Rattle.sqlite.proofs.Callers.{statement_of, runs_as, one_step, one_permutation}
use Rattle.sqlite_rules.specs.Calls.{ids_of}
use Rattle.sqlite_rules.proofs.ActionLemmas.{no_works}
use Rattle.sqlite_schema.specs.declared.schema.Keys.TheVariants.{Enforced}
use Rattle.sqlite_tied.specs.Compute.{everything}
use Rattle.sqlite_trees.specs.declared.store.Shape.TheVariants.{Table as Rising}
use Rattle.ledger_tables.specs.Listed.{queued_name}
use Rattle.ledger_tables.specs.Making.{AreMade}
use Rattle.ledger_tables.specs.Raising.{HasNewStates, HasNewTables, all_names, plain_profile, with_plain_profiles}
use Rattle.ledger_tables.specs.Schema.{bureau, pictures, states, pages, profiles, pockets, first_schema, up_to_states, raising_schema, paged_schema, up_to_profiles, new_up_to_pockets, bureau_schema, own_version}
use Rattle.ledger_tables.specs.Shown.{shown_queued, shown_storage}
use Rattle.ledger_tables.specs.Tables.{NamedJob, ByJob, Tables, HoldsAs, HoldsFirst, IsOf, NamesJob, cells, is_job, is_row_of, job_named, job_row, picture_row, picture_rows, profile_row, profile_rows, state_rows, version_rows, without_pages, without_profiles, pictured, paged, profiled, complete}
use Rattle.ledger_tables.specs.declared.rows.StateRow.{StateRow}
use Rattle.ledger_tables.proofs.CreateStatement.{creates}
use Rattle.ledger_tables.proofs.InsertLast.{still, still_each, still_profiles, still_shared, shared_with}
use Rattle.ledger_tables.proofs.InsertPlaces.{next_cells, next_shaped}
use Rattle.ledger_tables.proofs.InsertStatement.{Means, apart, went, same_value, cast_int, cast_null}
use Rattle.ledger_tables.proofs.LookupAnswers.{looks_in}
use Rattle.ledger_tables.proofs.LookupKeys.{at_most_one, columns, found_once, key_is, row_form, rows_of_key, shown_cells, view}
use Rattle.ledger_tables.proofs.LookupStatement.{passes, show, plain_query, plain_answer, ordered_query, ordered_answer, keyed_pair}
use Rattle.ledger_tables.proofs.ReadTexts.{SelectsIn, is_key}
use Rattle.ledger_tables.proofs.ProfileTables.{profiles_alone}
use Rattle.ledger_tables.proofs.Texts.{create_states, create_states_is, create_pages, create_pages_is, create_profiles, create_profiles_is, create_pockets, create_pockets_is}
use Rattle.ledger_tables.proofs.UpdateFlags.{the_only, no_other}
use Rattle.ledger_tables.proofs.UpdateRows.{key_yes}
use Rattle.ledger_tables.proofs.UpdateStatements.{idle_here, updates}

-- ---- the texts

abbrev pub copy_pictures : List ℕ
copy_pictures = codes "INSERT INTO states (customer, number, i, a, b, compare, overflow, channel, waiting, form, line, taken, cards, lines, standing) SELECT customer, number, i, a, b, compare, overflow, channel, waiting, form, line, taken, cards, lines, standing FROM pictures ORDER BY rowid"

abbrev copied_terms : List Term
copied_terms = lit Null ∷ col 1 1 ∷ col 1 2 ∷ col 1 4 ∷ col 1 5 ∷ col 1 6 ∷ col 1 7 ∷ col 1 8 ∷ col 1 9 ∷ col 1 10 ∷ col 1 11 ∷ col 1 12 ∷ col 1 13 ∷ col 1 14 ∷ col 1 15 ∷ col 1 16 ∷ []

abbrev copy_query : Query
copy_query = record (ordered_query 5 [] copied_terms (col 1 0)) { collations = replicate 16 Binary }

copy_pictures_is : Means raising_schema copy_pictures (Insert 6 (FromQuery (record { lets = []; body = copy_query })))
unfolding understood everything
copy_pictures_is = (refl, (refl, refl))

abbrev pub set_version : List ℕ
set_version = codes "UPDATE bureau SET version = ?1"

abbrev set_terms : List Term
set_terms = col 1 0 ∷ col 1 0 ∷ lit Null ∷ col 0 0 ∷ []

set_version_is : Means bureau_schema set_version (Update 0 (record { lets = []; body = plain_query 0 [] set_terms }))
unfolding understood everything
set_version_is = (refl, (refl, refl))

abbrev pub drop_pictures : List ℕ
drop_pictures = codes "DROP TABLE pictures"

drop_pictures_is : Means raising_schema drop_pictures (DropTable 3)
unfolding understood everything
drop_pictures_is = (refl, (refl, refl))

-- the same in a new file
drop_pictures_new : Means new_up_to_pockets drop_pictures (DropTable 3)
unfolding understood everything
drop_pictures_new = (refl, (refl, refl))

abbrev pub copy_profiles : List ℕ
copy_profiles = codes "INSERT INTO profiles (customer, number, profile, chosen) SELECT customer, number, 1, 0 FROM jobs ORDER BY rowid"

abbrev profile_terms : List Term
profile_terms = lit Null ∷ col 1 1 ∷ col 1 2 ∷ lit (Int (pos 1)) ∷ lit (Int (pos 0)) ∷ []

abbrev profile_query : Query
profile_query = record (ordered_query 1 [] profile_terms (col 1 0)) { collations = replicate 5 Binary }

copy_profiles_is : Means bureau_schema copy_profiles (Insert 7 (FromQuery (record { lets = []; body = profile_query })))
unfolding understood everything
copy_profiles_is = (refl, (refl, refl))

abbrev pub select_all_names : List ℕ
select_all_names = codes "SELECT customer, number FROM jobs ORDER BY rowid"

abbrev name_terms : List Term
name_terms = col 1 1 ∷ col 1 2 ∷ []

select_all_names_is : SelectsIn raising_schema select_all_names (ordered_query 1 [] name_terms (col 1 0)) (codes "customer" ∷ codes "number" ∷ [])
unfolding understood everything
select_all_names_is = ((refl, (refl, refl)), refl)

abbrev pub select_storage : List ℕ
select_storage = codes "SELECT storage FROM pictures WHERE customer = ?1 AND number = ?2"

select_storage_is : SelectsIn raising_schema select_storage (plain_query 5 is_key (columns (2 ∷ []))) (codes "storage" ∷ [])
unfolding understood everything
select_storage_is = ((refl, (refl, refl)), refl)

-- ---- the new tables

pub states_created : (old new : State) (count : ℕ) → ExecutesInside 0 create_states [] old new (Ok count) → (t : Tables) (storages : ByJob (List ℕ)) → (IsTrue old.is_open → HoldsFirst old.now t storages) → HasNewStates new.now t storages
states_created old new count h t storages has =
    let holds = has h.1.was_open in
    let did = creates first_schema create_states states create_states_is refl old new count holds.schema_is h.0 in
    let kept = did.2 in
    record {
      first = record {
        schema_is = did.0;
        sound = did.3;
        version = kept.0 ∙ holds.version;
        shared = still_shared holds.shared kept.1.0 kept.1.1.0 kept.1.1.1.1.0 kept.1.1.1.1.1.0;
        pictures = still kept.1.1.1.0 holds.pictures;
      };
      states = did.1;
    }

pub pages_created : (old new : State) (count : ℕ) → ExecutesInside 0 create_pages [] old new (Ok count) → (t : Tables) (storages : ByJob (List ℕ)) → HasNewStates old.now t storages → HasNewTables new.now t storages
pages_created old new count h t storages holds =
    let did = creates up_to_states create_pages pages create_pages_is refl old new count holds.first.schema_is h.0 in
    let kept = did.2 in
    record {
      first = record {
        schema_is = did.0;
        sound = did.3;
        version = kept.0 ∙ holds.first.version;
        shared = still_shared holds.first.shared kept.1.0 kept.1.1.0 kept.1.1.1.1.0 kept.1.1.1.1.1.0;
        pictures = still kept.1.1.1.0 holds.first.pictures;
      };
      states = kept.1.1.1.1.1.1.0 ∙ holds.states;
      pages = did.1;
    }

pub profiles_created : (old new : State) (count : ℕ) → ExecutesInside 0 create_profiles [] old new (Ok count) → (t : Tables) (version : ℕ) → (IsTrue old.is_open → HoldsAs paged version old.now t) → HoldsAs profiled version new.now t
profiles_created old new count h t version has =
    let holds = has h.1.was_open in
    let did = creates paged_schema create_profiles profiles create_profiles_is refl old new count holds.schema h.0 in
    let kept = did.2 in
    record {
      schema = did.0;
      sound = did.3;
      version = kept.0 ∙ holds.version;
      shared = still_shared holds.shared kept.1.0 kept.1.1.0 kept.1.1.1.0 kept.1.1.1.1.0;
      states = still kept.1.1.1.1.1.0 holds.states;
      pages = still_each kept.1.1.1.1.1.1.0 holds.pages;
      beside = did.1;
    }

pub pockets_created : (old new : State) (count : ℕ) → ExecutesInside 0 create_pockets [] old new (Ok count) → (t : Tables) (version : ℕ) → HoldsAs profiled version old.now t → HoldsAs complete version new.now (without_profiles t)
pockets_created old new count h t version holds =
    let did = creates up_to_profiles create_pockets pockets create_pockets_is refl old new count holds.schema h.0 in
    let kept = did.2 in
    let no_profile : new.now.trees 15 ≡ [] = kept.1.1.1.1.1.1.1.0 ∙ holds.beside in
    record {
      schema = did.0;
      sound = did.3;
      version = kept.0 ∙ holds.version;
      shared = shared_with _ _ _ _ (still_shared holds.shared kept.1.0 kept.1.1.0 kept.1.1.1.0 kept.1.1.1.1.0);
      states = still kept.1.1.1.1.1.0 holds.states;
      pages = still_each kept.1.1.1.1.1.1.0 holds.pages;
      beside = record {
        profiles_are = rw no_profile (record { each = λ c n. refl; named = tt; rise = (tt, tt) });
        pockets_are = rw did.1 (record { each = λ c n k. refl; named = tt; rise = (tt, tt) });
      };
    }

-- ---- the states are copied

-- an INSERT of the rows of a query
module _ (schema : Schema) (sql : List ℕ) (at : ℕ) (raw : Table) (query : Query) (is : Means schema sql (Insert at (FromQuery (record { lets = []; body = query }))))
    (place : slice_get schema.tables at ≡ Some (record raw { is_counted = false })) where
  abbrev table : Table
  table = record raw { is_counted = false }

  pub copies : (old new : State) (count : ℕ) → old.now.schema ≡ schema → Executes sql [] old new (Ok count)
      → (rows : List Row) × Answers (record { schema = schema; trees = old.now.trees }) (record { lets = []; body = query }) (stamped table []) rows
      × (new.now.schema ≡ schema) × (new.now.trees table.tree ≡ edited old.now.trees (edit_of old.now.trees table [] Chosen 0 rows))
      × AllByRecursion (λ t. t.tree ≢ table.tree → new.now.trees t.tree ≡ old.now.trees t.tree) schema.tables × IsDatabase new.now
  copies old new count has h =
      let db = old.now.trees in
      let command = Insert at (FromQuery (record { lets = []; body = query })) in
      let w = runs_as sql [] old new schema has command is.0 is.1 count h in
      let text = statement_of sql (understood schema sql) in
      let task : Task = record { limit = old.step_limit; keys = (mode_of old).keys; schema = schema; table = table; params = [] } in
      let whole = subst (λ s. Does old.step_limit (mode_of old) [] (record old.now { schema = s }) text None command (Ok (w.tally, new.now))) has w.changed in
      let here : OnRows task (mode_of old) None command db (Ok (w.tally, new.now)) = rw place at whole in
      let done = went here in
      let now = ap (λ (p : Tally × Database). p.1) (same_value (went (went done.2).2).2) in
      let given = went done.1 in
      let written = went (went given.2).2 in
      let counted = went written.2 in
      let trees : done.0.trees ≡ written.0 = ap (λ (it : Written). it.trees) (same_value counted.2) ∙ same_value counted.1 in
      let step : Edit = edit_of db table [] Chosen 0 given.0 in
      let does = one_step schema (mode_of old).keys db written.0 step (no_works schema (mode_of old).keys 0 table.tree step.news) written.1 in
      let same = ap (λ (d : Database). d.trees) now ∙ trees in (
        given.0,
        given.1,
        ap (λ (d : Database). d.schema) now,
        ap (λ (t : Trees). t table.tree) same ∙ does.rows,
        subst (λ (next : Trees). AllByRecursion (λ t. t.tree ≢ table.tree → next t.tree ≡ db t.tree) schema.tables) (sym same) does.tables,
        w.sound,
      )

-- rows without rowids go behind those of a table, in their order
all_behind : (rows rests : List Row) → IsShaped Rising rows
    → (cells (put_all rows (numbered Chosen rows (map (λ (r : Row). let s : Row = Null ∷ r in s) rests))) ≡ cells rows ++ rests)
    × IsShaped Rising (put_all rows (numbered Chosen rows (map (λ (r : Row). let s : Row = Null ∷ r in s) rests)))
all_behind rows [] shaped = (sym (append-nil (cells rows)), shaped)
all_behind rows (rest ∷ rests) shaped =
    let next = put_row (Int (next_rowid rows) ∷ rest) rows in
    let more = all_behind next rests (next_shaped rest rows shaped) in
    (more.0 ∙ ap (λ xs. xs ++ rests) (next_cells rest rows shaped) ∙ append_assoc (cells rows) (rest ∷ []) rests, more.1)

-- each row of the pictures is one
abbrev IsPicture : Row → Type 0
IsPicture row = (customer : List ℕ) × (number : ℕ) × (storage : List ℕ) × (state : StateRow) × (row ≡ picture_row customer number storage state)

-- a picture's columns but the storage
abbrev without_storage : Row → Row
without_storage (customer ∷ number ∷ storage ∷ rest) = customer ∷ number ∷ rest
without_storage _ = []

sources_cast : (rows : List Row) → AllByRecursion (λ (r : Row). IsPicture (drop 1 r)) rows
    → map (λ (s : Row). cast_row (record states { tree = 11 }) (drop 0 s)) (map (show copied_terms []) rows) ≡ map (λ (r : Row). let s : Row = Null ∷ r in s) (map without_storage (cells rows))
sources_cast [] all = refl
sources_cast (r ∷ rows) all =
    let it = all.0 in
    let first : cast_row (record states { tree = 11 }) (drop 0 (show copied_terms [] r)) ≡ Null ∷ without_storage (drop 1 r) = one_cast r it.0 it.1 it.2 it.3 it.4 in
    ap (λ (x : Row). x ∷ map (λ (s : Row). cast_row (record states { tree = 11 }) (drop 0 s)) (map (show copied_terms []) rows)) first ∙ ap (λ (xs : List Row). (Null ∷ without_storage (drop 1 r)) ∷ xs) (sources_cast rows all.1)
  where
    one_cast : (r : Row) (customer : List ℕ) (number : ℕ) (storage : List ℕ) (s : StateRow) → drop 1 r ≡ picture_row customer number storage s
        → cast_row (record states { tree = 11 }) (drop 0 (show copied_terms [] r)) ≡ Null ∷ without_storage (drop 1 r)
    one_cast [] customer number storage s is = absurd (let e = is in cc)
    one_cast (x ∷ cells_of_it) customer number storage s is = rw is (simp (cast_null, cast_int))

-- ---- all pictures are copied

each_cn : {X : Type 0} (Q : List ℕ → ℕ → X → Type 0) (xs : List X) → ((c : List ℕ) (n : ℕ) → AllByRecursion (Q c n) xs) → AllByRecursion (λ x. (c : List ℕ) (n : ℕ) → Q c n x) xs
each_cn Q [] all = tt
each_cn Q (x ∷ xs) all = (λ c n. (all c n).0, each_cn Q xs (λ c n. (all c n).1))

module _ (storages : ByJob (List ℕ)) (all : ByJob (Option StateRow)) where
  is_one : (c : List ℕ) (n : ℕ) (o : Option StateRow) (xs : List Row) → filter (is_row_of c n) xs ≡ picture_rows c n (storages c n) o → AllByRecursion (λ x. is_row_of c n x ≡ true → IsPicture x) xs
  is_one c n None xs none = go xs (no_other (is_row_of c n) [] xs none)
    where
      empty_fails : (x : Row) → is_row_of c n x ≡ true → x ≡ [] → IsPicture x
      empty_fails x passes is = absurd (let e : is_row_of c n [] ≡ true = subst (λ r. is_row_of c n r ≡ true) is passes in cc)

      go : (xs : List Row) → AllByRecursion (λ x. is_row_of c n x ≡ true → x ≡ []) xs → AllByRecursion (λ x. is_row_of c n x ≡ true → IsPicture x) xs
      go [] h = tt
      go (x ∷ xs) h = (λ passes. empty_fails x passes (h.0 passes), go xs h.1)
  is_one c n (Some p) xs one = go xs (the_only (is_row_of c n) (picture_row c n (storages c n) p) xs one)
    where
      go : (xs : List Row) → AllByRecursion (λ x. is_row_of c n x ≡ true → x ≡ picture_row c n (storages c n) p) xs → AllByRecursion (λ x. is_row_of c n x ≡ true → IsPicture x) xs
      go [] h = tt
      go (x ∷ xs) h = (λ passes. (c, n, storages c n, p, h.0 passes), go xs h.1)

  named_ones : (xs : List Row) → AllByRecursion NamesJob xs → AllByRecursion (λ x. (c : List ℕ) (n : ℕ) → is_row_of c n x ≡ true → IsPicture x) xs → AllByRecursion IsPicture xs
  named_ones [] named ones = tt
  named_ones (x ∷ xs) named ones = (ones.0 named.0.0 named.0.1 (own_name x named.0), named_ones xs named.1 ones.1)
    where
      own_name : (x : Row) (h : NamesJob x) → is_row_of h.0 h.1 x ≡ true
      own_name x h = let it = row_form x h in rw it.1 (key_yes h.0 h.1 h.0 h.1 refl refl)

  all_pictures : (rows : List Row) → IsOf rows (λ c n. picture_rows c n (storages c n) (all c n)) → AllByRecursion IsPicture (cells rows)
  all_pictures rows is = named_ones (cells rows) is.named (each_cn (λ c n x. is_row_of c n x ≡ true → IsPicture x) (cells rows) (λ c n. is_one c n (all c n) (cells rows) (is.each c n)))

with_ids : (rows : List Row) → AllByRecursion IsPicture (cells rows) → AllByRecursion (λ (r : Row). IsPicture (drop 1 r)) rows
with_ids [] ones = tt
with_ids (r ∷ rows) ones = (ones.0, with_ids rows ones.1)

-- the storage is no part of a name
one_name : (c : List ℕ) (n : ℕ) (x : Row) → IsPicture x → is_row_of c n (without_storage x) ≡ is_row_of c n x
one_name c n x it = rw it.4 refl

same_names : (c : List ℕ) (n : ℕ) (xs : List Row) → AllByRecursion IsPicture xs → filter (is_row_of c n) (map without_storage xs) ≡ map without_storage (filter (is_row_of c n) xs)
same_names c n [] all = refl
same_names c n (x ∷ xs) all = go (is_row_of c n x) refl (same_names c n xs all.1)
  where
    go : (b : Bool) → is_row_of c n x ≡ b → filter (is_row_of c n) (map without_storage xs) ≡ map without_storage (filter (is_row_of c n) xs)
        → filter (is_row_of c n) (map without_storage (x ∷ xs)) ≡ map without_storage (filter (is_row_of c n) (x ∷ xs))
    go true this rest = rw (one_name c n x all.0, this) (ap (λ (ys : List Row). let zs : List Row = without_storage x ∷ ys in zs) rest)
    go false this rest = rw (one_name c n x all.0, this) rest

state_of_picture : (c : List ℕ) (n : ℕ) (storage : List ℕ) (o : Option StateRow) → map without_storage (picture_rows c n storage o) ≡ state_rows c n o
state_of_picture c n storage None = refl
state_of_picture c n storage (Some s) = refl

still_named : (xs : List Row) → AllByRecursion IsPicture xs → AllByRecursion NamesJob (map without_storage xs)
still_named [] all = tt
still_named (x ∷ xs) all =
    let it = all.0 in
    let here : NamesJob (without_storage x) = rw it.4 (it.0, it.1, refl, refl) in
    (here, still_named xs all.1)

all_pass : (rows : List Row) → filter (passes [] []) rows ≡ rows
all_pass [] = refl
all_pass (r ∷ rows) = ap (λ (xs : List Row). let ys : List Row = r ∷ xs in ys) (all_pass rows)

-- collations say nothing where nothing is dropped
any_collations : (tree : ℕ) (terms : List Term) (some : List Collation) (db : Trees) (rows : List Row) → IsSureAnswer (record (ordered_query tree [] terms (col 1 0)) { collations = some }) db [] rows → IsSureAnswer (ordered_query tree [] terms (col 1 0)) db [] rows
any_collations tree terms some db rows sure lost = let a = sure lost in record { staged = a.staged; grouped = a.grouped; kept = a.kept; distinct = a.distinct; ordered = a.ordered; same = a.same; sorted = a.sorted; shown = a.shown }

-- in the order of rowids, all rows of a table
module _ (tree : ℕ) (terms : List Term) where
  abbrev by_rowid : Query
  by_rowid = ordered_query tree [] terms (col 1 0)

  before_all : (a : Row) (rows : List Row) → AllByRecursion (λ b. value_cmp (rowid a) (rowid b) ≡ Less) rows
      → AllByRecursion (λ b. output_cmp by_rowid (keyed_pair tree [] terms (col 1 0) [] a) b ≡ Less) (map (keyed_pair tree [] terms (col 1 0) []) rows)
  before_all a [] all = tt
  before_all a (b ∷ rows) all = (rw all.0, before_all a rows all.1)

  ids_rise : (rows : List Row) → IsShaped Rising rows → IsAscending (λ a b. output_cmp by_rowid a b ≡ Less) (map (keyed_pair tree [] terms (col 1 0) []) rows)
  ids_rise [] shaped = tt
  ids_rise (r ∷ rows) shaped = (before_all r rows shaped.0.0, ids_rise rows (shaped.0.1, shaped.1.1))

  in_their_order : (db : Trees) (rows : List Row) → overlay db [] tree ≡ db tree → IsShaped Rising (db tree) → IsSureAnswer by_rowid (overlay db []) [] rows → rows ≡ map (show terms []) (db tree)
  in_their_order db rows below shaped sure =
      ordered_answer tree [] terms (col 1 0) [] db rows below sure (subst (λ rs. IsAscending (λ a b. output_cmp by_rowid a b ≡ Less) (map (keyed_pair tree [] terms (col 1 0) []) rs)) (sym (all_pass (db tree))) (ids_rise (db tree) shaped))
      ∙ ap (map (show terms [])) (all_pass (db tree))

pub pictures_copied : (old new : State) (count : ℕ) → ExecutesInside 0 copy_pictures [] old new (Ok count) → (t : Tables) (storages : ByJob (List ℕ)) → HasNewTables old.now t storages
    → HoldsAs (pictured storages) 1 new.now (without_pages t)
pictures_copied old new count h t storages holds =
    let did = copies raising_schema copy_pictures 6 (record states { tree = 11 }) copy_query copy_pictures_is refl old new count holds.first.schema_is h.0 in
    let db = old.now.trees in
    let are_pictures = all_pictures storages t.states (db 5) holds.first.pictures in
    let whole = in_their_order 5 copied_terms db did.0 refl holds.first.pictures.rise (any_collations 5 copied_terms _ _ did.0 did.1.answer) in
    let sources : map (λ (s : Row). cast_row (record states { tree = 11 }) (drop 0 s)) did.0 ≡ map (λ (r : Row). let s : Row = Null ∷ r in s) (map without_storage (cells (db 5))) =
    ap (map (λ (s : Row). cast_row (record states { tree = 11 }) (drop 0 s))) whole ∙ sources_cast (db 5) (with_ids (db 5) are_pictures) in
    let behind = all_behind [] (map without_storage (cells (db 5))) (tt, tt) in
    let tree : new.now.trees 11 ≡ put_all [] (numbered Chosen [] (map (λ (r : Row). let s : Row = Null ∷ r in s) (map without_storage (cells (db 5))))) =
    did.3 ∙ ap (λ (rs : List Row). put_all rs (numbered Chosen rs (map (λ (s : Row). cast_row (record states { tree = 11 }) (drop 0 s)) did.0))) holds.states ∙ ap (λ (ss : List Row). put_all [] (numbered Chosen [] ss)) sources in
    let are : cells (new.now.trees 11) ≡ map without_storage (cells (db 5)) = ap cells tree ∙ behind.0 in
    let others = did.4 in
    let no_page : new.now.trees 13 ≡ [] = others.1.1.1.1.1.1.1.0 (apart refl) ∙ holds.pages in
    record {
      schema = did.2;
      sound = did.5;
      version = others.0 (apart refl) ∙ holds.first.version;
      shared = shared_with _ _ _ _ (still_shared holds.first.shared (others.1.0 (apart refl)) (others.1.1.0 (apart refl)) (others.1.1.1.1.0 (apart refl)) (others.1.1.1.1.1.0 (apart refl)));
      states = record {
        each = λ c n. ap (filter (is_row_of c n)) are ∙ same_names c n (cells (db 5)) are_pictures ∙ ap (map without_storage) (holds.first.pictures.each c n) ∙ state_of_picture c n (storages c n) (t.states c n);
        named = subst (AllByRecursion NamesJob) (sym are) (still_named (cells (db 5)) are_pictures);
        rise = subst (IsShaped Rising) (sym tree) behind.1;
      };
      pages = rw no_page (record { each = λ c n k. refl; named = tt; rise = (tt, tt) });
      beside = still (others.1.1.1.0 (apart refl)) holds.first.pictures;
    }

-- ---- each job gets a profile

-- the row of a job's plain profile
abbrev plain_row : NamedJob → Row
plain_row job = profile_row job.customer job.number plain_profile

plain_cast : (rows : List Row) (jobs : List NamedJob) → cells rows ≡ map job_row jobs
    → map (λ (s : Row). cast_row (record profiles { tree = 15 }) (drop 0 s)) (map (show profile_terms []) rows) ≡ map (λ (r : Row). let s : Row = Null ∷ r in s) (map plain_row jobs)
plain_cast [] [] is = refl
plain_cast [] (job ∷ jobs) is = absurd (let e = is in cc)
plain_cast (r ∷ rows) [] is = absurd (let e = is in cc)
plain_cast (r ∷ rows) (job ∷ jobs) is =
    let here : drop 1 r ≡ job_row job = cc in
    let rest : cells rows ≡ map job_row jobs = cc in
    ap (λ (x : Row). x ∷ map (λ (s : Row). cast_row (record profiles { tree = 15 }) (drop 0 s)) (map (show profile_terms []) rows)) (one_cast r here) ∙ ap (λ (xs : List Row). (Null ∷ plain_row job) ∷ xs) (plain_cast rows jobs rest)
  where
    one_cast : (r : Row) → drop 1 r ≡ job_row job → cast_row (record profiles { tree = 15 }) (drop 0 (show profile_terms [] r)) ≡ Null ∷ plain_row job
    one_cast [] is = absurd (let e = is in cc)
    one_cast (x ∷ rest) is = rw is (simp (cast_null, cast_int))

plain_named : (jobs : List NamedJob) → AllByRecursion NamesJob (map plain_row jobs)
plain_named [] = tt
plain_named (job ∷ jobs) = ((job.customer, job.number, refl, refl), plain_named jobs)

plain_rows_of : (c : List ℕ) (n : ℕ) (jobs : List NamedJob) → filter (is_row_of c n) (map plain_row jobs) ≡ map plain_row (filter (is_job c n) jobs)
plain_rows_of c n [] = refl
plain_rows_of c n (job ∷ jobs) = go (is_job c n job) refl (plain_rows_of c n jobs)
  where
    go : (b : Bool) → is_job c n job ≡ b → filter (is_row_of c n) (map plain_row jobs) ≡ map plain_row (filter (is_job c n) jobs)
        → filter (is_row_of c n) (map plain_row (job ∷ jobs)) ≡ map plain_row (filter (is_job c n) (job ∷ jobs))
    go true this rest = rw this (ap (λ (ys : List Row). let zs : List Row = plain_row job ∷ ys in zs) rest)
    go false this rest = rw this rest

-- the job that is found has the name that was looked for
plain_found : (c : List ℕ) (n : ℕ) (jobs : List NamedJob) → map plain_row (option_to_list (job_named c n jobs)) ≡ profile_rows c n (option_map (λ job. plain_profile) (job_named c n jobs))
plain_found c n [] = refl
plain_found c n (job ∷ jobs) = go (is_job c n job) refl (plain_found c n jobs)
  where
    go : (b : Bool) → is_job c n job ≡ b → map plain_row (option_to_list (job_named c n jobs)) ≡ profile_rows c n (option_map (λ job. plain_profile) (job_named c n jobs))
        → map plain_row (option_to_list (job_named c n (job ∷ jobs))) ≡ profile_rows c n (option_map (λ job. plain_profile) (job_named c n (job ∷ jobs)))
    go true this rest =
        let key = key_is c n job.customer job.number this in
        let same : plain_row job ≡ profile_row c n plain_profile = ap (λ x. profile_row x job.number plain_profile) key.0 ∙ ap (λ m. profile_row c m plain_profile) key.1 in
        rw this (ap (λ (r : Row). let rs : List Row = r ∷ [] in rs) same)
    go false this rest = rw this rest

all_joined : (xs ys : List Row) → AllByRecursion NamesJob xs → AllByRecursion NamesJob ys → AllByRecursion NamesJob (xs ++ ys)
all_joined [] ys all others = others
all_joined (x ∷ xs) ys all others = (all.0, all_joined xs ys all.1 others)

pub profiles_copied : (old new : State) (count : ℕ) → ExecutesInside 0 copy_profiles [] old new (Ok count) → (t : Tables) (version : ℕ) → HoldsAs complete version old.now (without_profiles t)
    → HoldsAs complete version new.now (with_plain_profiles t)
profiles_copied old new count h t version holds =
    let did = copies bureau_schema copy_profiles 7 (record profiles { tree = 15 }) profile_query copy_profiles_is refl old new count holds.schema h.0 in
    let db = old.now.trees in
    let is = holds.beside.profiles_are in
    let whole = in_their_order 1 profile_terms db did.0 refl holds.shared.jobs_rise (any_collations 1 profile_terms _ _ did.0 did.1.answer) in
    let sources : map (λ (s : Row). cast_row (record profiles { tree = 15 }) (drop 0 s)) did.0 ≡ map (λ (r : Row). let s : Row = Null ∷ r in s) (map plain_row t.jobs) =
    ap (map (λ (s : Row). cast_row (record profiles { tree = 15 }) (drop 0 s))) whole ∙ plain_cast (db 1) t.jobs holds.shared.jobs in
    let behind = all_behind (db 15) (map plain_row t.jobs) is.rise in
    let tree : new.now.trees 15 ≡ put_all (db 15) (numbered Chosen (db 15) (map (λ (r : Row). let s : Row = Null ∷ r in s) (map plain_row t.jobs))) =
    did.3 ∙ ap (λ (ss : List Row). put_all (db 15) (numbered Chosen (db 15) ss)) sources in
    let are : cells (new.now.trees 15) ≡ cells (db 15) ++ map plain_row t.jobs = ap cells tree ∙ behind.0 in
    profiles_alone version old.now new.now (without_profiles t) (λ c n. option_map (λ job. plain_profile) (job_named c n t.jobs)) holds did.2 did.5 did.4
    (record {
      each = λ c n. ap (filter (is_row_of c n)) are ∙ filter-append (is_row_of c n) (cells (db 15)) (map plain_row t.jobs) ∙ ap (λ xs. xs ++ filter (is_row_of c n) (map plain_row t.jobs)) (is.each c n)
          ∙ plain_rows_of c n t.jobs ∙ ap (map plain_row) (found_once c n t.jobs holds.shared.distinct) ∙ plain_found c n t.jobs;
      named = subst (AllByRecursion NamesJob) (sym are) (all_joined (cells (db 15)) (map plain_row t.jobs) is.named (plain_named t.jobs));
      rise = subst (IsShaped Rising) (sym tree) behind.1;
    })

-- ---- what is read of the old tables

names_shown : (rows : List Row) (jobs : List NamedJob) → cells rows ≡ map job_row jobs → map (show name_terms []) rows ≡ map shown_queued (map queued_name jobs)
names_shown [] [] is = refl
names_shown [] (job ∷ jobs) is = absurd (let e = is in cc)
names_shown (r ∷ rows) [] is = absurd (let e = is in cc)
names_shown (r ∷ rows) (job ∷ jobs) is =
    let first : drop 1 r ≡ job_row job = cc in
    let rest : cells rows ≡ map job_row jobs = cc in
    ap (λ (x : Row). x ∷ map (show name_terms []) rows) (one_name_shown r job first) ∙ ap (λ (xs : List Row). shown_queued (queued_name job) ∷ xs) (names_shown rows jobs rest)
  where
    one_name_shown : (r : Row) (job : NamedJob) → drop 1 r ≡ job_row job → show name_terms [] r ≡ shown_queued (queued_name job)
    one_name_shown [] job is = absurd (let e = is in cc)
    one_name_shown (x ∷ rest) job is = rw is refl

pub names_read : (old new : State) (rows : List Row) → Shown select_all_names [] old new rows → (t : Tables) (storages : ByJob (List ℕ)) (version : ℕ) → HoldsAs (pictured storages) version old.now t
    → IsUnchanged old new × (rows ≡ map shown_queued (all_names t))
names_read old new rows h t storages version holds =
    let did = looks_in raising_schema select_all_names _ _ select_all_names_is old new [] rows holds.schema h in
    (did.0, in_their_order 1 name_terms old.now.trees rows refl holds.shared.jobs_rise did.1 ∙ names_shown (old.now.trees 1) t.jobs holds.shared.jobs)

storage_shown : (customer : List ℕ) (number : ℕ) (storage : List ℕ) (o : Option StateRow) → map (view (2 ∷ [])) (picture_rows customer number storage o) ≡ map shown_storage (option_to_list (option_map (λ state. storage) o))
storage_shown customer number storage None = refl
storage_shown customer number storage (Some s) = refl

pub storage_read : (old new : State) (customer : List ℕ) (number : ℕ) (rows : List Row) → Shown select_storage (Text customer ∷ Int (pos number) ∷ []) old new rows
    → (t : Tables) (storages : ByJob (List ℕ)) (version : ℕ) → HoldsAs (pictured storages) version old.now t
    → IsUnchanged old new × (rows ≡ map shown_storage (option_to_list (option_map (λ (state : StateRow). storages customer number) (t.states customer number))))
storage_read old new customer number rows h t storages version holds =
    let params : Row = Text customer ∷ Int (pos number) ∷ [] in
    let did = looks_in raising_schema select_storage _ _ select_storage_is old new params rows holds.schema h in
    let db = old.now.trees in
    let kept = filter (passes is_key params) (db 5) in
    let are = rows_of_key customer number [] (db 5) holds.beside.named ∙ holds.beside.each customer number in
    let found = shown_cells (2 ∷ []) params kept ∙ ap (map (view (2 ∷ []))) are ∙ storage_shown customer number (storages customer number) (t.states customer number) in
    let same = plain_answer 5 is_key (columns (2 ∷ [])) params db rows refl did.1 in
    (did.0, at_most_one shown_storage (option_map (λ (state : StateRow). storages customer number) (t.states customer number)) rows (subst (λ xs. IsPermutation xs rows) found same))

-- ---- the version

-- the one row of the version, with this program's own in it
version_edit : (version : ℕ) → put_row (cast Integer (Int (pos 1)) ∷ Null ∷ Int (pos own_version) ∷ []) (without_rowid (pos 1) (version_rows version)) ≡ version_rows own_version
version_edit version = rw (cast_int (pos 1), tied_itself value_cmp_total (Int (pos 1)))

pub version_set : (old new : State) (count : ℕ) → ExecutesInside 0 set_version (Int (pos own_version) ∷ []) old new (Ok count) → (t : Tables) (version : ℕ) → HoldsAs complete version old.now t → HoldsAs complete own_version new.now t
version_set old new count h t version holds =
    let params : Row = Int (pos own_version) ∷ [] in
    let did = updates bureau_schema set_version 0 (record bureau { tree = 0 }) [] set_terms set_version_is refl (idle_here 0) old new params count holds.schema h.0 in
    let db = old.now.trees in
    let shown : Row = Int (pos 1) ∷ Int (pos 1) ∷ Null ∷ Int (pos own_version) ∷ [] in
    let some = plain_answer 0 [] set_terms params db did.0 refl did.1.answer in
    let found : map (show set_terms params) (filter (passes [] params) (db 0)) ≡ shown ∷ [] = ap (λ rs. map (show set_terms params) (filter (passes [] params) rs)) holds.version in
    let one : did.0 ≡ shown ∷ [] = one_permutation shown did.0 (subst (λ rs. IsPermutation rs did.0) found some) in
    let edit : edited db (edit_of db (record bureau { tree = 0 }) (ids_of (shown ∷ [])) Given 1 (shown ∷ [])) ≡ version_rows own_version =
    rw (holds.version, cast_null, cast_int (pos own_version)) (version_edit version) in
    let others = did.4 in
    record {
      schema = did.2;
      sound = did.5;
      version = did.3 ∙ ap (λ rs. edited db (edit_of db (record bureau { tree = 0 }) (ids_of rs) Given 1 rs)) one ∙ edit;
      shared = still_shared holds.shared (others.1.0 (apart refl)) (others.1.1.0 (apart refl)) (others.1.1.1.0 (apart refl)) (others.1.1.1.1.0 (apart refl));
      states = still (others.1.1.1.1.1.0 (apart refl)) holds.states;
      pages = still_each (others.1.1.1.1.1.1.0 (apart refl)) holds.pages;
      beside = still_profiles holds.beside (others.1.1.1.1.1.1.1.0 (apart refl)) (others.1.1.1.1.1.1.1.1.0 (apart refl));
    }

-- ---- the old table goes

-- DROP TABLE of a table to which none refers
module _ (schema : Schema) (sql : List ℕ) (at : ℕ) (raw : Table) (is : Means schema sql (DropTable at))
    (place : slice_get schema.tables at ≡ Some (record raw { is_counted = false })) (idle : is_acted_on schema Enforced (record raw { is_counted = false }) ≡ false) where
  pub drops : (old new : State) (count : ℕ) → old.now.schema ≡ schema → Executes sql [] old new (Ok count)
      → (new.now.schema ≡ without_table schema raw.tree) × KeepsRows (without_table schema raw.tree).tables old.now.trees new.now.trees × IsDatabase new.now
  drops old new count has h =
      let w = runs_as sql [] old new schema has (DropTable at) is.0 is.1 count h in
      let text = statement_of sql (understood schema sql) in
      let db = old.now.trees in
      let whole = subst (λ s. Does old.step_limit (mode_of old) [] (record old.now { schema = s }) text None (DropTable at) (Ok (w.tally, new.now))) has w.changed in
      let here = rw (place, idle) at whole in
      let emptied = went here in
      let uncounted = went emptied.2 in
      let tested = went uncounted.2 in
      let left = went tested.2 in
      let now = ap (λ (p : Tally × Database). p.1) (same_value left.2) in
      let one = same_value emptied.1 in
      let two = same_value uncounted.1 in
      let same : uncounted.0 ≡ db = two ∙ one in (
        ap (λ (d : Database). d.schema) now ∙ left.1.0,
        subst (λ (d : Database). KeepsRows (without_table schema raw.tree).tables db d.trees) (sym now) (subst (λ (b : Trees). KeepsRows (without_table schema raw.tree).tables b left.0.trees) same left.1.1),
        w.sound,
      )

pictures_idle : is_acted_on raising_schema Enforced (record pictures { tree = 5; is_counted = false }) ≡ false
unfolding understood everything
pictures_idle = refl

new_pictures_idle : is_acted_on new_up_to_pockets Enforced (record pictures { tree = 5; is_counted = false }) ≡ false
unfolding understood everything
new_pictures_idle = refl

pub pictures_dropped : (old new : State) (count : ℕ) → ExecutesInside 0 drop_pictures [] old new (Ok count) → (t : Tables) (storages : ByJob (List ℕ)) (version : ℕ) → HoldsAs (pictured storages) version old.now t → HoldsAs paged version new.now t
pictures_dropped old new count h t storages version holds =
    let did = drops raising_schema drop_pictures 3 (record pictures { tree = 5 }) drop_pictures_is refl pictures_idle old new count holds.schema h.0 in
    let kept = did.1 in
    record {
      schema = did.0;
      sound = did.2;
      version = kept.0 ∙ holds.version;
      shared = still_shared holds.shared kept.1.0 kept.1.1.0 kept.1.1.1.0 kept.1.1.1.1.0;
      states = still kept.1.1.1.1.1.0 holds.states;
      pages = still_each kept.1.1.1.1.1.1.0 holds.pages;
      beside = tt;
    }

pub made_dropped : (old new : State) (count : ℕ) → ExecutesInside 0 drop_pictures [] old new (Ok count) → AreMade old.now new_up_to_pockets → AreMade new.now bureau_schema
made_dropped old new count h made =
    let did = drops new_up_to_pockets drop_pictures 3 (record pictures { tree = 5 }) drop_pictures_new refl new_pictures_idle old new count made.is h.0 in
    let kept = did.1 in
    let was = made.empty in
    record {
      is = did.0;
      empty = (kept.0 ∙ was.0, (kept.1.0 ∙ was.1.0, (kept.1.1.0 ∙ was.1.1.0, (kept.1.1.1.0 ∙ was.1.1.1.1.0, (kept.1.1.1.1.0 ∙ was.1.1.1.1.1.0, (kept.1.1.1.1.1.0 ∙ was.1.1.1.1.1.1.0, (kept.1.1.1.1.1.1.0 ∙ was.1.1.1.1.1.1.1.0, (kept.1.1.1.1.1.1.1.0 ∙ was.1.1.1.1.1.1.1.1.0, (kept.1.1.1.1.1.1.1.1.0 ∙ was.1.1.1.1.1.1.1.1.1.0, tt)))))))));
    }
