-- What the statements do on the tables of profiles and of pockets.
use Rattle.std.proofs.Common.{◌≡◌, ◌≢◌, ℕ, pos, List, [], ◌∷◌, map, drop, filter, Bool, true, false, ◌&&◌, ◌==◌, bytes_eq, Option, Some, None, Ok, refl, sym, ap, subst, ◌∙◌}
use Rattle.std.specs.List.{AllByRecursion}
use Rattle.std.specs.List.Sorted.{IsPermutation}
use Rattle.std.specs.Option.{option_map}
use Rattle.sqlite.specs.declared.types.Value.TheVariants.{Null, Int, Text}
use Rattle.sqlite.specs.Order.{Row}
use Rattle.sqlite.specs.Term.{lit, col}
use Rattle.sqlite.specs.Tree.{put_row, without_rowid}
use Rattle.sqlite.specs.View.{IsShaped}
use Rattle.sqlite.specs.Rowids.TheVariants.{Given}
use Rattle.sqlite.specs.Edit.{edit_of, edited, next_rowid}
use Rattle.sqlite.specs.Effect.{Database, IsDatabase, Answers}
use Rattle.sqlite.specs.State.{State, Executes, ExecutesInside}
use Rattle.sqlite.proofs.Callers.{one_permutation}
use Rattle.sqlite_rules.specs.Calls.{ids_of}
use Rattle.sqlite_trees.specs.declared.store.Shape.TheVariants.{Table as Rising}
use Rattle.sqlite_trees.proofs.TreeLemmas.{IsShaped-put_row, IsShaped-filter}
use Rattle.ledger_tables.specs.Cells.{Pockets}
use Rattle.ledger_tables.specs.Schema.{bureau_schema, profiles, pockets}
use Rattle.ledger_tables.specs.Tables.{ByJob, Tables, Holds, HoldsAs, IsOf, IsOfEach, NamesJob, cells, choosing, is_row_of, pocket_row, profile_row, profile_rows, with_chosen, with_pocket, with_profile, complete}
use Rattle.ledger_tables.specs.declared.rows.ProfileRow.{ProfileRow}
use Rattle.ledger_tables.proofs.InsertLast.{still, still_each, still_shared, shared_with, one_behind, row_behind}
use Rattle.ledger_tables.proofs.InsertStatement.{adds, apart, cast_int, cast_null}
use Rattle.ledger_tables.proofs.LookupKeys.{key_passes, key_test, kept_cells, each_test}
use Rattle.ledger_tables.proofs.LookupStatement.{passes, show, plain_query, plain_answer}
use Rattle.ledger_tables.proofs.PageTables.{put_behind, no_rows, no_more_rows}
use Rattle.ledger_tables.proofs.ReadTexts.{is_key, update_chosen, update_chosen_is, chosen_terms}
use Rattle.ledger_tables.proofs.Texts.{insert_pockets, insert_pockets_is, insert_profiles, insert_profiles_is}
use Rattle.ledger_tables.proofs.UpdateRows.{renewed, in_place, within, all_within, renews, key_yes, by_job}
use Rattle.ledger_tables.proofs.UpdateStatements.{blind_key, idle_here, on_cells, spot, updates}

-- where the rows of profiles alone change
pub profiles_alone : (version : ℕ) (old new : Database) (t : Tables) (all : ByJob (Option ProfileRow)) → HoldsAs complete version old t → new.schema ≡ bureau_schema → IsDatabase new
    → AllByRecursion (λ s. s.tree ≢ 15 → new.trees s.tree ≡ old.trees s.tree) bureau_schema.tables → IsOf (new.trees 15) (λ c n. profile_rows c n (all c n)) → HoldsAs complete version new (record t { profiles = all })
profiles_alone version old new t all holds schema sound others are = record {
  schema = schema;
  sound = sound;
  version = others.0 (apart refl) ∙ holds.version;
  shared = shared_with _ _ _ _ (still_shared holds.shared (others.1.0 (apart refl)) (others.1.1.0 (apart refl)) (others.1.1.1.0 (apart refl)) (others.1.1.1.1.0 (apart refl)));
  states = still (others.1.1.1.1.1.0 (apart refl)) holds.states;
  pages = still_each (others.1.1.1.1.1.1.0 (apart refl)) holds.pages;
  beside = record {
    profiles_are = are;
    pockets_are = still_each (others.1.1.1.1.1.1.1.1.0 (apart refl)) holds.beside.pockets_are;
  };
}

-- .. and those of pockets
pockets_alone : (old new : Database) (t : Tables) (all : ByJob Pockets) → Holds old t → new.schema ≡ bureau_schema → IsDatabase new
    → AllByRecursion (λ s. s.tree ≢ 17 → new.trees s.tree ≡ old.trees s.tree) bureau_schema.tables → IsOfEach pocket_row (new.trees 17) all → Holds new (record t { pockets = all })
pockets_alone old new t all holds schema sound others are = record {
  schema = schema;
  sound = sound;
  version = others.0 (apart refl) ∙ holds.version;
  shared = shared_with _ _ _ _ (still_shared holds.shared (others.1.0 (apart refl)) (others.1.1.0 (apart refl)) (others.1.1.1.0 (apart refl)) (others.1.1.1.1.0 (apart refl)));
  states = still (others.1.1.1.1.1.0 (apart refl)) holds.states;
  pages = still_each (others.1.1.1.1.1.1.0 (apart refl)) holds.pages;
  beside = record {
    profiles_are = still (others.1.1.1.1.1.1.1.0 (apart refl)) holds.beside.profiles_are;
    pockets_are = are;
  };
}

-- ---- one row more

pub profile_added : (old new : State) (customer : List ℕ) (number : ℕ) (profile : ProfileRow) (count : ℕ) → ExecutesInside 0 insert_profiles (profile_row customer number profile) old new (Ok count)
    → (t : Tables) → Holds old.now t → t.profiles customer number ≡ None → Holds new.now (with_profile customer number profile t)
profile_added old new customer number profile count h t holds none =
    let row : Row = profile_row customer number profile in
    let did = adds bureau_schema insert_profiles 7 (record profiles { tree = 15 }) (lit Null ∷ col 0 0 ∷ col 0 1 ∷ col 0 2 ∷ col 0 3 ∷ []) 5 insert_profiles_is refl old new row count holds.schema h.0 in
    let now : new.now.trees 15 ≡ put_row (Int (next_rowid (old.now.trees 15)) ∷ row) (old.now.trees 15) = did.1 ∙ simp (cast_null, cast_int) in
    profiles_alone _ old.now new.now t _ holds did.0 did.3 did.2
    (still now (row_behind customer number (Int (pos profile.profile) ∷ Int (pos profile.chosen) ∷ []) (old.now.trees 15) _ _ holds.beside.profiles_are (one_behind profile_row customer number profile t.profiles none)))

pub pocket_added : (old new : State) (customer : List ℕ) (number place pocket : ℕ) (count : ℕ) → ExecutesInside 0 insert_pockets (pocket_row customer number place pocket) old new (Ok count)
    → (t : Tables) → Holds old.now t → t.pockets customer number place ≡ None → Holds new.now (with_pocket customer number place (Some pocket) t)
pocket_added old new customer number place pocket count h t holds none =
    let row : Row = pocket_row customer number place pocket in
    let did = adds bureau_schema insert_pockets 8 (record pockets { tree = 17 }) (lit Null ∷ col 0 0 ∷ col 0 1 ∷ col 0 2 ∷ col 0 3 ∷ []) 5 insert_pockets_is refl old new row count holds.schema h.0 in
    let now : new.now.trees 17 ≡ put_row (Int (next_rowid (old.now.trees 17)) ∷ row) (old.now.trees 17) = did.1 ∙ simp (cast_null, cast_int) in
    pockets_alone old.now new.now t _ holds did.0 did.3 did.2 (put_behind (λ (p : ℕ). Int (pos p) ∷ []) customer number place pocket (old.now.trees 17) (new.now.trees 17) t.pockets holds.beside.pockets_are none now)

-- ---- the pocket chosen for a job's next card

module _ (customer : List ℕ) (number chosen : ℕ) where
  abbrev chosen_params : Row
  chosen_params = Text customer ∷ Int (pos number) ∷ Int (pos chosen) ∷ []

  abbrev of_key : Row → Bool
  of_key = on_cells is_key chosen_params

  keyed : (row : Row) → NamesJob row → of_key row ≡ true → is_row_of customer number row ≡ true
  keyed row named h = sym (key_test customer number (drop 2 chosen_params) (Null ∷ row) named) ∙ h

  profile_passes : (c : List ℕ) (n : ℕ) (p : ProfileRow) → of_key (profile_row c n p) ≡ (bytes_eq c customer && (n == number))
  profile_passes c n p = key_passes Null c n (drop 2 (profile_row c n p)) customer number (drop 2 chosen_params)

  other_profile : (fresh : Row) (c : List ℕ) (n : ℕ) → (bytes_eq c customer && (n == number)) ≡ false → (o : Option ProfileRow) → renewed of_key fresh (profile_rows c n o) ≡ profile_rows c n o
  other_profile fresh c n other None = refl
  other_profile fresh c n other (Some p) = let none = profile_passes c n p ∙ other in rw none

  module _ (old new : State) (count : ℕ) (h : Executes update_chosen chosen_params old new (Ok count)) (t : Tables) (holds : Holds old.now t) where
    did : (rows : List Row) × Answers (record { schema = bureau_schema; trees = old.now.trees }) (record { lets = []; body = plain_query 15 is_key chosen_terms }) chosen_params rows
        × (new.now.schema ≡ bureau_schema) × (new.now.trees 15 ≡ edited old.now.trees (edit_of old.now.trees (record profiles { tree = 15 }) (ids_of rows) Given 1 rows))
        × AllByRecursion (λ s. s.tree ≢ 15 → new.now.trees s.tree ≡ old.now.trees s.tree) bureau_schema.tables × IsDatabase new.now
    did = updates bureau_schema update_chosen 7 (record profiles { tree = 15 }) is_key chosen_terms update_chosen_is refl (idle_here 15) old new chosen_params count holds.schema h

    -- the rows of the job
    found : (o : Option ProfileRow) → t.profiles customer number ≡ o → filter of_key (cells (old.now.trees 15)) ≡ filter of_key (profile_rows customer number o)
    found o was =
        within of_key (is_row_of customer number) (cells (old.now.trees 15)) (all_within customer number (drop 2 chosen_params) of_key keyed (cells (old.now.trees 15)) holds.beside.profiles_are.named)
        ∙ ap (filter of_key) (holds.beside.profiles_are.each customer number ∙ ap (profile_rows customer number) was)

    -- in place of each job's profile, that of this job with the pocket chosen
    set : (all : ByJob (Option ProfileRow)) → IsOf (new.now.trees 15) (λ c n. profile_rows c n (all c n)) → Holds new.now (record t { profiles = all })
    set all are = profiles_alone _ old.now new.now t all holds did.2 did.5 did.4 are

    none_set : t.profiles customer number ≡ None → Holds new.now (with_chosen customer number chosen t)
    none_set was =
        let db = old.now.trees in
        let kept : cells (filter (passes is_key chosen_params) (db 15)) ≡ [] =
        kept_cells (passes is_key chosen_params) of_key (db 15) (each_test NamesJob (passes is_key chosen_params) of_key (λ r named. blind_key chosen_params r) (db 15) holds.beside.profiles_are.named) ∙ found None was in
        let some = plain_answer 15 is_key chosen_terms chosen_params db did.0 refl did.1.answer in
        let nothing : did.0 ≡ [] = no_more_rows did.0 (subst (λ rs. IsPermutation (map (show chosen_terms chosen_params) rs) did.0) (no_rows (filter (passes is_key chosen_params) (db 15)) kept) some) in
        let same : new.now.trees 15 ≡ db 15 = did.3 ∙ ap (λ rs. edited db (edit_of db (record profiles { tree = 15 }) (ids_of rs) Given 1 rs)) nothing in
        let is = still same holds.beside.profiles_are in
        let here : profile_rows customer number (t.profiles customer number) ≡ profile_rows customer number (option_map (choosing chosen) (t.profiles customer number)) =
        ap (profile_rows customer number) was ∙ sym (ap (λ o. profile_rows customer number (option_map (choosing chosen) o)) was) in
        let turned = by_job customer number (option_map (choosing chosen) (t.profiles customer number)) t.profiles (λ c n o. profile_rows c n (t.profiles c n) ≡ profile_rows c n o) here (λ c n other. refl) in
        set _ (record { each = λ c n. is.each c n ∙ turned c n; named = is.named; rise = is.rise })

    one_set : (before : ProfileRow) → t.profiles customer number ≡ Some before → Holds new.now (with_chosen customer number chosen t)
    one_set before was =
        let db = old.now.trees in
        let is = holds.beside.profiles_are in
        let own : of_key (profile_row customer number before) ≡ true = profile_passes customer number before ∙ key_yes customer number customer number refl refl in
        let at = spot is_key chosen_params (blind_key chosen_params) (db 15) (profile_row customer number before) is.named is.rise (found (Some before) was ∙ rw own) in
        let fresh = profile_row customer number (choosing chosen before) in
        let shown : Row = Int at.0 ∷ Int at.0 ∷ fresh in
        let some = plain_answer 15 is_key chosen_terms chosen_params db did.0 refl did.1.answer in
        let one : did.0 ≡ shown ∷ [] = one_permutation shown did.0 (subst (λ rs. IsPermutation (map (show chosen_terms chosen_params) rs) did.0) at.1 some) in
        let new_row : Row = Int at.0 ∷ fresh in
        let edit : edited db (edit_of db (record profiles { tree = 15 }) (ids_of (shown ∷ [])) Given 1 (shown ∷ [])) ≡ put_row new_row (without_rowid at.0 (db 15)) =
        simp cast_int in
        let whole : new.now.trees 15 ≡ put_row new_row (without_rowid at.0 (db 15)) = did.3 ∙ ap (λ rs. edited db (edit_of db (record profiles { tree = 15 }) (ids_of rs) Given 1 rs)) one ∙ edit in
        let are = ap cells whole ∙ in_place (passes is_key chosen_params) of_key (blind_key chosen_params) fresh at.0 (profile_row customer number before) (db 15) is.rise at.1 in
        let shaped = subst (IsShaped Rising) (sym whole) (IsShaped-put_row new_row (without_rowid at.0 (db 15)) refl (IsShaped-filter Rising _ (db 15) is.rise)) in
        let here : renewed of_key fresh (profile_rows customer number (t.profiles customer number)) ≡ profile_rows customer number (option_map (choosing chosen) (t.profiles customer number)) =
        ap (λ o. renewed of_key fresh (profile_rows customer number o)) was ∙ rw own (sym (ap (λ o. profile_rows customer number (option_map (choosing chosen) o)) was)) in
        let turned = by_job customer number (option_map (choosing chosen) (t.profiles customer number)) t.profiles (λ c n o. renewed of_key fresh (profile_rows c n (t.profiles c n)) ≡ profile_rows c n o) here (λ c n other. other_profile fresh c n other (t.profiles c n)) in
        set _ (renews customer number (drop 2 fresh) of_key keyed (db 15) (new.now.trees 15) (λ c n. profile_rows c n (t.profiles c n)) _ is are shaped turned)

    pub chosen_set : Holds new.now (with_chosen customer number chosen t)
    chosen_set = go (t.profiles customer number) refl
      where
        go : (o : Option ProfileRow) → t.profiles customer number ≡ o → Holds new.now (with_chosen customer number chosen t)
        go (Some before) was = one_set before was
        go None was = none_set was
