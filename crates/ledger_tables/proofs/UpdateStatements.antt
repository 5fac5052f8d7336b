-- What each UPDATE does.
use Rattle.std.proofs.Common.{◌≡◌, ◌≢◌, ◌+◌, ℕ, zero, suc, ℤ, pos, List, [], ◌∷◌, ◌++◌, drop, filter, length, slice_get, Bool, true, false, ◌&&◌, ◌==◌, bytes_eq, Option, Some, None, IsSome, Ok, refl, sym, ap, subst, ◌∙◌, true≢false, arith, map}
use Rattle.std.specs.List.{AllByRecursion}
use Rattle.std.specs.List.Sorted.{IsPermutation}
use Rattle.std.proofs.lemmas.Bool.Decides.{nat_tests}
use Rattle.std.proofs.lemmas.Slice.Eq.{bytes_eq-Decides}
use Rattle.sqlite.specs.declared.types.Value.TheVariants.{Null, Int, Text}
use Rattle.sqlite.specs.Order.{Row}
use Rattle.sqlite.specs.Term.{Term}
use Rattle.sqlite.specs.Tree.{Trees, put_row, without_rowid}
use Rattle.sqlite.specs.View.{IsShaped}
use Rattle.sqlite.specs.Schema.{Schema}
use Rattle.sqlite.specs.Table.{Table}
use Rattle.sqlite.specs.Rowids.TheVariants.{Given}
use Rattle.sqlite.specs.Edit.{Edit, edit_of, edited, taken_by}
use Rattle.sqlite.specs.Command.TheVariants.{Update}
use Rattle.sqlite.specs.Does.{Tally, Does, OnRows}
use Rattle.sqlite.specs.Rows.{Written, Task}
use Rattle.sqlite.specs.Effect.{Database, IsDatabase, Answers}
use Rattle.sqlite.specs.State.{State, mode_of, Executes}
use Rattle.sqlite.specs.Listing.{understood}
use Rattle.sqlite.proofs.Callers.{statement_of, runs_as, one_step, one_permutation}
use Rattle.sqlite_schema.specs.declared.schema.Keys.TheVariants.{Enforced}
use Rattle.sqlite_rules.specs.Action.{deed_for, works}
use Rattle.sqlite_rules.specs.Calls.{ids_of}
use Rattle.sqlite_trees.specs.declared.store.Shape.TheVariants.{Table as Rising}
use Rattle.sqlite_trees.proofs.TreeLemmas.{IsShaped-put_row, IsShaped-filter}
use Rattle.ledger_tables.specs.Named.{granted_last}
use Rattle.ledger_tables.specs.Schema.{bureau_schema, to_job, stretches, states}
use Rattle.ledger_tables.specs.Tables.{Beside, Tables, Holds, NamesJob, cells, placed, is_row_of, schema_beside, stretch_row, state_row, state_rows, with_stretches, with_state, pictured, paged, profiled, complete}
use Rattle.ledger_tables.specs.declared.rows.StateRow.{StateRow}
use Rattle.ledger_tables.specs.declared.rows.StretchRow.{StretchRow}
use Rattle.ledger_tables.proofs.InsertLast.{still, still_each, still_profiles, still_shared, shared_with}
use Rattle.ledger_tables.proofs.InsertStatement.{Means, apart, went, same_value, cast_int}
use Rattle.ledger_tables.proofs.LookupStatement.{passes, show, plain_query, plain_answer}
use Rattle.ledger_tables.proofs.ReadTexts.{is_key, is_place, update_granted, update_granted_is, granted_terms, update_state, update_state_is, new_state_terms}
use Rattle.ledger_tables.proofs.LookupKeys.{key_passes, key_test, place_passes, place_needs, kept_cells, each_test}
use Rattle.ledger_tables.proofs.UpdateRows.{renewed, in_place, only_row, within, all_within, renews, key_yes, by_job, none_placed, last_found, last_renewed}

-- no reference has an action, to a job or to a card, so none is carried out
no_deed : (deletes : Bool) → deed_for Enforced deletes to_job ≡ None
no_deed true = refl
no_deed false = refl

pub idle_beside : (there : Beside) (tree : ℕ) (olds news : List Row) → works (schema_beside there) Enforced 0 tree olds news ≡ []
idle_beside (pictured storages) tree olds news = rw (no_deed (length news == 0))
idle_beside paged tree olds news = rw (no_deed (length news == 0))
idle_beside profiled tree olds news = rw (no_deed (length news == 0))
idle_beside complete tree olds news = rw (no_deed (length news == 0))

pub idle_here : (tree : ℕ) (olds news : List Row) → works bureau_schema Enforced 0 tree olds news ≡ []
idle_here = idle_beside complete

module _ (schema : Schema) (sql : List ℕ) (at : ℕ) (table : Table) (tests terms : List Term) (is : Means schema sql (Update at (record { lets = []; body = plain_query table.tree tests terms })))
    (place : slice_get schema.tables at ≡ Some table) (idle : (olds news : List Row) → works schema Enforced 0 table.tree olds news ≡ []) where
  -- the rows that the statement finds are taken out, and put in as it shows them
  pub updates : (old new : State) (params : Row) (count : ℕ) → old.now.schema ≡ schema → Executes sql params old new (Ok count)
      → (rows : List Row) × Answers (record { schema = schema; trees = old.now.trees }) (record { lets = []; body = plain_query table.tree tests terms }) params rows
      × (new.now.schema ≡ schema) × (new.now.trees table.tree ≡ edited old.now.trees (edit_of old.now.trees table (ids_of rows) Given 1 rows))
      × AllByRecursion (λ t. t.tree ≢ table.tree → new.now.trees t.tree ≡ old.now.trees t.tree) schema.tables × IsDatabase new.now
  updates old new params count has h =
      let db = old.now.trees in
      let command = Update at (record { lets = []; body = plain_query table.tree tests terms }) in
      let w = runs_as sql params old new schema has command is.0 is.1 count h in
      let text = statement_of sql (understood schema sql) in
      let task : Task = record { limit = old.step_limit; keys = (mode_of old).keys; schema = schema; table = table; params = params } in
      let whole = subst (λ s. Does old.step_limit (mode_of old) params (record old.now { schema = s }) text None command (Ok (w.tally, new.now))) has w.changed in
      let here : OnRows task (mode_of old) None command db (Ok (w.tally, new.now)) = rw place at whole in
      let done = went here in
      let now = ap (λ (p : Tally × Database). p.1) (same_value (went (went done.2).2).2) in
      let given = went done.1 in
      let written = went given.2 in
      let trees : done.0.trees ≡ written.0 = ap (λ (it : Written). it.trees) (same_value written.2) in
      let step : Edit = edit_of db table (ids_of given.0) Given 1 given.0 in
      let does = one_step schema Enforced db written.0 step (idle (taken_by db step) step.news) written.1 in
      let same = ap (λ (d : Database). d.trees) now ∙ trees in (
        given.0,
        given.1,
        ap (λ (d : Database). d.schema) now,
        ap (λ (t : Trees). t table.tree) same ∙ does.rows,
        subst (λ (next : Trees). AllByRecursion (λ t. t.tree ≢ table.tree → next t.tree ≡ db t.tree) schema.tables) (sym same) does.tables,
        w.sound,
      )

-- a test of rows that does not look at the rowid
abbrev pub on_cells : List Term → Row → Row → Bool
on_cells tests params row = passes tests params (Null ∷ row)

-- where one row alone passes
pub spot : (tests : List Term) (params : Row) → ((r : Row) → passes tests params r ≡ on_cells tests params (drop 1 r)) → (rows : List Row) (old : Row) → AllByRecursion NamesJob (cells rows) → IsShaped Rising rows
    → filter (on_cells tests params) (cells rows) ≡ old ∷ [] → (id : ℤ) × (filter (passes tests params) rows ≡ (Int id ∷ old) ∷ [])
spot tests params blind rows old named shaped found =
    only_row (filter (passes tests params) rows) old (IsShaped-filter Rising (passes tests params) rows shaped)
    (kept_cells (passes tests params) (on_cells tests params) rows (each_test NamesJob (passes tests params) (on_cells tests params) (λ r h. blind r) rows named) ∙ found)

own_key : (customer : List ℕ) (number : ℕ) → (bytes_eq customer customer && (number == number)) ≡ true
own_key customer number = key_yes customer number customer number refl refl

-- ---- the state of a job

pub some_one : {X : Type 0} (o : Option X) → IsSome o → (x : X) × (o ≡ Some x)
some_one None some = absurd (let e = some in cc)
some_one (Some x) some = (x, refl)

pub blind_key : (params r : Row) → passes is_key params r ≡ on_cells is_key params (drop 1 r)
blind_key params [] = refl
blind_key params (x ∷ r) = refl

module _ (customer : List ℕ) (number : ℕ) (p : StateRow) where
  abbrev state_params : Row
  state_params = state_row customer number p

  abbrev of_key : Row → Bool
  of_key = on_cells is_key state_params

  keyed : (row : Row) → NamesJob row → of_key row ≡ true → is_row_of customer number row ≡ true
  keyed row named h = sym (key_test customer number (drop 2 state_params) (Null ∷ row) named) ∙ h

  state_passes : (c : List ℕ) (n : ℕ) (q : StateRow) → of_key (state_row c n q) ≡ (bytes_eq c customer && (n == number))
  state_passes c n q = key_passes Null c n (drop 2 (state_row c n q)) customer number (drop 2 state_params)

  other_state : (c : List ℕ) (n : ℕ) → (bytes_eq c customer && (n == number)) ≡ false → (o : Option StateRow) → renewed of_key state_params (state_rows c n o) ≡ state_rows c n o
  other_state c n other None = refl
  other_state c n other (Some q) = let none = state_passes c n q ∙ other in rw none

  state_set : (old new : State) (count : ℕ) → Executes update_state state_params old new (Ok count) → (t : Tables) → Holds old.now t → (before : StateRow) → t.states customer number ≡ Some before
      → Holds new.now (with_state customer number p t)
  state_set old new count h t holds before was =
      let did = updates bureau_schema update_state 5 (record states { tree = 11 }) is_key new_state_terms update_state_is refl (idle_here 11) old new state_params count holds.schema h in
      let db = old.now.trees in
      let own : of_key (state_row customer number before) ≡ true = state_passes customer number before ∙ own_key customer number in
      let found : filter of_key (cells (db 11)) ≡ state_row customer number before ∷ [] =
      within of_key (is_row_of customer number) (cells (db 11)) (all_within customer number (drop 2 state_params) of_key keyed (cells (db 11)) holds.states.named)
      ∙ ap (filter of_key) (holds.states.each customer number ∙ ap (state_rows customer number) was) ∙ rw own in
      let at = spot is_key state_params (blind_key state_params) (db 11) (state_row customer number before) holds.states.named holds.states.rise found in
      let shown : Row = Int at.0 ∷ Int at.0 ∷ state_params in
      let some = plain_answer 11 is_key new_state_terms state_params db did.0 refl did.1.answer in
      let one : did.0 ≡ shown ∷ [] = one_permutation shown did.0 (subst (λ rs. IsPermutation (map (show new_state_terms state_params) rs) did.0) at.1 some) in
      let new_row : Row = Int at.0 ∷ state_params in
      let edit : edited db (edit_of db (record states { tree = 11 }) (ids_of (shown ∷ [])) Given 1 (shown ∷ [])) ≡ put_row new_row (without_rowid at.0 (db 11)) =
      simp cast_int in
      let whole : new.now.trees 11 ≡ put_row new_row (without_rowid at.0 (db 11)) = did.3 ∙ ap (λ rs. edited db (edit_of db (record states { tree = 11 }) (ids_of rs) Given 1 rs)) one ∙ edit in
      let are = ap cells whole ∙ in_place (passes is_key state_params) of_key (blind_key state_params) state_params at.0 (state_row customer number before) (db 11) holds.states.rise at.1 in
      let shaped = subst (IsShaped Rising) (sym whole) (IsShaped-put_row new_row (without_rowid at.0 (db 11)) refl (IsShaped-filter Rising _ (db 11) holds.states.rise)) in
      let here : renewed of_key state_params (state_rows customer number (t.states customer number)) ≡ state_params ∷ [] = ap (λ o. renewed of_key state_params (state_rows customer number o)) was ∙ rw own in
      let turned = by_job customer number (Some p) t.states (λ c n o. renewed of_key state_params (state_rows c n (t.states c n)) ≡ state_rows c n o) here (λ c n other. other_state c n other (t.states c n)) in
      let others = did.4 in
      record {
        schema = did.2;
        sound = did.5;
        version = others.0 (apart refl) ∙ holds.version;
        shared = shared_with _ _ _ _ (still_shared holds.shared (others.1.0 (apart refl)) (others.1.1.0 (apart refl)) (others.1.1.1.0 (apart refl)) (others.1.1.1.1.0 (apart refl)));
        states = renews customer number (drop 2 state_params) of_key keyed (db 11) (new.now.trees 11) (λ c n. state_rows c n (t.states c n)) (λ c n. state_rows c n ((with_state customer number p t).states c n)) holds.states are shaped turned;
        pages = still_each (others.1.1.1.1.1.1.0 (apart refl)) holds.pages;
        beside = still_profiles holds.beside (others.1.1.1.1.1.1.1.0 (apart refl)) (others.1.1.1.1.1.1.1.1.0 (apart refl));
      }

  pub state_in_place : (old new : State) (count : ℕ) → Executes update_state state_params old new (Ok count) → (t : Tables) → Holds old.now t → IsSome (t.states customer number)
      → Holds new.now (with_state customer number p t)
  state_in_place old new count h t holds some = let it = some_one (t.states customer number) some in state_set old new count h t holds it.0 it.1

-- ---- what is granted in a stretch

-- a last stretch, after others
last_of : (granted : ℕ) (xs : List StretchRow) (place : ℕ) → length xs ≡ place + 1
    → (before : List StretchRow) × (last : StretchRow) × (xs ≡ before ++ last ∷ []) × (place ≡ length before) × (granted_last granted xs ≡ before ++ (record last { granted = granted }) ∷ [])
last_of granted [] place long = absurd (omega (arith, long))
last_of granted (s ∷ []) place long = ([], s, refl, omega (arith, long), refl)
last_of granted (s ∷ t ∷ rest) zero long = absurd (omega (arith, long))
last_of granted (s ∷ t ∷ rest) (suc place) long =
    let more = last_of granted (t ∷ rest) place (omega (arith, long)) in
    (s ∷ more.0, more.1, ap (λ xs. s ∷ xs) more.2, omega (arith, more.3), ap (λ xs. s ∷ xs) more.4)

pub blind_place : (params r : Row) → passes is_place params r ≡ on_cells is_place params (drop 1 r)
blind_place params [] = refl
blind_place params (x ∷ r) = refl

module _ (customer : List ℕ) (number place granted : ℕ) where
  abbrev stretch_params : Row
  stretch_params = Text customer ∷ Int (pos number) ∷ Int (pos place) ∷ Int (pos granted) ∷ []

  abbrev of_place : Row → Bool
  of_place = on_cells is_place stretch_params

  keyed_too : (row : Row) → NamesJob row → of_place row ≡ true → is_row_of customer number row ≡ true
  keyed_too row named h = sym (key_test customer number (drop 2 stretch_params) (Null ∷ row) named) ∙ place_needs stretch_params (Null ∷ row) h

  stretch_passes : (c : List ℕ) (n k : ℕ) (s : StretchRow) → of_place (stretch_row c n k s) ≡ (bytes_eq c customer && ((n == number) && (k == place)))
  stretch_passes c n k s = place_passes Null c n k (drop 3 (stretch_row c n k s)) customer number place (Int (pos granted) ∷ [])

  own_place : (k : ℕ) (s : StretchRow) → of_place (stretch_row customer number k s) ≡ (k == place)
  own_place k s =
      let name : bytes_eq customer customer ≡ true = (bytes_eq-Decides customer customer).1 refl in
      let same : number == number ≡ true = grind (arith, nat_tests) in
      stretch_passes customer number k s ∙ rw (name, same)

  none_of : (a b c : Bool) → (a && b) ≡ false → (a && (b && c)) ≡ false
  none_of true true c h = absurd (true≢false h)
  none_of true false c h = refl
  none_of false b c h = refl

  other_place : (c : List ℕ) (n : ℕ) → (bytes_eq c customer && (n == number)) ≡ false → (k : ℕ) (s : StretchRow) → of_place (stretch_row c n k s) ≡ false
  other_place c n other k s = stretch_passes c n k s ∙ none_of (bytes_eq c customer) (n == number) (k == place) other

  granted_set : (old new : State) (count : ℕ) → Executes update_granted stretch_params old new (Ok count) → (t : Tables) → Holds old.now t → (before : List StretchRow) (last : StretchRow) → t.stretches customer number ≡ before ++ last ∷ [] → place ≡ length before
      → Holds new.now (with_stretches customer number (before ++ (record last { granted = granted }) ∷ []) t)
  granted_set old new count h t holds before last was at_end =
      let did = updates bureau_schema update_granted 2 (record stretches { tree = 3 }) is_place granted_terms update_granted_is refl (idle_here 3) old new stretch_params count holds.schema h in
      let db = old.now.trees in
      let next = record last { granted = granted } in
      let from_zero : place ≡ 0 + length before = omega (arith, at_end) in
      let found : filter of_place (cells (db 3)) ≡ stretch_row customer number place last ∷ [] =
      within of_place (is_row_of customer number) (cells (db 3)) (all_within customer number (drop 2 stretch_params) of_place keyed_too (cells (db 3)) holds.shared.stretches.named)
      ∙ ap (filter of_place) (holds.shared.stretches.each customer number ∙ ap (placed (stretch_row customer number) 0) was) ∙ last_found (stretch_row customer number) of_place place own_place 0 before last from_zero in
      let at = spot is_place stretch_params (blind_place stretch_params) (db 3) (stretch_row customer number place last) holds.shared.stretches.named holds.shared.stretches.rise found in
      let fresh = stretch_row customer number place next in
      let shown : Row = Int at.0 ∷ Int at.0 ∷ fresh in
      let some = plain_answer 3 is_place granted_terms stretch_params db did.0 refl did.1.answer in
      let one : did.0 ≡ shown ∷ [] = one_permutation shown did.0 (subst (λ rs. IsPermutation (map (show granted_terms stretch_params) rs) did.0) at.1 some) in
      let new_row : Row = Int at.0 ∷ fresh in
      let edit : edited db (edit_of db (record stretches { tree = 3 }) (ids_of (shown ∷ [])) Given 1 (shown ∷ [])) ≡ put_row new_row (without_rowid at.0 (db 3)) =
      simp cast_int in
      let whole : new.now.trees 3 ≡ put_row new_row (without_rowid at.0 (db 3)) = did.3 ∙ ap (λ rs. edited db (edit_of db (record stretches { tree = 3 }) (ids_of rs) Given 1 rs)) one ∙ edit in
      let are = ap cells whole ∙ in_place (passes is_place stretch_params) of_place (blind_place stretch_params) fresh at.0 (stretch_row customer number place last) (db 3) holds.shared.stretches.rise at.1 in
      let shaped = subst (IsShaped Rising) (sym whole) (IsShaped-put_row new_row (without_rowid at.0 (db 3)) refl (IsShaped-filter Rising _ (db 3) holds.shared.stretches.rise)) in
      let here : renewed of_place fresh (placed (stretch_row customer number) 0 (t.stretches customer number)) ≡ placed (stretch_row customer number) 0 (before ++ next ∷ []) =
      ap (λ xs. renewed of_place fresh (placed (stretch_row customer number) 0 xs)) was ∙ last_renewed (stretch_row customer number) of_place place own_place 0 before last next from_zero in
      let turned = by_job customer number (before ++ next ∷ []) t.stretches (λ c n xs. renewed of_place fresh (placed (stretch_row c n) 0 (t.stretches c n)) ≡ placed (stretch_row c n) 0 xs) here
      (λ c n other. none_placed (stretch_row c n) of_place fresh (other_place c n other) 0 (t.stretches c n)) in
      let others = did.4 in
      record {
        schema = did.2;
        sound = did.5;
        version = others.0 (apart refl) ∙ holds.version;
        shared = record {
          jobs = ap cells (others.1.0 (apart refl)) ∙ holds.shared.jobs;
          jobs_rise = subst (IsShaped Rising) (sym (others.1.0 (apart refl))) holds.shared.jobs_rise;
          distinct = holds.shared.distinct;
          stretches = renews customer number (drop 2 fresh) of_place keyed_too (db 3) (new.now.trees 3) (λ c n. placed (stretch_row c n) 0 (t.stretches c n)) (λ c n. placed (stretch_row c n) 0 ((with_stretches customer number (before ++ next ∷ []) t).stretches c n)) holds.shared.stretches are shaped turned;
          cards = still (others.1.1.1.0 (apart refl)) holds.shared.cards;
          lines = still (others.1.1.1.1.0 (apart refl)) holds.shared.lines;
        };
        states = still (others.1.1.1.1.1.0 (apart refl)) holds.states;
        pages = still_each (others.1.1.1.1.1.1.0 (apart refl)) holds.pages;
        beside = still_profiles holds.beside (others.1.1.1.1.1.1.1.0 (apart refl)) (others.1.1.1.1.1.1.1.1.0 (apart refl));
      }

  pub granted_in_last : (old new : State) (count : ℕ) → Executes update_granted stretch_params old new (Ok count) → (t : Tables) → Holds old.now t → length (t.stretches customer number) ≡ place + 1
      → Holds new.now (with_stretches customer number (granted_last granted (t.stretches customer number)) t)
  granted_in_last old new count h t holds long =
      let it = last_of granted (t.stretches customer number) place long in
      subst (λ xs. Holds new.now (with_stretches customer number xs t)) (sym it.4) (granted_set old new count h t holds it.0 it.1 it.2 it.3)
