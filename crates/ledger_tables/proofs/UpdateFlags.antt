-- What the UPDATE of a job's flags does.
use Rattle.std.proofs.Common.{◌≡◌, ◌≢◌, Option, ℕ, pos, List, [], ◌∷◌, drop, filter, map, Bool, true, false, if◌then◌else◌, Some, None, Ok, refl, sym, ap, subst, ◌∙◌, true≢false}
use Rattle.std.specs.List.{AllByRecursion}
use Rattle.std.specs.Option.{option_to_list}
use Rattle.std.specs.List.Sorted.{IsPermutation}
use Rattle.sqlite.specs.declared.types.Value.TheVariants.{Null, Int, Text}
use Rattle.sqlite.specs.Order.{Row}
use Rattle.sqlite.specs.Tree.{put_row, without_rowid}
use Rattle.sqlite.specs.View.{IsShaped}
use Rattle.sqlite.specs.Rowids.TheVariants.{Given}
use Rattle.sqlite.specs.Edit.{edit_of, edited}
use Rattle.sqlite.specs.Effect.{IsDatabase, Answers}
use Rattle.sqlite.specs.State.{State, Executes}
use Rattle.sqlite.proofs.Callers.{one_permutation}
use Rattle.sqlite_rules.specs.Calls.{ids_of}
use Rattle.sqlite_trees.specs.declared.store.Shape.TheVariants.{Table as Rising}
use Rattle.sqlite_trees.proofs.TreeLemmas.{IsShaped-put_row, IsShaped-filter}
use Rattle.ledger_tables.specs.Schema.{bureau_schema, jobs}
use Rattle.ledger_tables.specs.Tables.{NamedJob, AreDistinct, Tables, Holds, flagged, with_flags, NamesJob, cells, is_job, job_named, job_row}
use Rattle.ledger_tables.proofs.InsertStatement.{cast_int}
use Rattle.ledger_tables.proofs.InsertLast.{still, still_each, still_profiles}
use Rattle.ledger_tables.proofs.LookupStatement.{passes, show, plain_query, plain_answer}
use Rattle.ledger_tables.proofs.LookupKeys.{key_passes, kept_cells, each_test, jobs_named, rows_of_jobs, found_once, at_most_one}
use Rattle.ledger_tables.proofs.UpdateRows.{renewed, in_place}
use Rattle.ledger_tables.proofs.ReadTexts.{is_key, update_flags, update_flags_is, flag_terms}
use Rattle.ledger_tables.proofs.UpdateStatements.{updates, idle_here, on_cells, spot, blind_key}

-- ---- the job that passes is the only one

pub no_other : {X : Type 0} (p : X → Bool) (it : X) (xs : List X) → filter p xs ≡ [] → AllByRecursion (λ x. p x ≡ true → x ≡ it) xs
no_other p it [] none = tt
no_other p it (x ∷ xs) none = go (p x) refl (no_other p it xs)
  where
    go : (b : Bool) → p x ≡ b → (filter p xs ≡ [] → AllByRecursion (λ x. p x ≡ true → x ≡ it) xs) → AllByRecursion (λ x. p x ≡ true → x ≡ it) (x ∷ xs)
    go true this rest = absurd (let e = rw this at none in cc)
    go false this rest = (λ h. absurd (true≢false (sym h ∙ this)), rest (rw this at none))

pub the_only : {X : Type 0} (p : X → Bool) (it : X) (xs : List X) → filter p xs ≡ it ∷ [] → AllByRecursion (λ x. p x ≡ true → x ≡ it) xs
the_only p it [] one = tt
the_only p it (x ∷ xs) one = go (p x) refl (the_only p it xs)
  where
    go : (b : Bool) → p x ≡ b → (filter p xs ≡ it ∷ [] → AllByRecursion (λ x. p x ≡ true → x ≡ it) xs) → AllByRecursion (λ x. p x ≡ true → x ≡ it) (x ∷ xs)
    go true this rest =
        let whole : x ∷ filter p xs ≡ it ∷ [] = rw this at one in
        let none : filter p xs ≡ [] = cc in
        let same : x ≡ it = cc in
        (λ h. same, no_other p it xs none)
    go false this rest = (λ h. absurd (true≢false (sym h ∙ this)), rest (rw this at one))

no_rows : (rows : List Row) → cells rows ≡ [] → rows ≡ []
no_rows [] h = refl
no_rows (r ∷ rows) h = absurd (let e = h in cc)

module _ (customer : List ℕ) (number held collected : ℕ) where
  abbrev turned : NamedJob → NamedJob
  turned job = if is_job customer number job then flagged held collected job else job

  unturned : (jobs : List NamedJob) → filter (is_job customer number) jobs ≡ [] → map turned jobs ≡ jobs
  unturned [] none = refl
  unturned (job ∷ jobs) none = go (is_job customer number job) refl (unturned jobs)
    where
      go : (b : Bool) → is_job customer number job ≡ b → (filter (is_job customer number) jobs ≡ [] → map turned jobs ≡ jobs) → map turned (job ∷ jobs) ≡ job ∷ jobs
      go true this rest = absurd (let e = rw this at none in cc)
      go false this rest = rw this (ap (λ js. job ∷ js) (rest (rw this at none)))

  -- the row in the place of that job's is the job's with other flags
  renewed_jobs : (test : Row → Bool) → ((job : NamedJob) → test (job_row job) ≡ is_job customer number job) → (it : NamedJob) (jobs : List NamedJob) → AllByRecursion (λ job. is_job customer number job ≡ true → job ≡ it) jobs
      → renewed test (job_row (flagged held collected it)) (map job_row jobs) ≡ map job_row (map turned jobs)
  renewed_jobs test same it [] all = refl
  renewed_jobs test same it (job ∷ jobs) all = go (is_job customer number job) refl (renewed_jobs test same it jobs all.1)
    where
      go : (b : Bool) → is_job customer number job ≡ b → renewed test (job_row (flagged held collected it)) (map job_row jobs) ≡ map job_row (map turned jobs)
          → renewed test (job_row (flagged held collected it)) (map job_row (job ∷ jobs)) ≡ map job_row (map turned (job ∷ jobs))
      go true this rest = let is : job ≡ it = all.0 this in rw (same job, this) (ap (λ (j : NamedJob). job_row (flagged held collected j) ∷ renewed test (job_row (flagged held collected it)) (map job_row jobs)) (sym is) ∙ ap (λ rs. job_row (flagged held collected job) ∷ rs) rest)
      go false this rest = rw (same job, this) (ap (λ rs. job_row job ∷ rs) rest)

  -- flags are no part of a name
  apart : (a : NamedJob) (jobs : List NamedJob) → AllByRecursion (λ b. is_job a.customer a.number b ≡ false) jobs → AllByRecursion (λ b. is_job a.customer a.number b ≡ false) (map turned jobs)
  apart a [] all = tt
  apart a (job ∷ jobs) all = (elim (is_job customer number job) as (λ b. is_job a.customer a.number (if b then flagged held collected job else job) ≡ false) [ true ↦ all.0 | false ↦ all.0 ], apart a jobs all.1)

  still_distinct : (jobs : List NamedJob) → AreDistinct jobs → AreDistinct (map turned jobs)
  still_distinct [] distinct = tt
  still_distinct (job ∷ jobs) distinct =
      let rest = apart job jobs distinct.0 in (
        elim (is_job customer number job) as (λ b. AllByRecursion (λ c. is_job (if b then flagged held collected job else job).customer (if b then flagged held collected job else job).number c ≡ false) (map turned jobs)) [ true ↦ rest | false ↦ rest ],
        still_distinct jobs distinct.1,
      )

  abbrev flag_params : Row
  flag_params = Text customer ∷ Int (pos number) ∷ Int (pos held) ∷ Int (pos collected) ∷ []

  abbrev of_key : Row → Bool
  of_key = on_cells is_key flag_params

  job_passes : (job : NamedJob) → of_key (job_row job) ≡ is_job customer number job
  job_passes job = key_passes Null job.customer job.number (drop 2 (job_row job)) customer number (drop 2 flag_params)

  -- what is not of the jobs' table stays
  others_stay : (old new : State) (t : Tables) → Holds old.now t → new.now.schema ≡ bureau_schema → AllByRecursion (λ s. s.tree ≢ 1 → new.now.trees s.tree ≡ old.now.trees s.tree) bureau_schema.tables → IsDatabase new.now
      → cells (new.now.trees 1) ≡ map job_row (map turned t.jobs) → IsShaped Rising (new.now.trees 1) → Holds new.now (with_flags customer number held collected t)
  others_stay old new t holds schema others sound are rise = record {
    schema = schema;
    sound = sound;
    version = others.0 (λ e. cc) ∙ holds.version;
    shared = record {
      jobs = are;
      jobs_rise = rise;
      distinct = still_distinct t.jobs holds.shared.distinct;
      stretches = still (others.1.1.0 (λ e. cc)) holds.shared.stretches;
      cards = still (others.1.1.1.0 (λ e. cc)) holds.shared.cards;
      lines = still (others.1.1.1.1.0 (λ e. cc)) holds.shared.lines;
    };
    states = still (others.1.1.1.1.1.0 (λ e. cc)) holds.states;
    pages = still_each (others.1.1.1.1.1.1.0 (λ e. cc)) holds.pages;
    beside = still_profiles holds.beside (others.1.1.1.1.1.1.1.0 (λ e. cc)) (others.1.1.1.1.1.1.1.1.0 (λ e. cc));
  }

  module _ (old new : State) (count : ℕ) (h : Executes update_flags flag_params old new (Ok count)) (t : Tables) (holds : Holds old.now t) where
    did : (rows : List Row) × Answers (record { schema = bureau_schema; trees = old.now.trees }) (record { lets = []; body = plain_query 1 is_key flag_terms }) flag_params rows
        × (new.now.schema ≡ bureau_schema) × (new.now.trees 1 ≡ edited old.now.trees (edit_of old.now.trees (record jobs { tree = 1 }) (ids_of rows) Given 1 rows))
        × AllByRecursion (λ s. s.tree ≢ 1 → new.now.trees s.tree ≡ old.now.trees s.tree) bureau_schema.tables × IsDatabase new.now
    did = updates bureau_schema update_flags 1 (record jobs { tree = 1 }) is_key flag_terms update_flags_is refl (idle_here 1) old new flag_params count holds.schema h

    named : AllByRecursion NamesJob (cells (old.now.trees 1))
    named = subst (AllByRecursion NamesJob) (sym holds.shared.jobs) (jobs_named t.jobs)

    rows_here : filter of_key (cells (old.now.trees 1)) ≡ map job_row (filter (is_job customer number) t.jobs)
    rows_here = ap (filter of_key) holds.shared.jobs ∙ rows_of_jobs of_key (is_job customer number) job_passes t.jobs

    no_job_set : job_named customer number t.jobs ≡ None → Holds new.now (with_flags customer number held collected t)
    no_job_set was =
        let db = old.now.trees in
        let none : filter (is_job customer number) t.jobs ≡ [] = found_once customer number t.jobs holds.shared.distinct ∙ ap option_to_list was in
        let kept : cells (filter (passes is_key flag_params) (db 1)) ≡ [] =
        kept_cells (passes is_key flag_params) of_key (db 1) (each_test NamesJob (passes is_key flag_params) of_key (λ r h. blind_key flag_params r) (db 1) named) ∙ rows_here ∙ ap (map job_row) none in
        let some = plain_answer 1 is_key flag_terms flag_params db did.0 refl did.1.answer in
        let nothing : did.0 ≡ [] = at_most_one job_row None did.0 (subst (λ rs. IsPermutation (map (show flag_terms flag_params) rs) did.0) (no_rows (filter (passes is_key flag_params) (db 1)) kept) some) in
        let same : new.now.trees 1 ≡ db 1 = did.3 ∙ ap (λ rs. edited db (edit_of db (record jobs { tree = 1 }) (ids_of rs) Given 1 rs)) nothing in
        others_stay old new t holds did.2 did.4 did.5 (ap cells same ∙ holds.shared.jobs ∙ ap (map job_row) (sym (unturned t.jobs none))) (subst (IsShaped Rising) (sym same) holds.shared.jobs_rise)

    job_set : (job : NamedJob) → job_named customer number t.jobs ≡ Some job → Holds new.now (with_flags customer number held collected t)
    job_set job was =
        let db = old.now.trees in
        let once : filter (is_job customer number) t.jobs ≡ job ∷ [] = found_once customer number t.jobs holds.shared.distinct ∙ ap option_to_list was in
        let at = spot is_key flag_params (blind_key flag_params) (db 1) (job_row job) named holds.shared.jobs_rise (rows_here ∙ ap (map job_row) once) in
        let fresh = job_row (flagged held collected job) in
        let shown : Row = Int at.0 ∷ Int at.0 ∷ fresh in
        let some = plain_answer 1 is_key flag_terms flag_params db did.0 refl did.1.answer in
        let one : did.0 ≡ shown ∷ [] = one_permutation shown did.0 (subst (λ rs. IsPermutation (map (show flag_terms flag_params) rs) did.0) at.1 some) in
        let new_row : Row = Int at.0 ∷ fresh in
        let edit : edited db (edit_of db (record jobs { tree = 1 }) (ids_of (shown ∷ [])) Given 1 (shown ∷ [])) ≡ put_row new_row (without_rowid at.0 (db 1)) =
        rw (cast_int at.0, cast_int (pos job.number), cast_int (pos job.cells.kind), cast_int (pos job.cells.size), cast_int (pos held), cast_int (pos collected)) in
        let whole : new.now.trees 1 ≡ put_row new_row (without_rowid at.0 (db 1)) = did.3 ∙ ap (λ rs. edited db (edit_of db (record jobs { tree = 1 }) (ids_of rs) Given 1 rs)) one ∙ edit in
        let are = ap cells whole ∙ in_place (passes is_key flag_params) of_key (blind_key flag_params) fresh at.0 (job_row job) (db 1) holds.shared.jobs_rise at.1 in
        others_stay old new t holds did.2 did.4 did.5
        (are ∙ ap (renewed of_key fresh) holds.shared.jobs ∙ renewed_jobs of_key job_passes job t.jobs (the_only (is_job customer number) job t.jobs once))
        (subst (IsShaped Rising) (sym whole) (IsShaped-put_row new_row (without_rowid at.0 (db 1)) refl (IsShaped-filter Rising _ (db 1) holds.shared.jobs_rise)))

    pub flags_set : Holds new.now (with_flags customer number held collected t)
    flags_set = go (job_named customer number t.jobs) refl
      where
        go : (o : Option NamedJob) → job_named customer number t.jobs ≡ o → Holds new.now (with_flags customer number held collected t)
        go (Some job) was = job_set job was
        go None was = no_job_set was
