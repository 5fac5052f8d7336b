-- What an answer about a database means.
use Rattle.std.proofs.Common.{◌≡◌, ◌⊎◌, inl, inr, ℕ, List, [], map, false, true≢false, Option, None, Ok, Err, Result, IsOk, refl, sym, ap, subst, ◌∙◌}
use Rattle.std.specs.List.Sorted.{IsPermutation}
use Rattle.std.proofs.lemmas.Bool.{cases_Bool}
use Rattle.std.proofs.lemmas.List.Sorted.{IsPermutation-sym}
use Rattle.sqlite.specs.declared.types.Value.{Value}
use Rattle.sqlite.specs.declared.error.Error.{Error}
use Rattle.sqlite.specs.declared.error.Error.TheVariants.{SqliteFailure, SqlInputError}
use Rattle.sqlite.specs.declared.error.ErrorCode.TheVariants.{OutOfMemory as NoRoom}
use Rattle.sqlite.specs.Command.{Command}
use Rattle.sqlite.specs.Compile.{compiled}
use Rattle.sqlite.specs.Effect.{Database, Reads}
use Rattle.sqlite.specs.Order.{Row, column}
use Rattle.sqlite.specs.Schema.{Schema}
use Rattle.sqlite.specs.Clock.{timed}
use Rattle.sqlite.specs.State.{State, Shown, ShowsRows, FailsToQuery, FailsToShow, IsNotRun, IsTooLate}
use Rattle.sqlite.specs.Listing.{understood, reads_listing, if_select, is_select, listing_schema}
use Rattle.sqlite_tied.specs.Compute.{everything}
use Rattle.sqlite.proofs.Callers.{IsPlain}
use Rattle.sqlite_resolve.specs.declared.compiled.Compiled.{Compiled}
use Rattle.sqlite_resolve.specs.Lowering.{Checked, and_then}
use Rattle.sqlite_schema.specs.declared.command.Returning.{Returning}
use Rattle.ledger_tables.specs.declared.faults.Fault.{Fault}
use Rattle.ledger_tables.specs.declared.faults.Fault.TheVariants as fault
use Rattle.ledger_tables.specs.declared.openings.OpenFault.{OpenFault}
use Rattle.ledger_tables.specs.declared.openings.OpenFault.TheVariants.{NoMemory, Store, NotABureau, Old}
use Rattle.ledger_tables.specs.Versions.{select_version, versions_in, opening_fault, HasVersions, IsBureaus, ShowsVersions, IsVerdict, IsVerdictOrFault, IsShownAnswer, IsRefusedAs, IsFoundVersion, IsKnown, IsAnswer, as_open_fault}
use Rattle.ledger_tables.proofs.CreateTexts.{Plan, given, with_plan}
use Rattle.ledger_tables.proofs.OpeningVersion.{is_input, fails_without_input, plain_in, refused_to_read, one_left, versions_permuted}

-- ---- the text is a query, under any schema

query_meant : (schema : Schema) → (command : Checked Command)
    × (compiled schema select_version ≡ and_then (and_then (and_then command (λ c. Ok (c, None))) (λ found. Ok ([], found))) (λ plan. Ok (with_plan select_version plan)))
unfolding understood everything
query_meant schema = (_, refl)

abbrev IsQuery : Compiled → Type 0
IsQuery c = (c.returning ≡ None) × (c.formats ≡ [])

abbrev compiles : Checked Command → Checked Compiled
compiles command = and_then (and_then (and_then command (λ c. Ok (c, None))) (λ found. Ok ([], found))) (λ plan. Ok (with_plan select_version plan))

meant_query : (command : Checked Command) (c : Compiled) → compiles command ≡ Ok c → IsQuery c
meant_query command c h =
    let plan = given (and_then (and_then command (λ c. Ok (c, None))) (λ found. Ok ([], found))) _ c h in
    let found = given (and_then command (λ c. Ok (c, None))) _ plan.0 plan.1 in
    let one = given command _ found.0 found.1 in
    let same : with_plan select_version plan.0 ≡ c = let e = plan.2 in cc in
    let last : ([], found.0) ≡ plan.0 = let e = found.2 in cc in
    let first : (one.0, None) ≡ found.0 = let e = one.2 in cc in
    (sym (ap (λ (k : Compiled). k.returning) same) ∙ sym (ap (λ (p : Plan). p.1.1) last) ∙ sym (ap (λ (p : Command × Option Returning). p.1) first), sym (ap (λ (k : Compiled). k.formats) same) ∙ sym (ap (λ (p : Plan). p.0) last))

compiled_query : (schema : Schema) (c : Compiled) → compiled schema select_version ≡ Ok c → IsQuery c
compiled_query schema c h = let is = query_meant schema in meant_query is.0 c (sym is.1 ∙ h)

chosen_query : (r : Checked Compiled) (c : Compiled) → ((c : Compiled) → r ≡ Ok c → IsQuery c) → if_select r ≡ Ok c → IsQuery c
chosen_query (Ok k) c each h = elim (cases_Bool (is_select k.command)) [
  | inl yes_it ↦ let e = rw yes_it at h in each c e
  | inr not_it ↦ absurd (let no = rw not_it at h in cc)
]
chosen_query (Err e) c each h = absurd (let no = h in cc)

understood_query : (schema : Schema) (c : Compiled) → understood schema select_version ≡ Ok c → IsQuery c
unfolding understood
understood_query schema c h = elim (cases_Bool (reads_listing schema select_version)) [
  | inl listed ↦ chosen_query (compiled listing_schema select_version) c (compiled_query listing_schema) (rw listed at h)
  | inr unlisted ↦ compiled_query schema c (rw unlisted at h)
]

-- ---- what was shown

read_plain : (command : Command) (source : Database) (formats : List (List ℕ)) (now : ℕ) (rows : List Row) → formats ≡ [] → Reads command source (timed [] formats now) rows → Reads command source [] rows
read_plain command source formats now rows none h = subst (λ f. Reads command source (timed [] f now) rows) none h

pub shows_versions : (old new : State) (rows : List Row) → Shown select_version [] old new rows → ShowsVersions old.now (map (λ (r : Row). column r 0) rows)
unfolding Shown
shows_versions old new rows h =
    let query = understood_query old.now.schema h.0 h.1.is in
    let it = subst (ShowsRows old new select_version h.0 (timed [] h.0.formats h.1.now) rows) query.0 h.2 in
    let read = read_plain h.0.command it.0 h.0.formats h.1.now rows query.1 it.2 in
    (h.0, h.1.is, it.0, it.1, rows, read, refl)

-- versions in another order give the same verdict
moved_verdict : {X : Type 0} (r : Result X OpenFault) (shown held : List Value) → IsPermutation held shown → IsVerdict shown r → IsVerdictOrFault held r
moved_verdict (Ok x) shown held same is = one_left _ held (subst (IsPermutation held) is same)
moved_verdict (Err NoMemory) shown held same is = tt
moved_verdict (Err Store) shown held same is = tt
moved_verdict (Err NotABureau) shown held same is = λ n one. is n (one_left _ shown (subst (IsPermutation shown) one (IsPermutation-sym held shown same)))
moved_verdict (Err (Old told)) shown held same is = (one_left _ held (subst (IsPermutation held) is.0 same), is.1, is.2)

pub judged_answer : {X : Type 0} (r : Result X OpenFault) (old new : State) (rows : List Row) → Shown select_version [] old new rows → IsVerdict (map (λ (r : Row). column r 0) rows) r → IsAnswer old.now r
judged_answer r old new rows h is = (inl (_, shows_versions old new rows h, is), λ has. moved_verdict r _ _ (versions_permuted old new rows h has) is)

-- ---- what was refused

plain_ok : (r : _) → IsPlain r → IsOk r
plain_ok (Ok c) plain = refl
plain_ok (Err e) plain = absurd plain

not_asked : (db : Database) (fault : _) → understood db.schema select_version ≡ Err fault → HasVersions db → ⊥
not_asked db fault is has = let no = subst IsOk is has in cc

shows_no_input : (old new : State) (c : Compiled) (params : Row) (e : Error) → FailsToShow old new select_version c params e None → is_input e ≡ false
shows_no_input old new c params e h = refused_to_read old.step_limit c.command h.0 params e h.2

not_run_input : (old new : State) (e : Error) → IsNotRun old new select_version [] e → (HasVersions old.now → ⊥) ⊎ (is_input e ≡ false)
unfolding IsNotRun
not_run_input old new e (inl (inl fault, same)) = inl (not_asked old.now fault.0 fault.1)
not_run_input old new e (inl (inr it, same)) = inr (elim it.2 [ inl many ↦ ap is_input many.1 | inr (inl count) ↦ ap is_input count.1 | inr (inr clock) ↦ ap is_input clock.1 ])
not_run_input old new e (inr h) = inr (fails_without_input old new ⊥ e h)

fails_input : (old new : State) (e : Error) → FailsToQuery select_version [] old new e ⊎ IsTooLate select_version [] old new e → (HasVersions old.now → ⊥) ⊎ (is_input e ≡ false)
unfolding FailsToQuery
fails_input old new e (inl (inl h)) = not_run_input old new e h
fails_input old new e (inl (inr h)) = inr (shows_no_input old new h.0 _ e (subst (FailsToShow old new select_version h.0 (timed [] h.0.formats h.1.now) e) (understood_query old.now.schema h.0 h.1.is).0 h.2))
fails_input old new e (inr h) = inr (ap is_input h.4)

bureau_asked : (db : Database) → IsBureaus db.schema → HasVersions db
bureau_asked db ours = plain_ok _ (plain_in db.schema ours)

unasked_shown : (X : Type 0) (db : Database) (e : Error) → (HasVersions db → ⊥) ⊎ (is_input e ≡ false) → IsShownAnswer {X = X} db (Err (opening_fault e))
unasked_shown X db (SqlInputError fault) (inl none) = inr (λ same. none, λ version old. absurd (let no = old in cc))
unasked_shown X db (SqlInputError fault) (inr h) = absurd (true≢false h)
unasked_shown X db (SqliteFailure NoRoom) h = inr (λ same. absurd (let no = same in cc), λ version old. absurd (let no = old in cc))
unasked_shown X db _ h = inr (λ same. absurd (let no = same in cc), λ version old. absurd (let no = old in cc))

unasked_held : (X : Type 0) (db : Database) (e : Error) → (HasVersions db → ⊥) ⊎ (is_input e ≡ false) → IsBureaus db.schema → IsVerdictOrFault {X = X} (versions_in db) (Err (opening_fault e))
unasked_held X db (SqlInputError fault) (inl none) has = absurd (none (bureau_asked db has))
unasked_held X db (SqlInputError fault) (inr h) has = absurd (true≢false h)
unasked_held X db (SqliteFailure NoRoom) h has = tt
unasked_held X db _ h has = tt

pub refused_answer : (X : Type 0) (old new : State) (fault : OpenFault) → IsRefusedAs old new fault → IsAnswer {X = X} old.now (Err fault)
refused_answer X old new fault h =
    let why = fails_input old new h.0 h.1 in
    subst (λ f. IsAnswer {X = X} old.now (Err f)) (sym h.2) (unasked_shown X old.now h.0 why, unasked_held X old.now h.0 why)

-- ---- what was found, and the faults that may come for any database

pub found_answer : (old new : State) (r : Result (Unit {0}) OpenFault) → IsFoundVersion old new r → IsAnswer old.now r
found_answer old new r (inl (rows, shown, is)) = judged_answer r old new rows shown is
found_answer old new (Ok x) (inr none) = absurd none
found_answer old new (Err fault) (inr refused) = refused_answer (Unit {0}) old new fault refused

pub as_open_known : (f : Fault) → IsKnown (as_open_fault f)
as_open_known fault.NoMemory = (λ is. cc, λ version is. cc)
as_open_known fault.Store = (λ is. cc, λ version is. cc)

pub known_answer : (X : Type 0) (db : Database) (f : OpenFault) → IsKnown f → IsAnswer {X = X} db (Err f)
known_answer X db NoMemory known = (inr (λ same. absurd (known.0 same), known.1), λ has. tt)
known_answer X db Store known = (inr (λ same. absurd (known.0 same), known.1), λ has. tt)
known_answer X db NotABureau known = absurd (known.0 refl)
known_answer X db (Old version) known = absurd (known.1 version refl)
