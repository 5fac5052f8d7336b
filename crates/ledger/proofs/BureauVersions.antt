-- The version that tables have, and transactions that raise them.
use Rattle.std.proofs.Common.{◌≡◌, ◌≢◌, ◌⊎◌, inl, inr, ◌<◌, ◌==◌, ℕ, pos, List, [], ◌∷◌, map, Bool, true, false, true≢false, IsTrue, Result, Ok, Err, refl, sym, ap, subst, ◌∙◌, arith}
use Rattle.std.proofs.lemmas.Bool.Decides.{nat_tests}
use Rattle.sqlite.specs.declared.error.Error.{Error}
use Rattle.sqlite.specs.declared.error.Error.TheVariants.{SqliteFailure, SqlInputError}
use Rattle.sqlite.specs.declared.error.ErrorCode.TheVariants.{OutOfMemory as NoRoom}
use Rattle.sqlite.specs.declared.types.Value.{Value}
use Rattle.sqlite.specs.declared.types.Value.TheVariants.{Int}
use Rattle.sqlite.specs.Effect.{Database}
use Rattle.sqlite.specs.Held.{Held, state}
use Rattle.sqlite.specs.Order.{Row, column}
use Rattle.sqlite.specs.State.{State, HasCleanDisk, IsRolledBack, KeepsCommit, Shown, Survives}
use Rattle.sqlite.specs.Tree.{Trees}
use Rattle.sqlite_trees.specs.declared.store.Store.{Ghosts}
use Rattle.office.specs.Office.{Office}
use Rattle.ledger_tables.specs.Schema.{own_version}
use Rattle.ledger_tables.specs.Versions.{select_version, opening_fault, versions_in, IsAnswer, IsFaultOf, IsFoundVersion, IsKnown, IsOfVersion}
use Rattle.ledger_tables.specs.declared.openings.OpenFault.{OpenFault}
use Rattle.ledger_tables.specs.declared.openings.OpenFault.TheVariants.{NoMemory, Store, NotABureau, Old}
use Rattle.ledger_tables.specs.Steps.{GoesOn}
use Rattle.ledger_tables.proofs.Frames.{shown_goes_on, shown_opened, shown_same}
use Rattle.ledger_tables.proofs.OpeningAnswers.{found_answer, known_answer}
use Rattle.ledger_tables.proofs.OpeningVersion.{plain_in, shown_understood, versions_shown}
use Rattle.ledger.specs.Adopting.{IsUntouched}
use Rattle.ledger.specs.Migrating.{as_opened, IsRaisedFrom, IsToldFrom, IsVersionOf}
use Rattle.ledger.specs.Older.{FirstRows, LeftOf, RowsOf, SecondRows, StandsOf, ThirdRows}
use Rattle.office_tables.specs.Standing.{LeftAs, Rows, Stands}
use Rattle.ledger.proofs.BureauTransactions.{left_as}

-- ---- the version that was found

abbrev pub ShowsOne : State → State → ℕ → Type 0
ShowsOne old new version =
    (rows : List Row) × Shown select_version [] old new rows × (map (λ (r : Row). column r 0) rows ≡ Int (pos version) ∷ [])

not_old : (e : Error) (version : ℕ) → Old version ≢ opening_fault e
not_old (SqlInputError fault) version is = cc
not_old (SqliteFailure NoRoom) version is = cc
not_old _ version is = cc

pub shown_own : (old new : State) (x : Unit {0}) → IsFoundVersion old new (Ok x) → ShowsOne old new own_version
shown_own old new x (inl shown) = shown
shown_own old new x (inr none) = absurd none

pub shown_old : (old new : State) (version : ℕ) (fault : OpenFault) → fault ≡ Old version → IsFoundVersion {X = Unit {0}} old new (Err fault) → ShowsOne old new version
shown_old old new version fault is found = go (subst (λ (e : OpenFault). IsFoundVersion {X = Unit {0}} old new (Err e)) is found)
  where
    go : IsFoundVersion {X = Unit {0}} old new (Err (Old version)) → ShowsOne old new version
    go (inl shown) = (shown.0, shown.1, shown.2.0)
    go (inr refused) = absurd (not_old refused.0 version refused.2)

pub version_found : (old new : State) (version : ℕ) → ShowsOne old new version → IsVersionOf old new version
version_found old new version (rows, shown, is) = record {
  opened = shown_opened old new select_version [] rows shown;
  asked = shown_understood old new rows shown;
  only = λ ours. versions_shown old new rows (Int (pos version)) shown is ours;
  unchanged = λ ours. shown_same old new select_version [] rows (plain_in old.now.schema ours) shown;
}

pub version_goes_on : (old new : State) (version : ℕ) → IsTrue old.in_transaction → ShowsOne old new version → GoesOn old new
version_goes_on old new version inside (rows, shown, is) = shown_goes_on old new select_version [] rows inside shown

-- ---- what a migration tells of it

opened_other : (version : ℕ) → version ≢ own_version → as_opened (Ok version) ≡ Err (Old version)
opened_other version other = let no : (version == own_version) ≡ false = grind (arith, nat_tests) in rw no

old_other : (old new : State) (version : ℕ) → IsFoundVersion {X = Unit {0}} old new (Err (Old version)) → version ≢ own_version
old_other old new version (inl shown) is = omega (arith, is, shown.2.2)
old_other old new version (inr refused) is = absurd (not_old refused.0 version refused.2)

module _ {S : Type 0} (g : Ghosts S) where
  -- an earlier version that was found
  pub told_earlier : (old new : Held S) (version : ℕ) (fault : OpenFault) → fault ≡ Old version → IsFoundVersion {X = Unit {0}} (state g old) (state g new) (Err fault) → IsToldFrom g old (Ok version)
  told_earlier old new version fault is found =
      let here = subst (λ (e : OpenFault). IsFoundVersion {X = Unit {0}} (state g old) (state g new) (Err e)) is found in
      (new, inl (subst (IsFoundVersion {X = Unit {0}} (state g old) (state g new)) (sym (opened_other version (old_other (state g old) (state g new) version here))) here))

  -- a fault that was found
  pub told_fault : (old new : Held S) (fault kept : OpenFault) → fault ≡ kept → IsFoundVersion {X = Unit {0}} (state g old) (state g new) (Err fault) → IsToldFrom g old (Err kept)
  told_fault old new fault kept is found = (new, inl (subst (λ (e : OpenFault). IsFoundVersion {X = Unit {0}} (state g old) (state g new) (Err e)) is found))

  -- an earlier version whose tables could not be raised
  pub told_unraised : (before : Held S) (version : ℕ) (fault : OpenFault) → version ≢ own_version → IsKnown fault → IsToldFrom g before (Ok version) → IsToldFrom g before (Err fault)
  told_unraised before version fault other known (asked, inl found) = (asked, inr (known, (version, subst (IsFoundVersion {X = Unit {0}} (state g before) (state g asked)) (opened_other version other) found)))
  told_unraised before version fault other known (asked, inr none) = absurd none.0

  -- what is told of the version is an answer for the tables
  pub told_answer : (before : Held S) (result : Result ℕ OpenFault) → IsToldFrom g before result → IsAnswer (state g before).now (as_opened result)
  told_answer before result (asked, inl found) = found_answer (state g before) (state g asked) (as_opened result) found
  told_answer before (Ok version) (asked, inr none) = absurd none.0
  told_answer before (Err fault) (asked, inr known) = known_answer (Unit {0}) (state g before).now fault known.0

-- ---- tables of a version

pub rows_version : (version : ℕ) (db : Database) (office : Office) → RowsOf version db office → IsOfVersion version db
rows_version version db office (inl (is, rows)) =
    (inr (inr rows.tables.schema_is), ap (map (λ (r : Row). column r 2)) rows.tables.version ∙ ap (λ n. let vs : List Value = Int (pos n) ∷ [] in vs) (sym is))
rows_version version db office (inr (inl (is, rows))) =
    (inr (inl rows.tables.schema), ap (map (λ (r : Row). column r 2)) rows.tables.version ∙ ap (λ n. let vs : List Value = Int (pos n) ∷ [] in vs) (sym is))
rows_version version db office (inr (inr (inl (is, rows)))) =
    (inr (inl rows.tables.schema), ap (map (λ (r : Row). column r 2)) rows.tables.version ∙ ap (λ n. let vs : List Value = Int (pos n) ∷ [] in vs) (sym is))
rows_version version db office (inr (inr (inr (is, rows)))) =
    (inl rows.tables.schema, ap (map (λ (r : Row). column r 2)) rows.tables.version ∙ ap (λ n. let vs : List Value = Int (pos n) ∷ [] in vs) (sym is))

pub same_version : (db : Database) (found version : ℕ) → versions_in db ≡ Int (pos found) ∷ [] → versions_in db ≡ Int (pos version) ∷ [] → found ≡ version
same_version db found version one two =
    let both : ◌≡◌ {A = List Value} (Int (pos found) ∷ []) (Int (pos version) ∷ []) = sym one ∙ two in
    cc

first_rows : (db : Database) (office : Office) → RowsOf 1 db office → FirstRows db office
first_rows db office (inl (is, rows)) = rows
first_rows db office (inr (inl (is, rows))) = absurd (omega (arith, is))
first_rows db office (inr (inr (inl (is, rows)))) = absurd (omega (arith, is))
first_rows db office (inr (inr (inr (is, rows)))) = absurd (omega (arith, is))

second_rows : (db : Database) (office : Office) → RowsOf 2 db office → SecondRows db office
second_rows db office (inl (is, rows)) = absurd (omega (arith, is))
second_rows db office (inr (inl (is, rows))) = rows
second_rows db office (inr (inr (inl (is, rows)))) = absurd (omega (arith, is))
second_rows db office (inr (inr (inr (is, rows)))) = absurd (omega (arith, is))

third_rows : (db : Database) (office : Office) → RowsOf 3 db office → ThirdRows db office
third_rows db office (inl (is, rows)) = absurd (omega (arith, is))
third_rows db office (inr (inl (is, rows))) = absurd (omega (arith, is))
third_rows db office (inr (inr (inl (is, rows)))) = rows
third_rows db office (inr (inr (inr (is, rows)))) = absurd (omega (arith, is))

pub own_rows : (db : Database) (office : Office) → RowsOf own_version db office → Rows db office
own_rows db office (inl (is, rows)) = absurd (omega (arith, is))
own_rows db office (inr (inl (is, rows))) = absurd (omega (arith, is))
own_rows db office (inr (inr (inl (is, rows)))) = absurd (omega (arith, is))
own_rows db office (inr (inr (inr (is, rows)))) = rows

pub of_first : (version : ℕ) (db : Database) (office : Office) → version ≡ 1 → RowsOf version db office → FirstRows db office
of_first version db office is rows = first_rows db office (subst (λ n. RowsOf n db office) is rows)

pub of_second : (version : ℕ) (db : Database) (office : Office) → version ≡ 2 → RowsOf version db office → SecondRows db office
of_second version db office is rows = second_rows db office (subst (λ n. RowsOf n db office) is rows)

pub of_third : (version : ℕ) (db : Database) (office : Office) → version ≡ 3 → RowsOf version db office → ThirdRows db office
of_third version db office is rows = third_rows db office (subst (λ n. RowsOf n db office) is rows)

-- tables of this program's version were only read
pub raised_own : (before after : State) (found : ℕ) → IsVersionOf before after found → found ≡ own_version → IsRaisedFrom before after found
raised_own before after found it own = record {
  opened = it.opened;
  asked = it.asked;
  only = it.only;
  raised = λ version office rows.
      let of = rows_version version before.now office rows in
      let same = same_version before.now found version (it.only of.0) of.1 in
      let here = subst (λ n. RowsOf n before.now office) (sym same ∙ own) rows in
      (same, subst (λ db. Rows db office) (sym (it.unchanged of.0).0.now_is) (own_rows before.now office here));
}

-- tables of an earlier version were read and raised
pub raised_earlier : (before mid after : State) (found : ℕ) → IsVersionOf before mid found → ((office : Office) → RowsOf found mid.now office → Rows after.now office) → IsRaisedFrom before after found
raised_earlier before mid after found it did = record {
  opened = it.opened;
  asked = it.asked;
  only = it.only;
  raised = λ version office rows.
      let of = rows_version version before.now office rows in
      let same = same_version before.now found version (it.only of.0) of.1 in
      let here : RowsOf found mid.now office = subst (λ db. RowsOf found db office) (sym (it.unchanged of.0).0.now_is) (subst (λ n. RowsOf n before.now office) (sym same) rows) in
      (same, did office here);
}

-- a fault over tables of some version
pub is_no_fault : (version : ℕ) (db : Database) (office : Office) (fault : OpenFault) → RowsOf version db office → IsFaultOf version fault → fault ≢ NotABureau
is_no_fault version db office fault rows of is = go (subst (IsFaultOf version) is of) rows
  where
    go : (version ≡ 0) ⊎ (own_version < version) → RowsOf version db office → ⊥
    go (inl none) (inl (is, rows)) = omega (arith, none, is)
    go (inl none) (inr (inl (is, rows))) = omega (arith, none, is)
    go (inl none) (inr (inr (inl (is, rows)))) = omega (arith, none, is)
    go (inl none) (inr (inr (inr (is, rows)))) = omega (arith, none, is)
    go (inr later) (inl (is, rows)) = omega (arith, later, is)
    go (inr later) (inr (inl (is, rows))) = omega (arith, later, is)
    go (inr later) (inr (inr (inl (is, rows)))) = omega (arith, later, is)
    go (inr later) (inr (inr (inr (is, rows)))) = omega (arith, later, is)

-- .. that perhaps are not seen
pub is_no_fault_of : (s : State) (version : ℕ) (office : Office) (fault : OpenFault) → ((v : ℕ) → (IsTrue s.is_open → IsOfVersion v s.now) → IsFaultOf v fault) → (IsTrue s.is_open → RowsOf version s.now office) → fault ≢ NotABureau
is_no_fault_of s version office fault known rows is = go s.is_open refl
  where
    closed_off : (version : ℕ) → version ≡ 1 → IsFaultOf version NotABureau → ⊥
    closed_off version one (inl none) = omega (arith, one, none)
    closed_off version one (inr later) = omega (arith, one, later)

    go : (b : Bool) → s.is_open ≡ b → ⊥
    go true opened = is_no_fault version s.now office fault (rows opened) (known version (λ o. rows_version version s.now office (rows o))) is
    go false closed = closed_off 1 refl (subst (IsFaultOf 1) is (known 1 (λ o. absurd (true≢false (sym o ∙ closed)))))

-- a bureau's tables of this version
pub own_version_is : (db : Database) (office : Office) → Rows db office → IsOfVersion own_version db
own_version_is db office rows = (inl rows.tables.schema, ap (map (λ (r : Row). column r 2)) rows.tables.version)

-- a fault over them is one of the two that may always come
pub own_is_known : (fault : OpenFault) → IsFaultOf own_version fault → IsKnown fault
own_is_known NoMemory of = (λ is. cc, λ version is. cc)
own_is_known Store of = (λ is. cc, λ version is. cc)
own_is_known NotABureau (inl none) = absurd (omega (arith, none))
own_is_known NotABureau (inr later) = absurd (omega (arith, later))
own_is_known (Old told) of = absurd (omega (arith, of.2))

-- ---- transactions

pub rolled_back_of : (version : ℕ) (old mid new : State) (office : Office) → (IsTrue old.is_open → old.now ≡ old.committed) → KeepsCommit old mid → IsRolledBack mid new → ((db : Trees) → new.may_leave db → old.may_leave db) → StandsOf version old office → StandsOf version new office
rolled_back_of version old mid new office settled kept back less s = record {
  outside = back.autocommit;
  now = λ opened.
      let mid_open = back.was_open opened in
      let was_open = kept.was_open mid_open in
      subst (λ db. RowsOf version db office) (settled was_open ∙ sym (kept.committed mid_open) ∙ sym (back.undone opened).0) (s.now was_open);
  left = λ db may. s.left db (less db may);
}

left_own : (db : Trees) (office : Office) → LeftOf own_version db office → LeftAs db office
left_own db office left = own_rows _ office left

pub stands_own : (s : State) (version : ℕ) (office : Office) → version ≡ own_version → StandsOf version s office → Stands s office
stands_own s version office is stands = go (subst (λ n. StandsOf n s office) is stands)
  where
    go : StandsOf own_version s office → Stands s office
    go it = record { outside = it.outside; now = λ opened. own_rows s.now office (it.now opened); left = λ db may. left_own db office (it.left db may) }

-- a crash after a commit that was tried leaves either
pub left_in_either : (version : ℕ) (old begun mid new : State) (office : Office) → ((db : Trees) → begun.may_leave db → old.may_leave db) → (HasCleanDisk new → HasCleanDisk mid) → Survives begun mid (λ _. ⊥) → Survives mid new (λ db. db ≡ mid.now.trees) → StandsOf version old office
    → Rows mid.now office → HasCleanDisk new → (db : Trees) → new.may_leave db → LeftOf version db office ⊎ LeftAs db office
left_in_either version old begun mid new office same early one two s served clean db may = elim (two.crash clean db may) [
  | inl before ↦ elim (one.crash (early clean) db before) [ inl first ↦ inl (s.left db (same db first)) | inr none ↦ absurd none ]
  | inr made ↦ inr (subst (λ d. LeftAs d office) (sym made) (left_as mid.now office served))
]

-- what was left as it was stands as before
pub untouched_stands : (old new : State) (office : Office) → IsUntouched old new → Stands old office → Stands new office
untouched_stands old new office it s = record {
  outside = it.mode ∙ s.outside;
  now = λ opened. subst (λ db. Rows db office) (sym (it.now opened)) (s.now (it.was_open opened));
  left = λ db may. s.left db (it.left db may);
}
