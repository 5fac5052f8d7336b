-- One transaction, from its start to its commit.
use Rattle.std.proofs.Common.{◌≡◌, ◌≤◌, ◌⊎◌, inl, inr, false, IsTrue, Result, Ok, Err, refl, sym, ap, subst, ◌∙◌, arith}
use Rattle.sqlite.specs.Tree.{Trees}
use Rattle.sqlite.specs.Held.{Held, state}
use Rattle.sqlite_trees.specs.declared.store.Store.{Ghosts}
use Rattle.sqlite.specs.Effect.{Database}
use Rattle.sqlite.specs.State.{State, HasCleanDisk, Shows, IsRolledBack, KeepsCommit, Survives, HasCause}
use Rattle.sqlite.specs.Steps.{FailsToCommit}
use Rattle.sqlite.specs.declared.error.Error.{Error}
use Rattle.sqlite_disk.specs.Disk.{MoreFaults}
use Rattle.sqlite_trees.specs.View.{Tells}
use Rattle.sqlite_trees.specs.declared.error.StoreError.{StoreError}
use Rattle.sqlite_trees.specs.declared.error.StoreError.TheVariants.{OutOfMemory, Io, Corrupt, Full, Broken, Unstorable}
use Rattle.ledger_tables.specs.Schema.{bureau_schema}
use Rattle.ledger_tables.specs.Steps.{Frames, HasFailed}
use Rattle.office.specs.Office.{Office}
use Rattle.ledger.specs.Adopting.{IsUntouched, begun}
use Rattle.ledger.specs.Replying.{LacksRoom}
use Rattle.office_tables.specs.Standing.{Rows, StandsIn, LeftAs, Stands}

-- the trees alone tell the office
pub left_as : (db : Database) (office : Office) → Rows db office → LeftAs db.trees office
left_as db office h =
    let same : db ≡ (let d : Database = record { schema = bureau_schema; trees = db.trees } in d) = ap (λ s. let d : Database = record { schema = s; trees = db.trees } in d) h.tables.schema in
    subst (λ d. Rows d office) same h

-- while the store is open, a crash leaves the last commit alone
abbrev pub Settles : State → Type 0
Settles s = (db : Trees) → IsTrue s.is_open → s.may_leave db → db ≡ s.committed.trees

-- after the commit
pub committed_stands : (mid new : State) (office : Office) → Settles new → StandsIn mid office → Shows mid new mid.now mid.now false → Stands new office
committed_stands mid new office settles s shows = record {
  outside = shows.mode;
  now = λ _. subst (λ db. Rows db office) (sym shows.now_is) s;
  left = λ db may. subst (λ d. LeftAs d office) (sym (settles db shows.is_open may ∙ ap (λ (d : Database). d.trees) shows.committed_is)) (left_as mid.now office s);
}

-- after a rollback
pub rolled_back_stands : (old mid new : State) (office : Office) → (IsTrue old.is_open → old.now ≡ old.committed) → KeepsCommit old mid → IsRolledBack mid new → ((db : Trees) → new.may_leave db → old.may_leave db) → Stands old office → Stands new office
rolled_back_stands old mid new office settled kept back less s = record {
  outside = back.autocommit;
  now = λ opened.
      let mid_open = back.was_open opened in
      let was_open = kept.was_open mid_open in
      subst (λ db. Rows db office) (settled was_open ∙ sym (kept.committed mid_open) ∙ sym (back.undone opened).0) (s.now was_open);
  left = λ db may. s.left db (less db may);
}

-- a crash after a commit that was tried leaves either
pub left_either : (old begun mid new : State) (office next : Office) → ((db : Trees) → begun.may_leave db → old.may_leave db) → (HasCleanDisk new → HasCleanDisk mid) → Survives begun mid (λ _. ⊥) → Survives mid new (λ db. db ≡ mid.now.trees) → Stands old office
    → StandsIn mid next → HasCleanDisk new → (db : Trees) → new.may_leave db → LeftAs db office ⊎ LeftAs db next
left_either old begun mid new office next same early one two s served clean db may = elim (two.crash clean db may) [
  | inl before ↦ elim (one.crash (early clean) db before) [ inl first ↦ inl (s.left db (same db first)) | inr none ↦ absurd none ]
  | inr made ↦ inr (subst (λ d. LeftAs d next) (sym made) (left_as mid.now next served))
]

-- whatever came of a step inside, the last commit is as it was
pub kept_by : {X E : Type 0} (a b : State) (r : Result X E) → Frames a b r → KeepsCommit a b
kept_by a b (Ok x) p = p.kept
kept_by a b (Err e) p = p

-- a transaction that did nothing but what was rolled back
pub untouched : (old mid new : State) → (IsTrue old.is_open → old.now ≡ old.committed) → old.in_transaction ≡ false → KeepsCommit old mid → IsRolledBack mid new → ((db : Trees) → new.may_leave db → old.may_leave db) → IsUntouched old new
untouched old mid new settled outside kept back less = record {
  was_open = λ opened. kept.was_open (back.was_open opened);
  now = λ opened.
      let mid_open = back.was_open opened in
      (back.undone opened).0 ∙ kept.committed mid_open ∙ sym (settled (kept.was_open mid_open));
  committed = λ opened. (back.undone opened).1 ∙ kept.committed (back.was_open opened);
  mode = back.autocommit ∙ sym outside;
  left = less;
}

-- no call at all
pub still_untouched : (s : State) → IsUntouched s s
still_untouched s = record { was_open = λ h. h; now = λ _. refl; committed = λ _. refl; mode = refl; left = λ db h. h }

-- .. from its start to its rollback
pub rolled_untouched : {S : Type 0} (g : Ghosts S) (old tx mid end : Held S) → tx ≡ begun old → (IsTrue (state g old).is_open → (state g old).now ≡ (state g old).committed) → old.in_transaction ≡ false
    → KeepsCommit (state g tx) (state g mid) → Survives (state g tx) (state g mid) (λ _. ⊥) → HasCleanDisk (state g mid) → IsRolledBack (state g mid) (state g end) → Survives (state g mid) (state g end) (λ _. ⊥) → HasCleanDisk (state g end)
    → IsUntouched (state g old) (state g end)
rolled_untouched g old tx mid end is settled outside kept one early back two late =
    let here : KeepsCommit (state g (begun old)) (state g mid) = subst (λ h. KeepsCommit (state g h) (state g mid)) is kept in
    let first : Survives (state g (begun old)) (state g mid) (λ _. ⊥) = subst (λ h. Survives (state g h) (state g mid) (λ _. ⊥)) is one in
    untouched (state g old) (state g mid) (state g end) settled outside (record { was_open = here.was_open; committed = here.committed }) back
    (λ db may. elim (two.crash late db may) [
      | inr none ↦ absurd none
      | inl before ↦ elim (first.crash early db before) [ inl first_may ↦ first_may | inr none ↦ absurd none ]
    ])

-- why a commit failed, after steps in which the database had been open
module _ {S : Type 0} (g : Ghosts S) (old tx mid end : Held S) (is : tx ≡ begun old) (kept : KeepsCommit (state g tx) (state g mid)) (one : Survives (state g tx) (state g mid) (λ _. ⊥)) (opened : IsTrue (state g tx).is_open) (inside : IsTrue (state g mid).in_transaction)
    (early : HasCleanDisk (state g mid)) (later : (state g mid).faults ≤ (state g end).faults) (e : Error) where
  first : Survives (state g (begun old)) (state g mid) (λ _. ⊥)
  first = subst (λ h. Survives (state g h) (state g mid) (λ _. ⊥)) is one

  stays : KeepsCommit (state g old) (state g mid)
  stays = let here : KeepsCommit (state g (begun old)) (state g mid) = subst (λ h. KeepsCommit (state g h) (state g mid)) is kept in record { was_open = here.was_open; committed = here.committed }

  more_later : MoreFaults (state g mid).faults (state g end).faults → HasFailed (state g old) (state g end)
  more_later more = inl (omega (arith, more, first.counts))

  by_cause : (cause : StoreError) → HasCause (state g mid) (state g end) ⊥ cause → IsRolledBack (state g mid) (state g end) → Tells (state g end).blamed cause
      → HasFailed (state g old) (state g end) ⊎ LacksRoom g old end
  by_cause OutOfMemory why back told = inr (mid, stays, (OutOfMemory, refl, tt, back, told))
  by_cause Io why back told = inl (more_later why)
  by_cause Corrupt why back told = inl (more_later why)
  by_cause Full why back told = inl (more_later why)
  by_cause Broken why back told = elim (first.closes early (subst (λ h. IsTrue (state g h).is_open) is opened)) [
    | inl still ↦ absurd (let no = rw why at still in cc)
    | inr more ↦ inl (inl (omega (arith, more, later)))
  ]
  by_cause Unstorable why back told = absurd why

  pub commit_failed : FailsToCommit (state g mid) (state g end) e → HasFailed (state g old) (state g end) ⊎ LacksRoom g old end
  commit_failed (inl h) = by_cause h.0 h.2 h.3 h.4
  commit_failed (inr h) = absurd (let no = rw h.1 at inside in cc)
