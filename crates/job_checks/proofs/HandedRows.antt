-- What was read by a connection whose store is handed back.
use Rattle.std.proofs.Common.{◌≡◌, Result, Ok, Err, IfOk, OnOk, IsTrue, refl, sym, subst, ◌∙◌}
use Rattle.sqlite.specs.Held.{Held, state}
use Rattle.sqlite.specs.State.{State, HasCleanDisk, IsUnchanged}
use Rattle.sqlite.specs.Tree.{Trees}
use Rattle.std.specs.Prelude.{⊤}
use Rattle.sqlite.specs.Effect.{Database, IsDatabase}
use Rattle.sqlite_trees.specs.declared.store.Store.{Ghosts}
use Rattle.ledger_tables.proofs.Stepping.{if_ok_then}
use Rattle.ledger_tables.specs.Schema.{bureau_schema}
use Rattle.ledger_tables.specs.declared.faults.Fault.{Fault}
use Rattle.job_checks.specs.Tables.{IsBureaus, ReadsSettled}

module _ {S : Type 0} (g : Ghosts S) (old conn : Held S) {X : Type 0} (read : Result X Fault) (Are : Trees → X → Type 0) where
  -- what was read by a connection whose store is sound
  pub handed_alone : ReadsSettled g old conn read Are → (sound : Result ⊤ Fault) → sound ≡ Ok tt
      → OnOk sound (HasCleanDisk (state g conn) × ((db : Database) → db.schema ≡ bureau_schema → IsDatabase db → (IsTrue (state g conn).is_open → (state g conn).committed ≡ db) → IsBureaus db))
      → IfOk read (λ it. (state g old).now.schema ≡ bureau_schema → IsBureaus (state g old).now × Are (state g old).now.trees it)
  handed_alone settled (Ok t) is handed =
      if_ok_then read _ _ (λ it found ours.
      let all = found ours in
      let bureaus = handed.1 (state g old).now ours all.1 all.0 in
      (bureaus, all.2 bureaus))
      (settled handed.0)
  handed_alone settled (Err e) is handed = absurd (let no = is in cc)

-- ---- one reading after another

pub unchanged_then : (a b c : State) → IsUnchanged a b → IsUnchanged b c → IsUnchanged a c
unchanged_then a b c p q = (
  record {
    was_open = p.0.was_open;
    is_open = q.0.is_open;
    now_is = q.0.now_is ∙ p.0.now_is;
    committed_is = q.0.committed_is ∙ p.0.committed_is;
    mode = q.0.mode ∙ p.0.mode;
  },
  record { changes = q.1.changes ∙ p.1.changes; last_rowid = q.1.last_rowid ∙ p.1.last_rowid },
  q.2 ∙ p.2,
)

pub unchanged_still : (a : State) → IsTrue a.is_open → IsUnchanged a a
unchanged_still a is = (record { was_open = is; is_open = is; now_is = refl; committed_is = refl; mode = refl }, record { changes = refl; last_rowid = refl }, refl)

-- after a reading the database is what it was
pub read_then : (a b c : State) (P : Database → Type 0) → IsUnchanged a b → (b.now.schema ≡ bureau_schema → IsUnchanged b c × (IsBureaus b.now → P b.now)) → a.now.schema ≡ bureau_schema → IsUnchanged a c × (IsBureaus a.now → P a.now)
read_then a b c P first second ours =
    let same = first.0.now_is in
    let it = second (subst (λ (db : Database). db.schema ≡ bureau_schema) (sym same) ours) in
    (unchanged_then a b c first it.0, λ bureaus. subst P same (it.1 (subst IsBureaus (sym same) bureaus)))
