use Rattle.std.proofs.Common.{◌≡◌, inr, false, ap, sym, subst, ◌∙◌, arith, rules, IsTrue, Ok, Err}
use Rattle.sqlite.specs.State.{HasCleanDisk, IsRolledBack, Survives}
use Rattle.sqlite.specs.Held.{state}
use Rattle.ledger_tables.specs.Schema.{own_version}
use Rattle.ledger_tables.specs.declared.openings.OpenFault.TheVariants.{Store}
use Rattle.ledger.specs.Adopting.{IsUntouched, begun}
use Rattle.ledger.specs.Migrating.{IsToldFrom}
use Rattle.ledger.specs.Older.{RowsOf}
use Rattle.office_tables.specs.Standing.{Rows, Stands}
use Rattle.ledger.proofs.BureauTransactions.{committed_stands, kept_by, rolled_untouched}
use Rattle.ledger.proofs.BureauVersions.{left_in_either, stands_own, told_answer, told_unraised, untouched_stands}
use Rattle.ledger.proofs.migrating.migrate.Goals as goal

pub returns-in-Ok-commit-clause-raised : goal.returns-in-Ok-commit-clause-raised
returns-in-Ok-commit-clause-raised g c clean version office s =
    let begun = c.transaction-tx.ensures.begun in
    let tx = c.transaction-tx.result.conn.now in
    let mid = c.raise_found-found.new.tables.tx.now.conn.now in
    let last = c.tx-2-1.given.0.conn.now in
    let end = c.commit.new.self.0 in
    let back : mid ≡ last = search rules in
    let same : end ≡ c.conn-in-Ok-1.given.0 = search rules in
    let late : HasCleanDisk (state g.S.Store end) = search rules in
    let tried : HasCleanDisk (state g.S.Store last) = omega (arith, c.commit.ensures.survives.clean) in
    let early : HasCleanDisk (state g.S.Store mid) = rw back tried in
    let inside : IsTrue tx.in_transaction = ap (λ h. h.in_transaction) begun in
    let found = c.in-Ok.ensures.found early inside in
    let first : RowsOf version (state g.S.Store tx).now office = rw begun (s.now (rw begun at found.opened)) in
    let done = found.raised version office first in
    let rows = subst (λ h. Rows (state g.S.Store h).now office) back done.1 in
    (done.0, subst (λ h. Stands (state g.S.Store h) office) same (committed_stands (state g.S.Store last) (state g.S.Store end) office (λ db opened may. g.met.S.Store.settled end.store db opened may) rows (c.in-Ok-commit.ensures.ok late).1))

pub returns-in-Ok-commit-clause-crash : goal.returns-in-Ok-commit-clause-crash
returns-in-Ok-commit-clause-crash g c clean version office s db may =
    let begun = c.transaction-tx.ensures.begun in
    let tx = c.transaction-tx.result.conn.now in
    let mid = c.raise_found-found.new.tables.tx.now.conn.now in
    let last = c.tx-2-1.given.0.conn.now in
    let end = c.commit.new.self.0 in
    let back : mid ≡ last = search rules in
    let same : end ≡ c.conn-in-Ok-1.given.0 = search rules in
    let late : HasCleanDisk (state g.S.Store end) = search rules in
    let tried : HasCleanDisk (state g.S.Store last) = omega (arith, c.commit.ensures.survives.clean) in
    let early : HasCleanDisk (state g.S.Store mid) = rw back tried in
    let inside : IsTrue tx.in_transaction = ap (λ h. h.in_transaction) begun in
    let found = c.in-Ok.ensures.found early inside in
    let first : RowsOf version (state g.S.Store tx).now office = rw begun (s.now (rw begun at found.opened)) in
    let done = found.raised version office first in
    let rows = subst (λ h. Rows (state g.S.Store h).now office) back done.1 in
    let one = subst (λ h. Survives (state g.S.Store tx) (state g.S.Store h) (λ _. ⊥)) back c.raise_found-found.ensures.step.survives in
    left_in_either version (state g.S.Store c.args.conn.now) (state g.S.Store tx) (state g.S.Store last) (state g.S.Store end) office (λ d it. subst (λ h. (state g.S.Store h).may_leave d) begun it) (λ _. tried) one c.commit.ensures.survives s rows late db
    (subst (λ h. (state g.S.Store h).may_leave db) (sym same) may)

pub returns-in-Err-commit-clause-crash : goal.returns-in-Err-commit-clause-crash
returns-in-Err-commit-clause-crash g c clean version office s db may =
    let begun = c.transaction-tx.ensures.begun in
    let tx = c.transaction-tx.result.conn.now in
    let mid = c.raise_found-found.new.tables.tx.now.conn.now in
    let last = c.tx-2-1.given.0.conn.now in
    let end = c.commit.new.self.0 in
    let back : mid ≡ last = search rules in
    let same : end ≡ c.conn-in-Ok-1.given.0 = search rules in
    let late : HasCleanDisk (state g.S.Store end) = search rules in
    let tried : HasCleanDisk (state g.S.Store last) = omega (arith, c.commit.ensures.survives.clean) in
    let early : HasCleanDisk (state g.S.Store mid) = rw back tried in
    let inside : IsTrue tx.in_transaction = ap (λ h. h.in_transaction) begun in
    let found = c.in-Ok.ensures.found early inside in
    let first : RowsOf version (state g.S.Store tx).now office = rw begun (s.now (rw begun at found.opened)) in
    let done = found.raised version office first in
    let rows = subst (λ h. Rows (state g.S.Store h).now office) back done.1 in
    let one = subst (λ h. Survives (state g.S.Store tx) (state g.S.Store h) (λ _. ⊥)) back c.raise_found-found.ensures.step.survives in
    left_in_either version (state g.S.Store c.args.conn.now) (state g.S.Store tx) (state g.S.Store last) (state g.S.Store end) office (λ d it. subst (λ h. (state g.S.Store h).may_leave d) begun it) (λ _. tried) one c.commit.ensures.survives s rows late db
    (subst (λ h. (state g.S.Store h).may_leave db) (sym same) may)

pub returns-in-Err-clause-known : goal.returns-in-Err-clause-known
returns-in-Err-clause-known g c = (
  c.in-Err.ensures.not_old,
  λ clean version office s.
      let begun = c.transaction-tx.ensures.begun in
      let mid = c.raise_found-found.new.tables.tx.now.conn.now in
      let inside : IsTrue c.transaction-tx.result.conn.now.in_transaction = ap (λ h. h.in_transaction) begun in
      let early : HasCleanDisk (state g.S.Store mid) = search (rules, c.rollback-in-Err.ensures.survives.clean) in
      c.in-Err.ensures.known early inside version office (λ opened. rw begun (s.now (rw begun at opened))),
)

pub returns-in-Err-clause-untouched : goal.returns-in-Err-clause-untouched
returns-in-Err-clause-untouched g c clean which =
    let begun = c.transaction-tx.ensures.begun in
    let tx = c.transaction-tx.result.conn.now in
    let mid = c.raise_found-found.new.tables.tx.now.conn.now in
    let end = c.rollback-in-Err.new.self.0 in
    let same : end ≡ c.conn-in-Err-1.given.0 = search rules in
    let inside : IsTrue tx.in_transaction = ap (λ h. h.in_transaction) begun in
    let late : HasCleanDisk (state g.S.Store end) = search rules in
    let early : HasCleanDisk (state g.S.Store mid) = search (rules, c.rollback-in-Err.ensures.survives.clean) in
    let step = c.raise_found-found.ensures.step in
    let to_last : mid ≡ c.tx-2-1.given.0.conn.now = search rules in
    let back = subst (λ h. IsRolledBack (state g.S.Store h) (state g.S.Store end)) (sym to_last) (c.rollback-in-Err.ensures.undone late) in
    let two = subst (λ h. Survives (state g.S.Store h) (state g.S.Store end) (λ _. ⊥)) (sym to_last) c.rollback-in-Err.ensures.survives in
    let settled : IsTrue (state g.S.Store c.args.conn.now).is_open → (state g.S.Store c.args.conn.now).now ≡ (state g.S.Store c.args.conn.now).committed = search rules in
    let outside : c.args.conn.now.in_transaction ≡ false = search rules in
    subst (λ h. IsUntouched (state g.S.Store c.args.conn.now) (state g.S.Store h)) same
    (rolled_untouched g.S.Store c.args.conn.now tx mid end begun settled outside (kept_by _ _ c.raise_found-found.result (step.frame early inside)) step.survives early back two late)

pub returns-then-version-eq-VERSION-clause-raised : goal.returns-then-version-eq-VERSION-clause-raised
returns-then-version-eq-VERSION-clause-raised g c clean version office s =
    let begun = c.transaction-tx.ensures.begun in
    let old = c.args.conn.now in
    let tx = c.transaction-tx.result.conn.now in
    let mid = c.raise_found-found.new.tables.tx.now.conn.now in
    let end = c.rollback.new.self.0 in
    let same : end ≡ c.conn-1.given.0 = search rules in
    let inside : IsTrue tx.in_transaction = ap (λ h. h.in_transaction) begun in
    let late : HasCleanDisk (state g.S.Store end) = search rules in
    let early : HasCleanDisk (state g.S.Store mid) = search (rules, c.rollback.ensures.survives.clean) in
    let step = c.raise_found-found.ensures.step in
    let to_last : mid ≡ c.tx-2-1.given.0.conn.now = search rules in
    let back = subst (λ h. IsRolledBack (state g.S.Store h) (state g.S.Store end)) (sym to_last) (c.rollback.ensures.undone late) in
    let two = subst (λ h. Survives (state g.S.Store h) (state g.S.Store end) (λ _. ⊥)) (sym to_last) c.rollback.ensures.survives in
    let settled : IsTrue (state g.S.Store old).is_open → (state g.S.Store old).now ≡ (state g.S.Store old).committed = search rules in
    let outside : old.in_transaction ≡ false = search rules in
    let still = rolled_untouched g.S.Store old tx mid end begun settled outside (kept_by _ _ c.raise_found-found.result (step.frame early inside)) step.survives early back two late in
    let found = c.in-Ok.ensures.found early inside in
    let first : RowsOf version (state g.S.Store tx).now office = rw begun (s.now (rw begun at found.opened)) in
    let same_version = (found.raised version office first).0 in
    let own : version ≡ own_version = sym same_version ∙ c.if-version-eq-VERSION.true in
    let stands = stands_own (state g.S.Store old) version office own s in
    (same_version, subst (λ h. Stands (state g.S.Store h) office) same (untouched_stands (state g.S.Store old) (state g.S.Store end) office still stands))

pub returns-then-version-eq-VERSION-clause-answer : goal.returns-then-version-eq-VERSION-clause-answer
returns-then-version-eq-VERSION-clause-answer g c clean =
    let tx = c.transaction-tx.result.conn.now in
    let inside : IsTrue tx.in_transaction = ap (λ h. h.in_transaction) c.transaction-tx.ensures.begun in
    let late : HasCleanDisk (state g.S.Store c.rollback.new.self.0) = search rules in
    let early : HasCleanDisk (state g.S.Store c.raise_found-found.new.tables.tx.now.conn.now) = search (rules, c.rollback.ensures.survives.clean) in
    let told = subst (λ h. IsToldFrom g.S.Store h (Ok c.in-Ok.version)) c.transaction-tx.ensures.begun (c.in-Ok.ensures.told early inside) in
    told_answer g.S.Store (begun c.args.conn.now) (Ok c.in-Ok.version) told

pub returns-then-version-eq-VERSION-clause-told : goal.returns-then-version-eq-VERSION-clause-told
returns-then-version-eq-VERSION-clause-told g c clean =
    let tx = c.transaction-tx.result.conn.now in
    let inside : IsTrue tx.in_transaction = ap (λ h. h.in_transaction) c.transaction-tx.ensures.begun in
    let late : HasCleanDisk (state g.S.Store c.rollback.new.self.0) = search rules in
    let early : HasCleanDisk (state g.S.Store c.raise_found-found.new.tables.tx.now.conn.now) = search (rules, c.rollback.ensures.survives.clean) in
    let told = subst (λ h. IsToldFrom g.S.Store h (Ok c.in-Ok.version)) c.transaction-tx.ensures.begun (c.in-Ok.ensures.told early inside) in
    inr told

pub returns-in-Ok-commit-clause-answer : goal.returns-in-Ok-commit-clause-answer
returns-in-Ok-commit-clause-answer g c clean =
    let tx = c.transaction-tx.result.conn.now in
    let inside : IsTrue tx.in_transaction = ap (λ h. h.in_transaction) c.transaction-tx.ensures.begun in
    let late : HasCleanDisk (state g.S.Store c.commit.new.self.0) = search rules in
    let early : HasCleanDisk (state g.S.Store c.raise_found-found.new.tables.tx.now.conn.now) = search (rules, c.commit.ensures.survives.clean) in
    let told = subst (λ h. IsToldFrom g.S.Store h (Ok c.in-Ok.version)) c.transaction-tx.ensures.begun (c.in-Ok.ensures.told early inside) in
    told_answer g.S.Store (begun c.args.conn.now) (Ok c.in-Ok.version) told

pub returns-in-Ok-commit-clause-told : goal.returns-in-Ok-commit-clause-told
returns-in-Ok-commit-clause-told g c clean =
    let tx = c.transaction-tx.result.conn.now in
    let inside : IsTrue tx.in_transaction = ap (λ h. h.in_transaction) c.transaction-tx.ensures.begun in
    let late : HasCleanDisk (state g.S.Store c.commit.new.self.0) = search rules in
    let early : HasCleanDisk (state g.S.Store c.raise_found-found.new.tables.tx.now.conn.now) = search (rules, c.commit.ensures.survives.clean) in
    let told = subst (λ h. IsToldFrom g.S.Store h (Ok c.in-Ok.version)) c.transaction-tx.ensures.begun (c.in-Ok.ensures.told early inside) in
    inr told

pub returns-in-Err-commit-clause-told : goal.returns-in-Err-commit-clause-told
returns-in-Err-commit-clause-told g c clean =
    let tx = c.transaction-tx.result.conn.now in
    let inside : IsTrue tx.in_transaction = ap (λ h. h.in_transaction) c.transaction-tx.ensures.begun in
    let late : HasCleanDisk (state g.S.Store c.commit.new.self.0) = search rules in
    let early : HasCleanDisk (state g.S.Store c.raise_found-found.new.tables.tx.now.conn.now) = search (rules, c.commit.ensures.survives.clean) in
    let told = subst (λ h. IsToldFrom g.S.Store h (Err Store)) c.transaction-tx.ensures.begun (told_unraised g.S.Store tx c.in-Ok.version Store c.if-version-eq-VERSION.false ((λ is. cc), (λ version is. cc)) (c.in-Ok.ensures.told early inside)) in
    inr told

pub returns-in-Err-clause-answer : goal.returns-in-Err-clause-answer
returns-in-Err-clause-answer g c clean =
    let tx = c.transaction-tx.result.conn.now in
    let inside : IsTrue tx.in_transaction = ap (λ h. h.in_transaction) c.transaction-tx.ensures.begun in
    let late : HasCleanDisk (state g.S.Store c.rollback-in-Err.new.self.0) = search rules in
    let early : HasCleanDisk (state g.S.Store c.raise_found-found.new.tables.tx.now.conn.now) = search (rules, c.rollback-in-Err.ensures.survives.clean) in
    let told = subst (λ h. IsToldFrom g.S.Store h (Err c.in-Err.fault)) c.transaction-tx.ensures.begun (c.in-Err.ensures.told early inside) in
    told_answer g.S.Store (begun c.args.conn.now) (Err c.in-Err.fault) told

pub returns-in-Err-clause-told : goal.returns-in-Err-clause-told
returns-in-Err-clause-told g c clean =
    let tx = c.transaction-tx.result.conn.now in
    let inside : IsTrue tx.in_transaction = ap (λ h. h.in_transaction) c.transaction-tx.ensures.begun in
    let late : HasCleanDisk (state g.S.Store c.rollback-in-Err.new.self.0) = search rules in
    let early : HasCleanDisk (state g.S.Store c.raise_found-found.new.tables.tx.now.conn.now) = search (rules, c.rollback-in-Err.ensures.survives.clean) in
    let told = subst (λ h. IsToldFrom g.S.Store h (Err c.in-Err.fault)) c.transaction-tx.ensures.begun (c.in-Err.ensures.told early inside) in
    inr told
