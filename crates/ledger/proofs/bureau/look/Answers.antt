use Rattle.std.proofs.Common.{◌≡◌, inl, inr, false, IsTrue, sym, ap, subst, rules}
use Rattle.sqlite.specs.State.{HasCleanDisk, IsRolledBack, Survives}
use Rattle.sqlite.specs.Held.{state}
use Rattle.ledger_tables.specs.Versions.{IsFoundVersion}
use Rattle.ledger_tables.specs.Schema.{own_version}
use Rattle.ledger.specs.Adopting.{IsTold}
use Rattle.ledger.proofs.BureauTransactions.{kept_by, rolled_untouched}
use Rattle.ledger.proofs.BureauVersions.{own_is_known, own_version_is}
use Rattle.ledger.proofs.BureauResults.{err_under, ok_under}
use Rattle.ledger.proofs.bureau.look.Goals as goal

pub returns-clause-known : goal.returns-clause-known
returns-clause-known g c =
    let begun = c.transaction-tx.ensures.begun in
    let mid = c.find_version-found.new.self.tx.now.conn.now in
    let end = c.rollback.new.self.0 in
    let inside : IsTrue c.transaction-tx.result.conn.now.in_transaction = ap (λ h. h.in_transaction) begun in
    err_under c.find_version-found.result _ _ _
    (λ clean. let late : HasCleanDisk (state g.S.Store end) = search rules in
    let early : HasCleanDisk (state g.S.Store mid) = search (rules, c.rollback.ensures.survives.clean) in
    c.find_version-found.ensures.known early inside)
    (λ fault clean known office s. own_is_known fault (known own_version (λ opened. own_version_is (state g.S.Store c.transaction-tx.result.conn.now).now office (rw begun (s.now (rw begun at opened))))))

pub returns-clause-version : goal.returns-clause-version
returns-clause-version g c =
    let begun = c.transaction-tx.ensures.begun in
    let mid = c.find_version-found.new.self.tx.now.conn.now in
    let end = c.rollback.new.self.0 in
    let inside : IsTrue c.transaction-tx.result.conn.now.in_transaction = ap (λ h. h.in_transaction) begun in
    ok_under c.find_version-found.result _ _ _
    (λ clean. let late : HasCleanDisk (state g.S.Store end) = search rules in
    let early : HasCleanDisk (state g.S.Store mid) = search (rules, c.rollback.ensures.survives.clean) in
    c.find_version-found.ensures.version early inside)
    (λ clean version. let here = rw begun at version in (here.0, λ ours. here.1 (inl ours)))

pub returns-clause-told : goal.returns-clause-told
returns-clause-told g c clean =
    let begun = c.transaction-tx.ensures.begun in
    let tx = c.transaction-tx.result.conn.now in
    let mid = c.find_version-found.new.self.tx.now.conn.now in
    let end = c.rollback.new.self.0 in
    let same : end ≡ c.conn-1.given.0 = search rules in
    let inside : IsTrue tx.in_transaction = ap (λ h. h.in_transaction) begun in
    let late : HasCleanDisk (state g.S.Store end) = search rules in
    let early : HasCleanDisk (state g.S.Store mid) = search (rules, c.rollback.ensures.survives.clean) in
    let step = c.find_version-found.ensures.step in
    let to_last : mid ≡ c.tx-2-1.given.0.conn.now = search rules in
    let back = subst (λ h. IsRolledBack (state g.S.Store h) (state g.S.Store end)) (sym to_last) (c.rollback.ensures.undone late) in
    let two = subst (λ h. Survives (state g.S.Store h) (state g.S.Store end) (λ _. ⊥)) (sym to_last) c.rollback.ensures.survives in
    let settled : IsTrue (state g.S.Store c.args.conn.now).is_open → (state g.S.Store c.args.conn.now).now ≡ (state g.S.Store c.args.conn.now).committed = search rules in
    let outside : c.args.conn.now.in_transaction ≡ false = search rules in
    let all = rolled_untouched g.S.Store c.args.conn.now tx mid end begun settled outside (kept_by _ _ c.find_version-found.result (step.frame early inside)) step.survives early back two late in
    let found = subst (λ h. IsFoundVersion (state g.S.Store h) (state g.S.Store mid) c.find_version-found.result) begun (c.find_version-found.ensures.found early inside) in
    subst (λ h. IsTold g.S.Store c.args.conn.now h c.find_version-found.result) same (λ _. (all, inr (mid, found, back))) clean
