use Rattle.std.proofs.Common.{◌≡◌, inr, [], false, true, sym, ap, subst, arith, rules, IsTrue}
use Rattle.sqlite.specs.State.{HasCleanDisk, IsRolledBack, Survives}
use Rattle.sqlite.specs.Held.{state}
use Rattle.ledger_tables.specs.Making.{IsStopped, is_taken}
use Rattle.ledger_tables.specs.Tables.{Holds, no_rows}
use Rattle.ledger.specs.Adopting.{MakesNothing}
use Rattle.office_tables.specs.Standing.{StandsIn, Stands}
use Rattle.ledger.proofs.BureauTransactions.{committed_stands, kept_by, rolled_untouched}
use Rattle.ledger.proofs.bureau.make.Goals as goal

pub returns-in-Ok-commit-clause-made : goal.returns-in-Ok-commit-clause-made
returns-in-Ok-commit-clause-made g c clean empty =
    let begun = c.transaction-tx.ensures.begun in
    let mid = c.make-made.new.self.tx.now.conn.now in
    let last = c.tx-2-1.given.0.conn.now in
    let end = c.commit.new.self.0 in
    let back : mid ≡ last = search rules in
    let same : end ≡ c.conn-1.given.0 = search rules in
    let late : HasCleanDisk (state g.S.Store end) = search rules in
    let tried : HasCleanDisk (state g.S.Store last) = omega (arith, c.commit.ensures.survives.clean) in
    let early : HasCleanDisk (state g.S.Store mid) = rw back tried in
    let inside : IsTrue c.transaction-tx.result.conn.now.in_transaction = ap (λ h. h.in_transaction) begun in
    let holds = subst (λ h. Holds (state g.S.Store h).now no_rows) back (c.in-Ok.ensures.made early inside (rw begun empty)) in
    let rows : StandsIn (state g.S.Store last) [] = record { tables = holds; jobs = tt } in
    subst (λ h. Stands (state g.S.Store h) []) same (committed_stands (state g.S.Store last) (state g.S.Store end) [] (λ db opened may. g.met.S.Store.settled end.store db opened may) rows (c.in-Ok-commit.ensures.ok late).1)

pub returns-in-Err-clause-taken : goal.returns-in-Err-clause-taken
returns-in-Err-clause-taken g c clean taken =
    let begun = c.transaction-tx.ensures.begun in
    let tx = c.transaction-tx.result.conn.now in
    let mid = c.make-made.new.self.tx.now.conn.now in
    let end = c.rollback.new.self.0 in
    let same : end ≡ c.conn-in-Err-1.given.0 = search rules in
    let inside : IsTrue tx.in_transaction = ap (λ h. h.in_transaction) begun in
    let late : HasCleanDisk (state g.S.Store end) = search rules in
    let early : HasCleanDisk (state g.S.Store mid) = search (rules, c.rollback.ensures.survives.clean) in
    let step = c.make-made.ensures.step in
    let to_last : mid ≡ c.tx-2-1.given.0.conn.now = search rules in
    let back = subst (λ h. IsRolledBack (state g.S.Store h) (state g.S.Store end)) (sym to_last) (c.rollback.ensures.undone late) in
    let two = subst (λ h. Survives (state g.S.Store h) (state g.S.Store end) (λ _. ⊥)) (sym to_last) c.rollback.ensures.survives in
    let settled : IsTrue (state g.S.Store c.args.conn.now).is_open → (state g.S.Store c.args.conn.now).now ≡ (state g.S.Store c.args.conn.now).committed = search rules in
    let outside : c.args.conn.now.in_transaction ≡ false = search rules in
    let all = rolled_untouched g.S.Store c.args.conn.now tx mid end begun settled outside (kept_by _ _ c.make-made.result (step.frame early inside)) step.survives early back two late in
    let stopped = subst (λ h. is_taken (state g.S.Store h).now.schema ≡ true → IsStopped (state g.S.Store h) (state g.S.Store mid) c.in-Err.fault) begun (c.in-Err.ensures.taken early inside) taken in
    subst (λ h. MakesNothing g.S.Store c.args.conn.now h c.in-Err.fault) same (all, inr (mid, stopped, back))
