use Rattle.std.proofs.Common.{◌≡◌, ◌≤◌, ◌⊎◌, sym, ap, subst, arith, rules, IsTrue}
use Rattle.sqlite.specs.State.{HasCleanDisk}
use Rattle.sqlite.specs.Held.{state}
use Rattle.sqlite.specs.Steps.{FailsToCommit}
use Rattle.office.specs.Office.{served, attempted_by}
use Rattle.ledger_tables.specs.Steps.{HasFailed}
use Rattle.ledger.specs.Replying.{LacksRoom}
use Rattle.office_tables.specs.Standing.{StandsIn, Stands}
use Rattle.ledger.proofs.BureauTransactions.{committed_stands, commit_failed}
use Rattle.ledger.proofs.bureau.transact.Goals as goal

pub returns-in-Ok-commit-clause-reply : goal.returns-in-Ok-commit-clause-reply
returns-in-Ok-commit-clause-reply g c clean office s =
    let begun = c.transaction-tx.ensures.begun in
    let mid = c.serve-result.new.tables.tx.now.conn.now in
    let last = c.tx-2-1.given.0.conn.now in
    let end = c.commit.new.self.0 in
    let back : mid ≡ last = search rules in
    let same : end ≡ c.conn-1.given.0 = search rules in
    let late : HasCleanDisk (state g.S.Store end) = search rules in
    let tried : HasCleanDisk (state g.S.Store last) = omega (arith, c.commit.ensures.survives.clean) in
    let early : HasCleanDisk (state g.S.Store mid) = rw back tried in
    let inside : IsTrue c.transaction-tx.result.conn.now.in_transaction = ap (λ h. h.in_transaction) begun in
    let first : StandsIn (state g.S.Store c.transaction-tx.result.conn.now) office = rw begun (s.now (rw begun at (c.in-Ok.ensures.step.opened early))) in
    let done = c.in-Ok.ensures.done early inside office first in
    let new = (served c.args.command.now office).0 in
    let rows = subst (λ h. StandsIn (state g.S.Store h) new) back done.stands in
    (done.reply_is, subst (λ h. Stands (state g.S.Store h) new) same (committed_stands (state g.S.Store last) (state g.S.Store end) new (λ db opened may. g.met.S.Store.settled end.store db opened may) rows (c.in-Ok-commit.ensures.ok late).1))

pub returns-in-Err-commit-clause-given_up : goal.returns-in-Err-commit-clause-given_up
returns-in-Err-commit-clause-given_up g c clean office s =
    let begun = c.transaction-tx.ensures.begun in
    let mid = c.serve-result.new.tables.tx.now.conn.now in
    let end = c.commit.new.self.0 in
    let late : HasCleanDisk (state g.S.Store end) = search rules in
    let early : HasCleanDisk (state g.S.Store mid) = search (rules, c.commit.ensures.survives.clean) in
    let inside : IsTrue c.transaction-tx.result.conn.now.in_transaction = ap (λ h. h.in_transaction) begun in
    let first : StandsIn (state g.S.Store c.transaction-tx.result.conn.now) office = rw begun (s.now (rw begun at (c.in-Ok.ensures.step.opened early))) in
    let often = attempted_by c.args.command.now office in
    record { ticks = often; most = omega arith; is = c.in-Ok.ensures.meter early inside office first }

pub returns-in-Err-commit-clause-failed : goal.returns-in-Err-commit-clause-failed
returns-in-Err-commit-clause-failed g c clean store office s reads =
    let begun = c.transaction-tx.ensures.begun in
    let mid = c.serve-result.new.tables.tx.now.conn.now in
    let last = c.tx-2-1.given.0.conn.now in
    let end = c.commit.new.self.0 in
    let back : mid ≡ last = search rules in
    let late : HasCleanDisk (state g.S.Store end) = search rules in
    let early : HasCleanDisk (state g.S.Store mid) = search (rules, c.commit.ensures.survives.clean) in
    let inside : IsTrue c.transaction-tx.result.conn.now.in_transaction = ap (λ h. h.in_transaction) begun in
    let on = c.in-Ok.ensures.step.frame early inside in
    let later : (state g.S.Store mid).faults ≤ (state g.S.Store end).faults = subst (λ h. (state g.S.Store h).faults ≤ (state g.S.Store end).faults) (sym back) c.commit.ensures.survives.counts in
    let fails = subst (λ h. FailsToCommit (state g.S.Store h) (state g.S.Store end) c.in-Err-commit.field-0) (sym back) (c.in-Err-commit.ensures.err late) in
    let same : end ≡ c.conn-1.given.0 = search rules in
    subst (λ h. HasFailed (state g.S.Store c.args.conn.now) (state g.S.Store h) ⊎ LacksRoom g.S.Store c.args.conn.now h) same
    (commit_failed g.S.Store c.args.conn.now c.transaction-tx.result.conn.now mid end begun on.kept c.in-Ok.ensures.step.survives (c.in-Ok.ensures.step.opened early) on.inside early later _ fails)
