use Rattle.std.proofs.Common.{arith}
use Rattle.sqlite.specs.State.{HasCleanDisk}
use Rattle.ledger_tables.specs.Steps.{seen}
use Rattle.ledger.proofs.BureauResults.{store_passed}
use Rattle.ledger.proofs.Offices.{if_ok_then, job_is, not_absent}
use Rattle.ledger.proofs.Replies.{served_again, served_new}
use Rattle.ledger.proofs.submissions.submit.Goals as goal

pub returns-in_ok-reply-in-Some-clause-done : goal.returns-in_ok-reply-in-Some-clause-done
returns-in_ok-reply-in-Some-clause-done g c clean inside office s =
    let found = rw c.in-Some.is at (c.in_ok-handed.ensures.found clean inside office s) in
    let job = found.1.0 in
    let kept = job_is c.args.name.customer.now c.args.name.number office job s.jobs found.1.1 in
    served_again (seen g.S.Store c.find_handed.new.tables) c.args.name.customer.now c.args.name.number c.args.contents.now office job c.in_ok-reply-in-Some.reply found.1.1
    (c.in_ok-reply-in-Some.ensures.reply job found.1.2 found.1.3 kept) found.0

pub returns-in-None-clause-done : goal.returns-in-None-clause-done
returns-in-None-clause-done g c clean inside =
    let early : HasCleanDisk (seen g.S.Store c.find_handed.new.tables) = omega (arith, c.submit_new.ensures.step.survives.clean) in
    let on = c.in_ok-handed.ensures.step.frame early inside in
    if_ok_then _ _ c.submit_new.result (λ reply done office s.
    let found = rw c.in-None.is at (c.in_ok-handed.ensures.found early inside office s) in
    served_new (seen g.S.Store c.submit_new.new.tables) c.args.name.customer.now c.args.name.number c.args.contents.now office reply found.1 (done office found.1 found.0)) (c.submit_new.ensures.done clean on.inside)

pub returns-in_err-handed-clause-failed : goal.returns-in_err-handed-clause-failed
returns-in_err-handed-clause-failed g c job clean inside store office has is =
    c.in_err-handed.ensures.failed clean inside (store_passed c.from_residual.result _ c.from_residual.ensures.1 store) office has tt

pub returns-in_err-reply-in-Some-clause-failed : goal.returns-in_err-reply-in-Some-clause-failed
returns-in_err-reply-in-Some-clause-failed g c job clean inside store office has is =
    let s = has (c.in_ok-handed.ensures.step.opened clean) in
    let found = rw c.in-Some.is at (c.in_ok-handed.ensures.found clean inside office s) in
    let kept = job_is c.args.name.customer.now c.args.name.number office found.1.0 s.jobs found.1.1 in
    absurd (c.in_err-reply-in-Some.ensures.store (store_passed c.from_residual-in_err-reply-in-Some.result _ c.from_residual-in_err-reply-in-Some.ensures.1 store) found.1.0 found.1.2 kept)

pub returns-in-None-clause-failed : goal.returns-in-None-clause-failed
returns-in-None-clause-failed g c job clean inside store office has is =
    let early : HasCleanDisk (seen g.S.Store c.find_handed.new.tables) = omega (arith, clean, c.submit_new.ensures.step.survives.clean) in
    let s = has (c.in_ok-handed.ensures.step.opened early) in
    let found = rw c.in-None.is at (c.in_ok-handed.ensures.found early inside office s) in
    absurd (not_absent job _ is found.1)
