use Rattle.ledger_tables.specs.Steps.{seen}
use Rattle.ledger.proofs.Offices.{if_ok_then}
use Rattle.ledger.proofs.Replies.{not_new, new_taken}
use Rattle.ledger.proofs.submissions.submit_new.Goals as goal

pub returns-in-Ok-clause-done : goal.returns-in-Ok-clause-done
returns-in-Ok-clause-done g c clean inside =
    let made = rw c.in-Ok.is at c.in_ok-new.ensures.job in
    let is = rw made at c.new_job.ensures.job in
    if_ok_then _ _ c.add.result (λ reply done office free s.
    new_taken (seen g.S.Store c.add.new.tables) c.args.name.customer.now c.args.name.number c.args.contents.now is.job office reply is.taken (done office free s))
    (c.add.ensures.done is.job (record { taken = is.taken; kept_is = is.kept_is }) clean inside)

pub returns-in-Err-clause-done : goal.returns-in-Err-clause-done
returns-in-Err-clause-done g c clean inside office free s =
    let made = rw c.in-Err.is at c.in_ok-new.ensures.refused in
    let why = rw made at c.new_job.ensures.refused in
    not_new (seen g.S.Store c.args.tables.now) c.args.name.customer.now c.args.name.number c.args.contents.now c.in-Err.reason office why s
