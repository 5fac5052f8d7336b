use Rattle.ledger_tables.proofs.Frames.{on_ok_then}
use Rattle.ledger.proofs.SavingLemmas.{last_granted}
use Rattle.ledger.proofs.saving.set_last_granted.Goals as goal

pub returns-clause-set : goal.returns-clause-set
returns-clause-set g c clean inside =
    let found = c.in_ok-place.ensures in
    on_ok_then c.set_granted.result _ _ (λ did t holds was. last_granted _ t c.args.name.customer.now c.args.name.number was.1 c.in_ok-place.place was.0 c.args.stretches.now c.in_ok-place.last.now was.2 was.3 found.0 found.1 found.2 (did t holds))
    (c.set_granted.ensures.set clean inside)
