use Rattle.std.proofs.Common.{rules}
use Rattle.office.proofs.JobMeters.{on_err}
use Rattle.units.specs.declared.punch.Punched.{Punched}
use Rattle.ledger_rows.specs.Pockets.{pocket_cell}
use Rattle.ledger_tables.specs.Tables.{pocket_row}
use Rattle.job_checks.proofs.PlacedLemmas.{some_fails}
use Rattle.job_checks.proofs.machines.check_pockets.Goals as goal

pub returns-in_err-rest-clause-other : goal.returns-in_err-rest-clause-other
returns-in_err-rest-clause-other c =
    on_err c.from_residual.result _
    (some_fails (λ (c : Punched). pocket_cell c.pocket) (pocket_row c.args.name.customer.now c.args.name.number) 1 c.args.cards.now c.loop-at.at c.index-cards-at.result _ _ _ _ c.loop-at-test.true c.loop-at.invariant c.in_err-rest.ensures.other (search rules))
