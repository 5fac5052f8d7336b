use Rattle.units.specs.declared.punch.Punched.{Punched}
use Rattle.ledger_rows.specs.Pockets.{pocket_cell}
use Rattle.ledger_tables.specs.Tables.{pocket_row}
use Rattle.job_checks.specs.Kept.{rows_of_pockets}
use Rattle.job_checks.specs.Tables.{rows_of}
use Rattle.job_checks.proofs.PlacedLemmas.{Leads, some_from}
use Rattle.job_checks.proofs.machines.check_pockets.Given as goal

abbrev pub invariant-loop-at : goal.invariant-loop-at
invariant-loop-at l = Leads (rows_of l.name.customer.now l.name.number l.fn.rows) (rows_of_pockets l.name.customer.now l.name.number l.cards)
    (rows_of l.name.customer.now l.name.number l.rest) (some_from (λ (c : Punched). pocket_cell c.pocket) (pocket_row l.name.customer.now l.name.number) 1 l.cards l.at)
