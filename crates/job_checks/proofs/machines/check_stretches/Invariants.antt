use Rattle.office_tables.specs.Standing.{stretch_row}
use Rattle.ledger_tables.specs.Tables as row
use Rattle.job_checks.specs.Kept.{rows_of_stretches}
use Rattle.job_checks.specs.Tables.{rows_of}
use Rattle.job_checks.proofs.PlacedLemmas.{Leads, placed_from}
use Rattle.job_checks.proofs.machines.check_stretches.Given as goal

abbrev pub invariant-loop-at : goal.invariant-loop-at
invariant-loop-at l = Leads (rows_of l.name.customer.now l.name.number l.fn.rows) (rows_of_stretches l.name.customer.now l.name.number l.stretches)
    (rows_of l.name.customer.now l.name.number l.rest) (placed_from (row.stretch_row l.name.customer.now l.name.number) stretch_row 0 l.stretches l.at)
