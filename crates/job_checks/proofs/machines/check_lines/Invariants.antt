use Rattle.std.proofs.Common.{All, take}
use Rattle.ledger_rows.specs.Columns.{line_cells, IsLine}
use Rattle.ledger_tables.specs.Tables as row
use Rattle.job_checks.specs.Kept.{rows_of_lines}
use Rattle.job_checks.specs.Tables.{rows_of}
use Rattle.job_checks.proofs.PlacedLemmas.{Leads, placed_from}
use Rattle.job_checks.proofs.machines.check_lines.Given as goal

abbrev pub invariant-loop-at : goal.invariant-loop-at
invariant-loop-at l = Leads (rows_of l.name.customer.now l.name.number l.fn.rows) (rows_of_lines l.name.customer.now l.name.number l.lines)
    (rows_of l.name.customer.now l.name.number l.rest) (placed_from (row.line_row l.name.customer.now l.name.number) line_cells 1 l.lines l.at)
    × All IsLine (take l.at l.lines)
