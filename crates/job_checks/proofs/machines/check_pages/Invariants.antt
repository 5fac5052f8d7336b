use Rattle.std.proofs.Common.{List, ℕ, Some}
use Rattle.core_store.specs.Pages.{cells_of, page_count}
use Rattle.ledger_tables.specs.Cells.{unless_blank}
use Rattle.ledger_tables.specs.Tables.{page_row}
use Rattle.job_checks.specs.Kept.{rows_of_pages}
use Rattle.job_checks.specs.Tables.{rows_of, pages_from}
use Rattle.job_checks.proofs.PlacedLemmas.{Leads, some_from}
use Rattle.job_checks.proofs.machines.check_pages.Given as goal

abbrev pub invariant-loop-page : goal.invariant-loop-page
invariant-loop-page l = Leads (rows_of l.name.customer.now l.name.number l.fn.rows) (rows_of_pages l.name.customer.now l.name.number (cells_of l.core))
    (rows_of l.name.customer.now l.name.number l.rest) (some_from (λ (bytes : List ℕ). unless_blank (Some bytes)) (page_row l.name.customer.now l.name.number) 0 (pages_from (cells_of l.core) 0 (page_count (cells_of l.core))) l.page)
