use Rattle.std.proofs.Common.{◌≡◌, map}
use Rattle.std.specs.List.{AllByRecursion}
use Rattle.office.specs.Office.{Entry, Office}
use Rattle.ledger_tables.proofs.Stepping.{HasStepped}
use Rattle.ledger_tables.specs.Listed.{queued_name}
use Rattle.ledger_tables.specs.Steps.{Inside}
use Rattle.ledger_tables.specs.Tables.{HoldsAs, pictured}
use Rattle.ledger.specs.Older.{storages_of, with_first_pages}
use Rattle.office_tables.specs.Standing.{named, CanBeKept}
use Rattle.ledger.proofs.migrating.raise_rows.Given as goal

abbrev pub invariant-loop-row : goal.invariant-loop-row
invariant-loop-row g l = record {
  step : HasStepped g.S.Store l.fn.tables l.tables;
  raised : Inside g.S.Store l.fn.tables l.tables (λ before after. (office : Office) → AllByRecursion (λ (e : Entry). CanBeKept e.job) office → l.rows ≡ map (λ (e : Entry). queued_name (named e)) office
      → HoldsAs (pictured (storages_of office)) 1 before.now (with_first_pages 0 office) → HoldsAs (pictured (storages_of office)) 1 after.now (with_first_pages l.row-index office));
}
