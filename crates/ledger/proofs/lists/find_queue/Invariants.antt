use Rattle.std.proofs.Common.{◌≡◌, map, take}
use Rattle.std.specs.List.{AllByRecursion}
use Rattle.office.specs.Office.{Entry, Office, free_jobs, queued_job}
use Rattle.ledger_tables.proofs.Stepping.{HasStepped}
use Rattle.ledger_tables.specs.Listed.{queued_name}
use Rattle.ledger_tables.specs.Steps.{Inside}
use Rattle.ledger.specs.Listed.{IsIts}
use Rattle.office_tables.specs.Standing.{named, StandsIn}
use Rattle.ledger.proofs.lists.find_queue.Given as goal

abbrev pub invariant-loop-row : goal.invariant-loop-row
invariant-loop-row g l = record {
  step : HasStepped g.S.Store l.fn.tables l.tables;
  found : Inside g.S.Store l.fn.tables l.tables (λ before after. (office : Office) → StandsIn before office
      → StandsIn after office × ((entries : Office) → l.rows ≡ map (λ (e : Entry). queued_name (named e)) entries → AllByRecursion (IsIts office) entries
      → l.queue.items ≡ map queued_job (free_jobs (take l.row-index entries))));
}
