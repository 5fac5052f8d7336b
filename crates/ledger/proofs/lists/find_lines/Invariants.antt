use Rattle.std.proofs.Common.{◌≡◌, map, take}
use Rattle.std.specs.List.{AllByRecursion}
use Rattle.office.specs.Office.{Entry, Office, job_line}
use Rattle.ledger_tables.proofs.Stepping.{HasStepped}
use Rattle.ledger_tables.specs.Listed.{name_row}
use Rattle.ledger_tables.specs.Steps.{Inside}
use Rattle.ledger.specs.Listed.{IsHis}
use Rattle.office_tables.specs.Standing.{named, StandsIn}
use Rattle.ledger.proofs.lists.find_lines.Given as goal

abbrev pub invariant-loop-row : goal.invariant-loop-row
invariant-loop-row g l = record {
  step : HasStepped g.S.Store l.fn.tables l.tables;
  found : Inside g.S.Store l.fn.tables l.tables (λ before after. (office : Office) → StandsIn before office
      → StandsIn after office × ((entries : Office) → l.rows ≡ map (λ (e : Entry). name_row (named e)) entries → AllByRecursion (IsHis l.customer office) entries
      → l.lines.items ≡ map job_line (take l.row-index entries)));
}
