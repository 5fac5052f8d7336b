use Rattle.std.proofs.Common.{All, List, ◌++◌, take}
use Rattle.units.specs.declared.printer.Line.{Line}
use Rattle.ledger_rows.specs.Columns.{IsLine}
use Rattle.ledger_tables.specs.Steps.{Inside}
use Rattle.ledger_tables.specs.Tables.{Tables, Holds}
use Rattle.ledger_tables.proofs.Stepping.{HasStepped}
use Rattle.ledger.specs.Saving.{with_all_lines, HasLineRows}
use Rattle.ledger.proofs.saving.insert_lines.Given as goal

abbrev pub invariant-loop-place : goal.invariant-loop-place
invariant-loop-place g l = record {
  step : HasStepped g.S.Store l.fn.tables l.tables;
  characters : All IsLine (take l.place l.lines);
  added : (earlier : List Line) → Inside g.S.Store l.fn.tables l.tables (λ old new. (t : Tables) → Holds old.now t
      → HasLineRows l.name l.before earlier t → Holds new.now (with_all_lines l.name (earlier ++ take l.place l.lines) t));
}
