-- pictures and their rows
use Rattle.std.proofs.Common.{◌≡◌, ◌≤◌, List, [], ◌∷◌, ap}
use Rattle.units.specs.declared.printer.Line.{Line}
use Rattle.units.specs.Carriages.{lines_of_form}
use Rattle.units.specs.declared.carriage.Carriage.{Carriage}
use Rattle.machine.specs.Ranges.{IsInRange}
use Rattle.units.specs.Ranges.{AreRising, carriage_place, line_place, places_then, the_top}
use Rattle.machine.specs.Run.{State, lines_of}
use Rattle.ledger_rows.specs.declared.parts.Media.{Media}
use Rattle.ledger_rows.specs.Pictures.{HasState}
use Rattle.ledger_rows.specs.Columns.{state_row}
use Rattle.ledger_rows.specs.Rows.{HasCarriage, HasUnits}
use Rattle.ledger_tables.specs.declared.rows.StateRow.{StateRow}

below_line : (c : Carriage) (l : Line) (lines : List Line) → AreRising (line_place l) (places_then (carriage_place c) lines) → c.line ≤ lines_of_form
below_line c l [] rising = rising.0.0.3
below_line c l (m ∷ lines) rising = below_line c m lines rising.1

below_all : (c : Carriage) (lines : List Line) → AreRising the_top (places_then (carriage_place c) lines) → c.line ≤ lines_of_form
below_all c [] rising = rising.0.0.3
below_all c (l ∷ lines) rising = below_line c l lines rising.1

-- the carriage stands on a form
pub carriage_line : (m : State) → IsInRange m → m.works.units.printer.carriage.line ≤ lines_of_form
carriage_line m range = below_all m.works.units.printer.carriage (lines_of m) range.units.printer.places

pub has_carriage : (row : StateRow) (m : State) → row ≡ state_row m → HasCarriage row m.works.units.printer.carriage
has_carriage row m row_is = record {
  form = ap (λ (r : StateRow). r.form) row_is;
  line = ap (λ (r : StateRow). r.line) row_is;
  waiting = ap (λ (r : StateRow). r.waiting) row_is;
  channel = ap (λ (r : StateRow). r.channel) row_is;
}

pub has_units : (row : StateRow) (media : Media) (m : State) → HasState row media m → HasUnits row media m.works.units
has_units row media m pictured = record {
  deck = pictured.deck;
  taken = ap (λ (r : StateRow). r.taken) pictured.row_is;
  switches = pictured.switches;
  punch = pictured.punch;
  cards = ap (λ (r : StateRow). r.cards) pictured.row_is;
  printed = pictured.lines;
  lines = ap (λ (r : StateRow). r.lines) pictured.row_is;
  carriage = has_carriage row m pictured.row_is;
}
