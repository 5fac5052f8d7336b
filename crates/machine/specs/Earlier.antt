-- machines whose earlier cards and lines are kept elsewhere
use Rattle.std.specs.Prelude.{◌≡◌, ◌++◌, List, [], length}
use Rattle.units.specs.Printed.{Printed}
use Rattle.units.specs.Stacked.{Stacked}
use Rattle.units.specs.Units.{made_in_all, nothing_made}
use Rattle.units.specs.declared.printer.Line.{Line}
use Rattle.units.specs.declared.punch.Punched.{Punched}
use Rattle.units.specs.declared.units.Counts.{Counts}
use Rattle.units.specs.declared.units.Units.{Units}
use Rattle.machine.specs.Effect.{Works}
use Rattle.machine.specs.Run.{State}

-- how many cards and lines these are
abbrev pub counts_of : List Punched → List Line → Counts
counts_of cards lines = record { cards = length cards; lines = length lines }

-- a punch with these cards in front of its own
abbrev pub punch_with : List Punched → Stacked → Stacked
punch_with cards p = record p { cards = cards ++ p.cards }

-- a printer with these lines in front of its own
abbrev pub printer_with : List Line → Printed → Printed
printer_with lines p = record p { lines = lines ++ p.lines }

-- units with these cards and lines in front of their own, and none elsewhere
abbrev pub units_with : List Punched → List Line → Units → Units
units_with cards lines u = record u {
  before = nothing_made;
  punch = punch_with cards u.punch;
  printer = printer_with lines u.printer;
}

-- storage, registers and units, these with these cards and lines in front of their own
abbrev pub works_with : List Punched → List Line → Works → Works
works_with cards lines w = record w { units = units_with cards lines w.units }

-- a machine with these cards and lines in front of its own, and none elsewhere
abbrev pub with_earlier : List Punched → List Line → State → State
with_earlier cards lines m = record m { works = works_with cards lines m.works }

-- as many cards and lines as these were made before those of the units
abbrev pub AreBehind : List Punched → List Line → Units → Type 0
AreBehind cards lines u = u.before ≡ counts_of cards lines

-- as many cards and lines as these were made before the machine's own
abbrev pub IsBehind : List Punched → List Line → State → Type 0
IsBehind cards lines m = AreBehind cards lines m.works.units

-- units without their cards and lines, which only count
abbrev pub units_alone : Units → Units
units_alone u = record u {
  before = made_in_all u;
  punch = record u.punch { cards = [] };
  printer = record u.printer { lines = [] };
}

-- a machine without its cards and lines, which only count
abbrev pub without_outputs : State → State
without_outputs m = record m { works = record m.works { units = units_alone m.works.units } }
