-- what is in range for the units, and what an operation keeps of them
use Rattle.std.specs.Prelude.{ℕ, ◌+◌, ◌<◌, ◌≤◌, ◌≡◌, ◌⊎◌, List, [], ◌∷◌, ◌++◌, length, map, take}
use Rattle.units.specs.declared.carriage.Carriage.{Carriage}
use Rattle.units.specs.Carriages.{lines_of_form, last_form}
use Rattle.units.specs.declared.printer.Line.{Line}
use Rattle.units.specs.Units.{most_lines, most_cards}
use Rattle.units.specs.declared.ranges.Place.{Place}
use Rattle.units.specs.declared.reader.Hopper.{Hopper}
use Rattle.units.specs.declared.units.Units.{Units}
use Rattle.units.specs.Printed.{Printed}
use Rattle.units.specs.Switches.{AreSeven}

-- the form and line at which a line was printed
abbrev pub line_place : Line → Place
line_place l = record { form = l.form; line = l.line }

-- the form and line at which the carriage is
abbrev pub carriage_place : Carriage → Place
carriage_place c = record { form = c.form; line = c.line }

-- a place is at one of the lines of one of the forms
abbrev pub IsOnForm : Place → Type 0
IsOnForm p = (1 ≤ p.form) × (p.form ≤ last_form) × (1 ≤ p.line) × (p.line ≤ lines_of_form)

-- a place is at a line of a form, and below another: on a later form, or further down on the same
-- one
abbrev pub IsBelow : Place → Place → Type 0
IsBelow above p = IsOnForm p
    × ((above.form < p.form) ⊎ ((above.form ≡ p.form) × (above.line < p.line)))

-- each of these places is below the one before it
abbrev pub AreRising : Place → List Place → Type 0
AreRising above [] = Unit {0}
AreRising above (p ∷ places) = IsBelow above p × AreRising p places

-- the places of the printed lines, and then that of the carriage
abbrev pub places_then : Place → List Line → List Place
places_then carriage lines = map line_place lines ++ carriage ∷ []

-- the place above the first form
abbrev pub the_top : Place
the_top = record { form = 0; line = 0 }

-- the printer's lines and carriage are in range: not too many lines, with so many made before them,
-- each below the one before, the carriage below all
pub record HasPrinted (before : ℕ) (p : Printed) : Type 0 where
  pub most : before + length p.lines ≤ most_lines
  pub places : AreRising the_top (places_then (carriage_place p.carriage) p.lines)

-- the reader's count of cards is in range: at least the one that the load button reads, at most the
-- deck's
pub record HasRead (h : Hopper) : Type 0 where
  pub some : 1 ≤ h.taken
  pub most : h.taken ≤ length h.deck

-- all units and the switches are in range: not too many cards, with those made before them
pub record AreUnits (u : Units) : Type 0 where
  pub reader : HasRead u.hopper
  pub punch : u.before.cards + length u.punch.cards ≤ most_cards
  pub printer : HasPrinted u.before.lines u.printer
  pub switches : AreSeven u.switches

-- an operation keeps the deck, the switches, the profile and the counts of what was made before,
-- and the cards and lines there were as the first of those after it
pub record OnlyAdds (u after : Units) : Type 0 where
  pub deck : after.hopper.deck ≡ u.hopper.deck
  pub before : after.before ≡ u.before
  pub switches : after.switches ≡ u.switches
  pub profile : after.punch.profile ≡ u.punch.profile
  pub cards : take (length u.punch.cards) after.punch.cards ≡ u.punch.cards
  pub lines : take (length u.printer.lines) after.printer.lines ≡ u.printer.lines
