-- the carriage of the printer, and the orders to it
use Rattle.std.specs.Prelude.{ℕ, ◌+◌, ◌-◌, nat_le, nat_lt, ◌&&◌, ◌||◌, ◌==◌, Bool, false, if◌then◌else◌, List, [], ◌∷◌, Option, Some, None, Result, Ok, unwrap_or, codes}
use Rattle.bcd.specs.Table.{glyph_of, byte}
use Rattle.core_store.specs.Checked.{find_or}
use Rattle.core_store.specs.declared.checks.Check.{Check}
use Rattle.core_store.specs.declared.checks.Check.TheVariants.{PrinterFull}
use Rattle.units.specs.declared.carriage.Carriage.{Carriage}
use Rattle.units.specs.declared.carriage.CarriageOrder.{CarriageOrder}
use Rattle.units.specs.declared.carriage.CarriageOrder.TheVariants.{Now, AfterLine}
use Rattle.units.specs.declared.carriage.Motion.{Motion}
use Rattle.units.specs.declared.carriage.Motion.TheVariants.{Space, DoubleSpace, TripleSpace, SkipToChannel1}
use Rattle.units.specs.Printed.{Printed}

-- the number of lines of a form
abbrev pub lines_of_form : ℕ
lines_of_form = 66

-- the line of a form at which the carriage tape has the hole of channel 12
abbrev pub line_of_channel_12 : ℕ
line_of_channel_12 = 60

-- the last form that the printer prints on
abbrev pub last_form : ℕ
last_form = 2000000000

-- the carriage at this line of the next form, if there is a form left
abbrev pub on_next_form : Carriage → ℕ → Option Carriage
on_next_form c line =
    if nat_lt c.form last_form then Some (record c { form = c.form + 1; line = line }) else None

-- whether channel 12 is on after spacing so many lines: it was on, or its line was reached or
-- passed
abbrev pub sensed : Carriage → ℕ → Bool
sensed c count =
    c.channel_12 || (nat_lt c.line line_of_channel_12 && nat_le line_of_channel_12 (c.line + count))

-- the carriage so many lines further down, on the next form if this one ends, if there is one
abbrev pub spaced : Carriage → ℕ → Option Carriage
spaced c count =
    if nat_le (c.line + count) lines_of_form
    then Some (record c { line = c.line + count; channel_12 = sensed c count })
    else on_next_form (record c { channel_12 = sensed c count }) (c.line + count - lines_of_form)

-- the carriage at line 1 of the next form, with channel 12 off
abbrev pub skipped : Carriage → Option Carriage
skipped c = on_next_form (record c { channel_12 = false }) 1

-- the carriage after a motion, if there is a form left for it
unfoldable pub moved_by : Motion → Carriage → Option Carriage
moved_by Space c = spaced c 1
moved_by DoubleSpace c = spaced c 2
moved_by TripleSpace c = spaced c 3
moved_by SkipToChannel1 c = skipped c

-- the carriage after a line was printed: it does the motion that waits, else it spaces one line
unfoldable pub after_line : Carriage → Option Carriage
after_line c = moved_by (unwrap_or c.waiting Space) (record c { waiting = None })

-- whether a character has this glyph
abbrev pub is_glyph : ℕ → List ℕ → Bool
is_glyph code glyph = glyph_of code == byte glyph

-- what a character means in a list of glyphs with their meanings, if its glyph is there
abbrev pub meant_among : {T : Type 0} → List (List ℕ × T) → ℕ → Option T
meant_among [] code = None
meant_among (first ∷ rest) code =
    if is_glyph code first.0 then Some first.1 else meant_among rest code

-- the orders to the carriage: the character of each, and what it means
abbrev pub orders : List (List ℕ × CarriageOrder)
orders =
    (codes "J", Now Space)
    ∷ (codes "K", Now DoubleSpace)
    ∷ (codes "L", Now TripleSpace)
    ∷ (codes "/", AfterLine Space)
    ∷ (codes "S", AfterLine DoubleSpace)
    ∷ (codes "T", AfterLine TripleSpace)
    ∷ (codes "1", Now SkipToChannel1)
    ∷ (codes "A", AfterLine SkipToChannel1)
    ∷ []

-- the order to the carriage that a character names, if it names one
unfoldable pub order_of : ℕ → Option CarriageOrder
order_of code = meant_among orders code

-- the carriage after an order: a motion at once, or one that waits for the next line in place of
-- any before
unfoldable pub ordered : CarriageOrder → Carriage → Option Carriage
ordered (Now motion) c = moved_by motion c
ordered (AfterLine motion) c = Some (record c { waiting = Some motion })

-- the printer after an order to its carriage, or a check if no form is left
unfoldable pub carriage_moved : CarriageOrder → Printed → Result Printed Check
carriage_moved order p = find_or (ordered order p.carriage) PrinterFull
    (λ carriage. Ok (record p { carriage = carriage }))
