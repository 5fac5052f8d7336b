-- what the units did in an attempt
use Rattle.std.specs.Prelude.{ℕ, ◌-◌, nat_lt, if◌then◌else◌, List, [], ◌∷◌, ◌++◌, codes, decimal, Option, Some, None, slice_get}
use Rattle.units.specs.Units.{made_in_all}
use Rattle.units.specs.declared.printer.Line.{Line}
use Rattle.machine.specs.Run.{State, lines_of}
use Rattle.run_traces.specs.declared.effects.Made.{Made}

-- how many cards a machine has read, and how many lines it has printed and cards punched in all
abbrev pub made_by : State → Made
made_by m = record {
  taken = m.works.units.hopper.taken;
  lines = (made_in_all m.works.units).lines;
  cards = (made_in_all m.works.units).cards;
}

-- effects, with a comma behind them if there are any
abbrev pub with_comma : List ℕ → List ℕ
with_comma [] = []
with_comma (first ∷ effects) = (first ∷ effects) ++ codes ", "

-- effects, and one more if there is one
abbrev pub with_effect : List ℕ → List ℕ → List ℕ
with_effect effects [] = effects
with_effect effects (first ∷ effect) = with_comma effects ++ (first ∷ effect)

-- the card that was read, by its number, if one was
abbrev pub read_words : Made → State → List ℕ
read_words before m = if nat_lt before.taken m.works.units.hopper.taken
    then codes "read " ++ decimal m.works.units.hopper.taken else []

-- the form and line of a line that was printed
abbrev pub line_words : Option Line → List ℕ
line_words None = []
line_words (Some line) = codes "printed " ++ decimal line.form ++ codes "." ++ decimal line.line

-- the line that was printed, by its form and line, if one was: of the machine's own lines, the one
-- behind those that were printed until then
abbrev pub printed_words : Made → State → List ℕ
printed_words before m =
    line_words (slice_get (lines_of m) (before.lines - m.works.units.before.lines))

-- how many cards were punched so far, if one was now
abbrev pub punched_words : Made → State → List ℕ
punched_words before m = if nat_lt before.cards (made_in_all m.works.units).cards
    then codes "punched " ++ decimal (made_in_all m.works.units).cards else []

-- what the units of a machine did, which had made so much before
unfoldable pub effects_since : Made → State → List ℕ
effects_since before m = with_effect (with_effect (read_words before m) (printed_words before m))
    (punched_words before m)
