-- the line of an attempt
use Rattle.std.specs.Prelude.{ℕ, List, [], ◌∷◌, ◌++◌, Bool, if◌then◌else◌, codes, Option}
use Rattle.core_store.specs.Checks.{check_name}
use Rattle.core_store.specs.declared.checks.Check.{Check}
use Rattle.core_store.specs.declared.registers.Compared.{Compared}
use Rattle.core_store.specs.declared.registers.Compared.TheVariants.{Equal, Low, High}
use Rattle.core_store.specs.declared.registers.Registers.{Registers}
use Rattle.autocoder.specs.Listing.{blank, line_text, position_field, right}
use Rattle.machine.specs.Run.{State, step}
use Rattle.machine.specs.declared.standings.Standing.{Standing}
use Rattle.machine.specs.declared.standings.Standing.TheVariants.{Running, Halted, Checked}
use Rattle.check_causes.specs.Causes.{cause}
use Rattle.run_traces.specs.Causes.{cause_shown}
use Rattle.run_traces.specs.Effects.{effects_since, made_by}
use Rattle.run_traces.specs.Names.{Named, name_field}
use Rattle.run_traces.specs.Shown.{characters_next, left}
use Rattle.run_traces.specs.Statements.{statement_next}
use Rattle.run_traces.specs.declared.effects.Made.{Made}

-- the sign of a comparison: how the second operand compares with the first
abbrev pub compared_sign : Compared → List ℕ
compared_sign Equal = codes "="
compared_sign Low = codes "<"
compared_sign High = codes ">"

-- `O` for overflow
abbrev pub overflow_sign : Bool → List ℕ
overflow_sign overflow = if overflow then codes " O" else codes "  "

-- `12` for channel 12
abbrev pub channel_sign : Bool → List ℕ
channel_sign channel_12 = if channel_12 then codes " 12" else codes "   "

-- the registers A and B, and the indicators
abbrev pub registers_shown : Registers → Bool → List ℕ
registers_shown r channel_12 = codes "A " ++ position_field r.a ++ codes " B " ++ position_field r.b
    ++ codes " " ++ compared_sign r.compare ++ overflow_sign r.overflow ++ channel_sign channel_12

-- what an attempt did that left this machine, which had made so much before
abbrev pub effect_shown : Made → State → List ℕ
effect_shown before m =
    registers_shown m.works.registers m.works.units.printer.carriage.channel_12
    ++ codes "   " ++ effects_since before m

-- a check that a machine met, with its cause
abbrev pub check_shown : State → Check → List ℕ
check_shown m check = codes "check " ++ check_name check ++ cause_shown (cause m.works)

-- what came of an attempt, by the standing after it
abbrev pub outcome_by : Made → State → Standing → List ℕ
outcome_by before m Running = effect_shown before m
outcome_by before m Halted = effect_shown before m
outcome_by before m (Checked check) = check_shown m check

-- what came of an attempt that left this machine, which had made so much before; a check changes
-- nothing else, so what it leaves shows its cause
unfoldable pub outcome : Made → State → List ℕ
outcome before m = outcome_by before m m.standing

-- the attempt with this number, where it begins, also by a name where there are names, the
-- characters of its instruction, and the statement that has them
unfoldable pub beginning : Option Named → ℕ → State → List ℕ
beginning names number m = right blank 7 number ++ blank ∷ [] ++ position_field m.works.registers.i
    ++ blank ∷ [] ++ name_field names m.works.registers.i ++ left 9 (characters_next m)
    ++ left 20 (statement_next names m)

-- the line of the attempt with this number that a machine makes next
unfoldable pub attempt_line : Option Named → ℕ → State → List ℕ
attempt_line names number m =
    line_text (beginning names number m ++ outcome (made_by m) (step m))
