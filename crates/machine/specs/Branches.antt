-- the conditions and tests of branches
use Rattle.std.specs.Prelude.{ℕ, ◌==◌, ◌||◌, not, codes, Bool, true, false, List, [], ◌∷◌, Option}
use Rattle.std.specs.Int.RustNames.{bit_and}
use Rattle.bcd.specs.Table.{zone_of, zone_number}
use Rattle.bcd.specs.declared.Zone.{Zone}
use Rattle.bcd.specs.declared.Zone.TheVariants.{Bare, A, B, AB}
use Rattle.core_store.specs.Storage.{Storage, code_at, is_marked}
use Rattle.core_store.specs.declared.registers.Compared.{Compared}
use Rattle.core_store.specs.declared.registers.Compared.TheVariants.{Equal, Low, High}
use Rattle.core_store.specs.declared.registers.Registers.{Registers}
use Rattle.machine.specs.declared.branches.Condition.{Condition}
use Rattle.machine.specs.declared.branches.Condition.TheVariants.{Always, IsUnequal, IsEqual, IsLow, IsHigh, Overflow, LastCard, SwitchOn, Channel12}
use Rattle.machine.specs.declared.branches.PositionTest.{PositionTest}
use Rattle.machine.specs.declared.branches.PositionTest.TheVariants.{HasMark, HasZone, HasZoneOrMark}
use Rattle.units.specs.declared.switches.Switches.{Switches}
use Rattle.units.specs.declared.units.Units.{Units}
use Rattle.units.specs.Carriages.{meant_among}
use Rattle.units.specs.Units.{is_last_card}

-- the sense switch of this bit: A is the lowest bit, G the highest
abbrev pub switch : ℕ → Switches
switch bit = record { 0 = bit }

-- the conditions of a branch of five characters: the last character of each, and what it means
abbrev pub conditions : List (List ℕ × Condition)
conditions =
    (codes " ", Always)
    ∷ (codes "/", IsUnequal)
    ∷ (codes "S", IsEqual)
    ∷ (codes "T", IsLow)
    ∷ (codes "U", IsHigh)
    ∷ (codes "Z", Overflow)
    ∷ (codes "A", LastCard)
    ∷ (codes "B", SwitchOn (switch 2))
    ∷ (codes "C", SwitchOn (switch 4))
    ∷ (codes "D", SwitchOn (switch 8))
    ∷ (codes "E", SwitchOn (switch 16))
    ∷ (codes "F", SwitchOn (switch 32))
    ∷ (codes "G", SwitchOn (switch 64))
    ∷ (codes "@", Channel12)
    ∷ []

-- the condition that the last character of a branch of five characters names, if it names one
unfoldable pub condition_of : ℕ → Option Condition
condition_of code = meant_among conditions code

-- the tests of a branch on word mark or zone: the last character of each, and what it means
abbrev pub tests : List (List ℕ × PositionTest)
tests =
    (codes "1", HasMark)
    ∷ (codes "2", HasZone Bare)
    ∷ (codes "3", HasZoneOrMark Bare)
    ∷ (codes "B", HasZone AB)
    ∷ (codes "C", HasZoneOrMark AB)
    ∷ (codes "K", HasZone B)
    ∷ (codes "L", HasZoneOrMark B)
    ∷ (codes "S", HasZone A)
    ∷ (codes "T", HasZoneOrMark A)
    ∷ []

-- the test of a position that the last character of a branch on word mark or zone names, if it
-- names one
unfoldable pub test_of : ℕ → Option PositionTest
test_of code = meant_among tests code

-- whether the compare indicator is equal
abbrev pub is_equal : Compared → Bool
is_equal Equal = true
is_equal Low = false
is_equal High = false

-- whether the compare indicator is low
abbrev pub is_low : Compared → Bool
is_low Equal = false
is_low Low = true
is_low High = false

-- whether the compare indicator is high
abbrev pub is_high : Compared → Bool
is_high Equal = false
is_high Low = false
is_high High = true

-- whether a branch's condition is met
unfoldable pub is_met : Condition → Registers → Units → Bool
is_met Always r units = true
is_met IsUnequal r units = not (is_equal r.compare)
is_met IsEqual r units = is_equal r.compare
is_met IsLow r units = is_low r.compare
is_met IsHigh r units = is_high r.compare
is_met Overflow r units = r.overflow
is_met LastCard r units = is_last_card units.switches units.hopper
is_met (SwitchOn one) r units = bit_and units.switches.0 one.0 == one.0
is_met Channel12 r units = units.printer.carriage.channel_12

-- the registers after a condition was tested: the test of overflow turns it off
abbrev pub once_tested : Condition → Registers → Registers
once_tested Overflow r = record r { overflow = false }
once_tested _ r = r

-- whether the character at a position has this zone
abbrev pub has_zone : Storage → ℕ → Zone → Bool
has_zone s p zone = zone_number (zone_of (code_at s p)) == zone_number zone

-- whether a position passes a test of its word mark or zone
unfoldable pub passes : PositionTest → Storage → ℕ → Bool
passes HasMark s p = is_marked s p
passes (HasZone zone) s p = has_zone s p zone
passes (HasZoneOrMark zone) s p = has_zone s p zone || is_marked s p
