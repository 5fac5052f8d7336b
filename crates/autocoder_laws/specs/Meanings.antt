-- what each mnemonic means to the machine
use Rattle.std.specs.Prelude.{ℕ, ◌+◌, ◌^◌, ◌==◌, List, [], ◌∷◌, Option, Some, option_map, codes, position}
use Rattle.bcd.specs.Table.{glyph_of}
use Rattle.units.specs.Carriages.{order_of}
use Rattle.units.specs.Pockets.{pocket_of}
use Rattle.units.specs.declared.switches.Switches.{Switches}
use Rattle.machine.specs.Branches.{switch, test_of}
use Rattle.machine.specs.Operations.{devices}
use Rattle.machine.specs.declared.branches.Condition.{Condition}
use Rattle.machine.specs.declared.branches.Condition.TheVariants.{IsUnequal, IsEqual, IsLow, IsHigh, Overflow, LastCard, SwitchOn, Channel12}
use Rattle.machine.specs.declared.branches.PositionTest.TheVariants.{HasMark}
use Rattle.machine.specs.declared.operations.FieldOperation.{FieldOperation}
use Rattle.machine.specs.declared.operations.FieldOperation.TheVariants.{Add, Subtract, ZeroAdd, ZeroSubtract, Compare, ModifyAddress, Move, Load, MoveDigit, MoveZone, Suppress, Edit, SetMark, ClearMark}
use Rattle.machine.specs.declared.named.Modifier.{Modifier}
use Rattle.machine.specs.declared.named.Modifier.TheVariants.{Plain, OnCondition, OnCharacter, OnTest, ByOrder, ToPocket}
use Rattle.machine.specs.declared.named.Operation.{Operation}
use Rattle.machine.specs.declared.named.Operation.TheVariants.{OnFields, ClearStorage, Branch, BranchOnMarkOrZone, Operate, MoveCarriage, ChoosePocket, StoreA, StoreB, Halt, NoOperation}
use Rattle.autocoder_statements.specs.Mnemonics.{name_field}

-- an operation of the machine, and what the last character of its instruction says
pub record Meaning : Type 0 where
  pub operation : Operation
  pub says : ℕ → Option Modifier

-- a mnemonic by its name, with its meaning
abbrev pub means : List ℕ → Operation → (ℕ → Option Modifier) → List ℕ × Meaning
means name operation says = (name_field name, record { operation = operation; says = says })

-- a mnemonic whose last character says nothing of its own
abbrev pub plain : List ℕ → Operation → List ℕ × Meaning
plain name operation = means name operation (λ last. Some Plain)

-- a mnemonic of an operation on fields
abbrev pub works : List ℕ → FieldOperation → List ℕ × Meaning
works name operation = plain name (OnFields operation)

-- a mnemonic of a branch on a condition of its own
abbrev pub branches : List ℕ → Condition → List ℕ × Meaning
branches name condition = means name Branch (λ last. Some (OnCondition condition))

-- a mnemonic of the units with this sum of numbers
abbrev pub operates : List ℕ → ℕ → List ℕ × Meaning
operates name sum = plain name (Operate (devices sum))

-- the number of the card reader
abbrev pub reader : ℕ
reader = 1

-- the number of the printer
abbrev pub printer : ℕ
printer = 2

-- the number of the card punch
abbrev pub punch : ℕ
punch = 4

-- the sense switch that a letter names, A being the lowest
abbrev pub switch_named : ℕ → Option Switches
switch_named code =
    option_map (λ place. switch (2 ^ place))
    (position (λ glyph. glyph == glyph_of code) (codes "ABCDEFG"))

-- what the letter of a sense switch asks
abbrev pub switch_asked : ℕ → Option Modifier
switch_asked last = option_map (λ switches. OnCondition (SwitchOn switches)) (switch_named last)

-- what the character of a zone or of a word mark asks
abbrev pub test_asked : ℕ → Option Modifier
test_asked last = option_map (λ test. OnTest test) (test_of last)

-- what the character of an order to the carriage asks
abbrev pub order_asked : ℕ → Option Modifier
order_asked last = option_map (λ order. ByOrder order) (order_of last)

-- what the digit of a pocket asks
abbrev pub pocket_asked : ℕ → Option Modifier
pocket_asked last = option_map (λ pocket. ToPocket pocket) (pocket_of last)

-- the mnemonics in the order of the assembler's table, each with what it means to the machine
unfoldable pub meanings : List (List ℕ × Meaning)
meanings =
    works (codes "A") Add
    ∷ works (codes "S") Subtract
    ∷ works (codes "ZA") ZeroAdd
    ∷ works (codes "ZS") ZeroSubtract
    ∷ works (codes "MCW") Move
    ∷ works (codes "LCA") Load
    ∷ works (codes "MN") MoveDigit
    ∷ works (codes "MZ") MoveZone
    ∷ works (codes "MCS") Suppress
    ∷ works (codes "MCE") Edit
    ∷ works (codes "C") Compare
    ∷ works (codes "MA") ModifyAddress
    ∷ works (codes "SW") SetMark
    ∷ works (codes "CW") ClearMark
    ∷ plain (codes "CS") ClearStorage
    ∷ plain (codes "B") Branch
    ∷ branches (codes "BLC") LastCard
    ∷ branches (codes "BCV") Channel12
    ∷ branches (codes "BU") IsUnequal
    ∷ branches (codes "BE") IsEqual
    ∷ branches (codes "BL") IsLow
    ∷ branches (codes "BH") IsHigh
    ∷ branches (codes "BAV") Overflow
    ∷ means (codes "BSS") Branch switch_asked
    ∷ means (codes "BCE") Branch (λ last. Some (OnCharacter last))
    ∷ means (codes "BWZ") BranchOnMarkOrZone test_asked
    ∷ means (codes "BW") BranchOnMarkOrZone (λ last. Some (OnTest HasMark))
    ∷ operates (codes "R") reader
    ∷ operates (codes "W") printer
    ∷ operates (codes "WR") (printer + reader)
    ∷ operates (codes "P") punch
    ∷ operates (codes "RP") (reader + punch)
    ∷ operates (codes "WP") (printer + punch)
    ∷ operates (codes "WRP") (printer + reader + punch)
    ∷ means (codes "CC") MoveCarriage order_asked
    ∷ means (codes "SS") ChoosePocket pocket_asked
    ∷ plain (codes "H") Halt
    ∷ plain (codes "SBR") StoreB
    ∷ plain (codes "SAR") StoreA
    ∷ plain (codes "NOP") NoOperation
    ∷ []
