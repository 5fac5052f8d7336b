-- the operations of the machine, as a table: by it an instruction is decoded
use Rattle.std.specs.Prelude.{ℕ, ◌==◌, List, [], ◌∷◌, if◌then◌else◌, Option, Some, None, codes}
use Rattle.std.specs.Option.{option_map, option_and_then}
use Rattle.machine.specs.declared.named.Operation.{Operation}
use Rattle.machine.specs.declared.named.Operation.TheVariants.{OnFields, ClearStorage, Branch, BranchOnMarkOrZone, Operate, MoveCarriage, ChoosePocket, StoreA, StoreB, Halt, NoOperation}
use Rattle.machine.specs.declared.operations.FieldOperation.TheVariants.{Add, Subtract, ZeroAdd, ZeroSubtract, Compare, ModifyAddress, Move, Load, MoveDigit, MoveZone, Suppress, Edit, SetMark, ClearMark}
use Rattle.machine.specs.declared.named.Modifier.{Modifier}
use Rattle.machine.specs.declared.named.Modifier.TheVariants.{Plain, OnCondition, OnCharacter, OnTest, ByOrder, ToPocket}
use Rattle.units.specs.Carriages.{order_of}
use Rattle.units.specs.Pockets.{pocket_of}
use Rattle.machine.specs.Branches.{condition_of, test_of}
use Rattle.machine.specs.Glyphs.{is_glyph}
use Rattle.units.specs.declared.devices.Devices.{Devices}

-- what the last character of a form says: nothing of its own, the condition of a branch, the
-- character that it compares, its test of a position, an order to the carriage, or a pocket
pub data Last : Type 0 where
  says_nothing : Last
  names_condition : Last
  is_compared : Last
  names_test : Last
  names_order : Last
  names_pocket : Last

-- a form of an operation: its number of characters, the number of addresses that are read, and what
-- the last character says
pub record Form : Type 0 where
  pub length : ℕ
  pub addresses : ℕ
  pub last : Last

-- an operation: the character that names it, and its forms
pub record Row : Type 0 where
  pub character : List ℕ
  pub operation : Operation
  pub forms : List Form

-- a form whose last character says nothing of its own
abbrev pub free : ℕ → ℕ → Form
free length addresses = record { length = length; addresses = addresses; last = says_nothing }

-- a form whose last character says something of its own
abbrev pub saying : ℕ → ℕ → Last → Form
saying length addresses last = record { length = length; addresses = addresses; last = last }

-- the row of an operation
abbrev pub row : List ℕ → Operation → List Form → Row
row character operation forms =
    record { character = character; operation = operation; forms = forms }

-- the units of an operation, by the sum of their numbers: reader 1, printer 2, punch 4
abbrev pub devices : ℕ → Devices
devices sum = record { 0 = sum }

-- the row of an operation of the units, by the sum of their numbers
abbrev pub units_row : List ℕ → ℕ → Row
units_row character sum = row character (Operate (devices sum)) (free 1 0 ∷ free 4 1 ∷ [])

-- the operations of the machine: the character of each, and its forms
unfoldable pub operations : List Row
operations =
    row (codes "A") (OnFields Add) (free 1 0 ∷ free 4 1 ∷ free 7 2 ∷ [])
    ∷ row (codes "S") (OnFields Subtract) (free 1 0 ∷ free 4 1 ∷ free 7 2 ∷ [])
    ∷ row (codes "?") (OnFields ZeroAdd) (free 1 0 ∷ free 4 1 ∷ free 7 2 ∷ [])
    ∷ row (codes "!") (OnFields ZeroSubtract) (free 1 0 ∷ free 4 1 ∷ free 7 2 ∷ [])
    ∷ row (codes "C") (OnFields Compare) (free 1 0 ∷ free 7 2 ∷ [])
    ∷ row (codes "#") (OnFields ModifyAddress) (free 7 2 ∷ [])
    ∷ row (codes "M") (OnFields Move) (free 1 0 ∷ free 7 2 ∷ [])
    ∷ row (codes "L") (OnFields Load) (free 1 0 ∷ free 7 2 ∷ [])
    ∷ row (codes "D") (OnFields MoveDigit) (free 1 0 ∷ free 7 2 ∷ [])
    ∷ row (codes "Y") (OnFields MoveZone) (free 1 0 ∷ free 7 2 ∷ [])
    ∷ row (codes "Z") (OnFields Suppress) (free 1 0 ∷ free 7 2 ∷ [])
    ∷ row (codes "E") (OnFields Edit) (free 1 0 ∷ free 7 2 ∷ [])
    ∷ row (codes ",") (OnFields SetMark) (free 4 1 ∷ free 7 2 ∷ [])
    ∷ row (codes ")") (OnFields ClearMark) (free 4 1 ∷ free 7 2 ∷ [])
    ∷ row (codes "/") ClearStorage (free 1 0 ∷ free 4 1 ∷ free 7 2 ∷ [])
    ∷ row (codes "B") Branch (free 4 1 ∷ saying 5 1 names_condition ∷ saying 8 2 is_compared ∷ [])
    ∷ row (codes "V") BranchOnMarkOrZone (saying 8 2 names_test ∷ [])
    ∷ units_row (codes "1") 1
    ∷ units_row (codes "2") 2
    ∷ units_row (codes "3") 3
    ∷ units_row (codes "4") 4
    ∷ units_row (codes "5") 5
    ∷ units_row (codes "6") 6
    ∷ units_row (codes "7") 7
    ∷ row (codes "F") MoveCarriage (saying 2 0 names_order ∷ [])
    ∷ row (codes "K") ChoosePocket (saying 2 0 names_pocket ∷ [])
    ∷ row (codes ".") Halt (free 1 0 ∷ free 4 1 ∷ [])
    ∷ row (codes "H") StoreB (free 4 1 ∷ [])
    ∷ row (codes "Q") StoreA (free 4 1 ∷ [])
    ∷ row (codes "N") NoOperation
    (free 1 0 ∷ free 2 0 ∷ free 4 0 ∷ free 5 0 ∷ free 7 0 ∷ free 8 0 ∷ [])
    ∷ []

-- the first of these rows that a character has, if it has one
abbrev pub row_among : List Row → ℕ → Option Row
row_among [] code = None
row_among (first ∷ rest) code =
    if is_glyph code first.character then Some first else row_among rest code

-- the row of a character, if it names an operation
unfoldable pub row_of : ℕ → Option Row
row_of code = row_among operations code

-- the first of these forms that has so many characters, if one has
abbrev pub form_among : List Form → ℕ → Option Form
form_among [] count = None
form_among (first ∷ rest) count =
    if count == first.length then Some first else form_among rest count

-- what a last character means by what it says, if it is allowed
abbrev pub meant : Last → ℕ → Option Modifier
meant says_nothing last = Some Plain
meant names_condition last = option_map (λ condition. OnCondition condition) (condition_of last)
meant is_compared last = Some (OnCharacter last)
meant names_test last = option_map (λ test. OnTest test) (test_of last)
meant names_order last = option_map (λ order. ByOrder order) (order_of last)
meant names_pocket last = option_map (λ pocket. ToPocket pocket) (pocket_of last)

-- the form of so many characters that the operation of a character has, if there is one
abbrev pub form_of : ℕ → ℕ → Option Form
form_of first count = option_and_then (λ row. form_among row.forms count) (row_of first)

-- what the last character of an instruction of so many characters means by its first one, if it is
-- allowed there
abbrev pub modifier_at : ℕ → ℕ → ℕ → Option Modifier
modifier_at first count last = option_and_then (λ form. meant form.last last) (form_of first count)
