-- the positions at which a step of a film works
use Rattle.std.specs.Prelude.{ℕ, ◌+◌, ◌-◌, ◌%◌, ◌==◌, ◌||◌, ◌&&◌, nat_lt, if◌then◌else◌, List, [], ◌∷◌, ◌++◌, codes, decimal, Option, Some, None, Result, Ok, Err}
use Rattle.addresses.specs.Effective.{operand}
use Rattle.core_store.specs.Storage.{Storage, code_at, largest_size}
use Rattle.core_store.specs.declared.checks.Check.{Check}
use Rattle.core_store.specs.declared.registers.Registers.{Registers}
use Rattle.machine.specs.Effect.{Works}
use Rattle.machine.specs.Glyphs.{is_glyph}
use Rattle.machine.specs.Instructions.{operation_by}
use Rattle.machine.specs.Operations.{devices}
use Rattle.machine.specs.Run.{State, is_checked, step}
use Rattle.machine.specs.Word.{word_length}
use Rattle.check_causes.specs.Worked.{fields_worked}
use Rattle.machine.specs.declared.named.Operation.{Operation}
use Rattle.machine.specs.declared.named.Operation.TheVariants.{OnFields, ClearStorage, Branch, BranchOnMarkOrZone, Operate, MoveCarriage, ChoosePocket, StoreA, StoreB, Halt, NoOperation}
use Rattle.units.specs.Units.{prints, punches, reads}
use Rattle.films.specs.declared.filming.Place.{Place}
use Rattle.films.specs.declared.working.Work.{Work}
use Rattle.films.specs.declared.working.Work.TheVariants.{Nowhere, AtFields, InAreas, Clears, Writes, Tests}

-- the positions from the first to the last, under a letter
abbrev pub span : List ℕ → ℕ → ℕ → List ℕ
span letter first last = letter ++ decimal first ++ codes "." ++ decimal last

-- the positions of an instruction of so many characters, if there is one
abbrev pub instruction_span : ℕ → Option ℕ → List (List ℕ)
instruction_span i None = []
instruction_span i (Some count) = span (codes "I") i (i + count - 1) ∷ []

-- the position behind the one that a register holds
abbrev pub behind : ℕ → ℕ
behind register = (register + 1) % largest_size

-- the positions of the fields that end at these addresses, where the registers are these after the
-- step: from the one behind its register to the address
abbrev pub field_spans : ℕ × ℕ → Registers → List (List ℕ)
field_spans fields r = span (codes "A") (behind r.a) fields.0
    ∷ span (codes "B") (behind r.b) fields.1 ∷ []

-- the addresses alone
abbrev pub address_spans : ℕ × ℕ → List (List ℕ)
address_spans fields =
    span (codes "A") fields.0 fields.0 ∷ span (codes "B") fields.1 fields.1 ∷ []

-- the words for the fields at which a step worked that left this machine: of a check the addresses
-- alone
abbrev pub fields_spans : ℕ × ℕ → State → List (List ℕ)
fields_spans fields m = if is_checked m.standing then address_spans fields
    else field_spans fields m.works.registers

-- the words for the areas of units, by the sum of their numbers: the printer's and the punch's,
-- from which a line or a card is made, and the reader's, in which a card is put
abbrev pub area_spans : ℕ → List (List ℕ)
area_spans sum = (if prints (devices sum) then span (codes "A") 201 332 ∷ [] else [])
    ++ (if punches (devices sum) then span (codes "A") 101 180 ∷ [] else [])
    ++ (if reads (devices sum) then span (codes "B") 1 80 ∷ [] else [])

-- the words for the positions at which an instruction works that no check stops, but for fields:
-- of those that are cleared from the hundred on, of an address that is written the three up to its
-- last one, and the one that is tested
abbrev pub other_spans : Work → List (List ℕ)
other_spans Nowhere = []
other_spans (AtFields a b) = []
other_spans (InAreas sum) = area_spans sum
other_spans (Clears position) = span (codes "B") (position - position % 100) position ∷ []
other_spans (Writes position) = span (codes "A") (position - 2) position ∷ []
other_spans (Tests position) = span (codes "B") position position ∷ []

-- the words for the positions at which an instruction worked whose step left this machine
abbrev pub work_spans : Work → State → List (List ℕ)
work_spans Nowhere m = []
work_spans (AtFields a b) m = fields_spans (a, b) m
work_spans (InAreas sum) m = if is_checked m.standing then [] else other_spans (InAreas sum)
work_spans (Clears position) m =
    if is_checked m.standing then [] else other_spans (Clears position)
work_spans (Writes position) m =
    if is_checked m.standing then [] else other_spans (Writes position)
work_spans (Tests position) m = if is_checked m.standing then [] else other_spans (Tests position)

-- the units that work in an operation, by the sum of their numbers; 0 if none does
abbrev pub sum_of : Operation → ℕ
sum_of (OnFields operation) = 0
sum_of ClearStorage = 0
sum_of Branch = 0
sum_of BranchOnMarkOrZone = 0
sum_of (Operate devices) = devices.0
sum_of MoveCarriage = 0
sum_of ChoosePocket = 0
sum_of StoreA = 0
sum_of StoreB = 0
sum_of Halt = 0
sum_of NoOperation = 0

-- the position, if there is one
abbrev pub if_named : Result ℕ Check → Option ℕ
if_named (Ok position) = Some position
if_named (Err check) = None

-- the position that the three characters from a position on name as an address, if they name one
abbrev pub named_at : Storage → ℕ → Option ℕ
named_at s p = if_named (operand s (code_at s p) (code_at s (p + 1)) (code_at s (p + 2)))

-- the position that the last address of an instruction of so many characters names, if it names
-- one; the one in register B if it has no address
abbrev pub last_named : Works → ℕ → Option ℕ
last_named w count = if nat_lt count 4 then Some w.registers.b
    else named_at w.storage (w.registers.i + (if nat_lt count 7 then 1 else 4))

-- where an instruction of so many characters works, but for fields, by the first of them and the
-- position that its last address names
abbrev pub work_by : ℕ → ℕ → ℕ → Work
work_by first count position =
    if is_glyph first (codes "/") then Clears position
    else if is_glyph first (codes "H") || is_glyph first (codes "Q") then Writes position
    else if (is_glyph first (codes "B") || is_glyph first (codes "V")) && count == 8
    then Tests position
    else Nowhere

-- the same, if its last address names a position
abbrev pub work_if : ℕ → ℕ → Option ℕ → Work
work_if first count None = Nowhere
work_if first count (Some position) = work_by first count position

-- where an instruction of so many characters works, but for fields
unfoldable pub work_in : Works → ℕ → Work
work_in w count = let first = code_at w.storage w.registers.i in
    if sum_of (operation_by first) == 0 then work_if first count (last_named w count)
    else InAreas (sum_of (operation_by first))

-- the same, if there is an instruction
abbrev pub work_if_any : Works → Option ℕ → Work
work_if_any w None = Nowhere
work_if_any w (Some count) = work_in w count

-- where the instruction works that is attempted next, by its fields if it works at fields
abbrev pub work_behind : Works → Option (ℕ × ℕ) → Work
work_behind w None = work_if_any w (word_length w.storage w.registers.i)
work_behind w (Some fields) = AtFields fields.0 fields.1

-- where the instruction works that is attempted next
unfoldable pub work_of : Works → Work
work_of w = work_behind w (fields_worked w)

-- the words for the positions at which a machine's next step works: its instruction's, and those at
-- which that works
unfoldable pub worked : State → List (List ℕ)
worked m = instruction_span m.works.registers.i (word_length m.works.storage m.works.registers.i)
    ++ work_spans (work_of m.works) (step m)

-- where the instruction that a machine attempts next stands and works
abbrev pub place_of : State → Place
place_of m = record {
  i = m.works.registers.i;
  count = word_length m.works.storage m.works.registers.i;
  work = work_of m.works;
}
