-- the fields at which an instruction works
use Rattle.std.specs.Prelude.{ℕ, nat_lt, Bool, true, false, if◌then◌else◌, List, length, slice_index, Option, Some, None, Result, Ok, Err}
use Rattle.machine.specs.declared.named.Operation.{Operation}
use Rattle.machine.specs.declared.named.Operation.TheVariants.{OnFields, ClearStorage, Branch, BranchOnMarkOrZone, Operate, MoveCarriage, ChoosePocket, StoreA, StoreB, Halt, NoOperation}
use Rattle.machine.specs.Effect.{Works}
use Rattle.machine.specs.Instructions.{operation_by}
use Rattle.check_causes.specs.declared.causes.Cause.{Cause}
use Rattle.check_causes.specs.Reading.{decoded_told, word_told}

-- whether an operation works at fields
abbrev pub is_on_fields : Operation → Bool
is_on_fields (OnFields operation) = true
is_on_fields ClearStorage = false
is_on_fields Branch = false
is_on_fields BranchOnMarkOrZone = false
is_on_fields (Operate devices) = false
is_on_fields MoveCarriage = false
is_on_fields ChoosePocket = false
is_on_fields StoreA = false
is_on_fields StoreB = false
is_on_fields Halt = false
is_on_fields NoOperation = false

-- the addresses that an instruction works at, if they can be read
abbrev pub if_read : Result (ℕ × ℕ) Cause → Option (ℕ × ℕ)
if_read (Ok operands) = Some operands
if_read (Err cause) = None

-- the addresses of an instruction of so many characters, if it works at fields
unfoldable pub fields_by : Works → ℕ → List ℕ → Option (ℕ × ℕ)
fields_by w count codes = if is_on_fields (operation_by (slice_index codes 0))
    then if_read (decoded_told w.storage count w.registers codes) else None

-- the addresses of the instruction of these characters, if there is one
abbrev pub fields_in : Works → Result (List ℕ) Cause → Option (ℕ × ℕ)
fields_in w (Ok codes) = fields_by w (length codes) codes
fields_in w (Err cause) = None

-- the positions at which the fields end that the instruction at register I works at: its A and its B
-- address; none if there is no such instruction
unfoldable pub fields_worked : Works → Option (ℕ × ℕ)
fields_worked w = if nat_lt w.registers.i (length w.storage)
    then fields_in w (word_told w.storage w.registers.i) else None
