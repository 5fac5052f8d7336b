-- why an instruction is stopped by a check
use Rattle.std.specs.Prelude.{ℕ, ◌-◌, nat_lt, List, length, Option, slice_index}
use Rattle.core_store.specs.Storage.{Storage}
use Rattle.units.specs.declared.units.Units.{Units}
use Rattle.machine.specs.declared.named.Operation.{Operation}
use Rattle.machine.specs.declared.named.Operation.TheVariants.{OnFields, ClearStorage, Branch, BranchOnMarkOrZone, Operate, MoveCarriage, ChoosePocket, StoreA, StoreB, Halt, NoOperation}
use Rattle.machine.specs.declared.named.Modifier.{Modifier}
use Rattle.machine.specs.Effect.{Works}
use Rattle.machine.specs.Instructions.{operation_by, modifier_by}
use Rattle.check_causes.specs.declared.causes.Cause.{Cause}
use Rattle.check_causes.specs.declared.causes.Cause.TheVariants.{RegisterPast}
use Rattle.check_causes.specs.Tested.{Tested, passed, needs, given, told}
use Rattle.check_causes.specs.Reading.{word_told, decoded_told}
use Rattle.check_causes.specs.Fields.{place_told, three_told, work_told}
use Rattle.check_causes.specs.Devices.{devices_told, carriage_told, pocket_told}

-- why an operation at these addresses is stopped
unfoldable pub operation_told : Operation → Modifier → Storage → Units → ℕ → ℕ → Tested
operation_told (OnFields operation) modifier s u a b = work_told operation s a b
operation_told ClearStorage modifier s u a b = place_told s b
operation_told Branch modifier s u a b = passed
operation_told BranchOnMarkOrZone modifier s u a b = passed
operation_told (Operate devices) modifier s u a b = devices_told devices u
operation_told MoveCarriage modifier s u a b = carriage_told modifier u.printer
operation_told ChoosePocket modifier s u a b = pocket_told u.punch
operation_told StoreA modifier s u a b = three_told s a
operation_told StoreB modifier s u a b = three_told s a
operation_told Halt modifier s u a b = passed
operation_told NoOperation modifier s u a b = passed

-- why the instruction of so many characters is stopped
unfoldable pub instruction_told : Works → ℕ → List ℕ → Tested
instruction_told w count codes =
    given (decoded_told w.storage count w.registers codes) (λ operands.
    operation_told (operation_by (slice_index codes 0))
    (modifier_by (slice_index codes 0) count (slice_index codes (count - 1)))
    w.storage w.units operands.0 operands.1)

-- the tests of the machine before the instruction at register I changes anything, in its order
unfoldable pub attempt_told : Works → Tested
attempt_told w =
    needs (nat_lt w.registers.i (length w.storage)) RegisterPast
    (given (word_told w.storage w.registers.i) (λ codes.
    instruction_told w (length codes) codes))

-- why the instruction at register I is stopped by a check, in the order in which the machine tests;
-- none if no check stops it
unfoldable pub cause : Works → Option Cause
cause w = told (attempt_told w)
