-- the effect of an instruction
use Rattle.std.specs.Prelude.{ℕ, ◌≡◌, ◌+◌, ◌%◌, ◌==◌, length, nat_lt, Bool, true, false, if◌then◌else◌, Result, Ok, Err}
use Rattle.core_store.specs.Storage.{Storage, code_at}
use Rattle.core_store.specs.Operands.{lowered}
use Rattle.core_store.specs.Checked.{require, find_or, and_then}
use Rattle.core_store.specs.declared.registers.Registers.{Registers}
use Rattle.core_store.specs.declared.checks.Check.{Check}
use Rattle.core_store.specs.declared.checks.Check.TheVariants.{Address, Instruction}
use Rattle.addresses.specs.Stored.{address_stored}
use Rattle.arith.specs.Sums.{added, zero_added}
use Rattle.arith.specs.Order.{compared}
use Rattle.arith.specs.Bases.{modified}
use Rattle.moves.specs.Marks.{marks_put, storage_cleared}
use Rattle.moves.specs.Moved.{moved}
use Rattle.moves.specs.Loaded.{field_loaded}
use Rattle.moves.specs.Parts.{digit_moved, zone_moved}
use Rattle.moves.specs.Suppressed.{zeros_suppressed}
use Rattle.moves.specs.Edited.{field_edited}
use Rattle.units.specs.declared.fault.Fault.{Fault}
use Rattle.units.specs.declared.pockets.Pocket.{Pocket}
use Rattle.units.specs.declared.pockets.Pocket.TheVariants.{Normal}
use Rattle.units.specs.declared.units.Units.{Units}
use Rattle.units.specs.Printed.{Printed}
use Rattle.units.specs.Carriages.{carriage_moved}
use Rattle.units.specs.Pockets.{pocket_chosen}
use Rattle.units.specs.Units.{operated, GivesUp, Makes}
use Rattle.machine.specs.declared.named.Operation.{Operation}
use Rattle.machine.specs.declared.named.Operation.TheVariants.{OnFields, ClearStorage, Branch, BranchOnMarkOrZone, Operate, MoveCarriage, ChoosePocket, StoreA, StoreB, Halt, NoOperation}
use Rattle.machine.specs.declared.operations.FieldOperation.{FieldOperation}
use Rattle.machine.specs.declared.operations.FieldOperation.TheVariants.{Add, Subtract, ZeroAdd, ZeroSubtract, Compare, ModifyAddress, Move, Load, MoveDigit, MoveZone, Suppress, Edit, SetMark, ClearMark}
use Rattle.machine.specs.declared.named.Modifier.{Modifier}
use Rattle.machine.specs.declared.named.Modifier.TheVariants.{Plain, OnCondition, OnCharacter, OnTest, ByOrder, ToPocket}
use Rattle.machine.specs.declared.named.Decoded.{Decoded}
use Rattle.machine.specs.declared.operations.Course.{Course}
use Rattle.machine.specs.declared.operations.Course.TheVariants.{GoesOn, Halts}
use Rattle.machine.specs.Word.{word, decoded}
use Rattle.machine.specs.Branches.{is_met, once_tested, passes}

-- what an instruction works on: storage, registers and units
pub record Works : Type 0 where
  pub storage : Storage
  pub registers : Registers
  pub units : Units

-- this storage, these registers and these units together
abbrev pub works_of : Storage → Registers → Units → Works
works_of s r units = record { storage = s; registers = r; units = units }

-- the registers with A and B as the instruction's addresses set them
abbrev pub filled : Decoded → Registers → Registers
filled d r = record r { a = d.a; b = d.b }

-- the registers with I at the next instruction
abbrev pub at : ℕ → Registers → Registers
at next r = record r { i = next }

-- the registers after a branch that is taken: I and A at the branch address, B at the next
-- instruction
abbrev pub branched : Decoded → ℕ → Registers → Registers
branched d next r = record r { i = d.a; a = d.a; b = next }

-- the registers after an operation of the units, which branches if it has an address
abbrev pub after_unit : Decoded → ℕ → Registers → Registers
after_unit d next r = if d.length == 4 then branched d next r else at next r

-- the registers after a halt, which goes on at its address if it has one
abbrev pub after_halt : Decoded → ℕ → Registers → Registers
after_halt d next r = if d.length == 4 then record r { i = d.a; a = d.a } else at next r

-- the registers after storage is cleared, which branches if it has two addresses
abbrev pub after_clear : Decoded → ℕ → Registers → Registers
after_clear d next r = if d.length == 7 then branched d next r else at next r

-- whether a branch with this modifier is taken
abbrev pub is_taken : Modifier → ℕ → Works → Bool
is_taken Plain b w = true
is_taken (OnCondition condition) b w = is_met condition w.registers w.units
is_taken (OnCharacter code) b w = code_at w.storage b == code
is_taken (OnTest test) b w = passes test w.storage b
is_taken (ByOrder order) b w = true
is_taken (ToPocket pocket) b w = true

-- the registers after a branch has tested its condition
abbrev pub looked_at : Modifier → Registers → Registers
looked_at Plain r = r
looked_at (OnCondition condition) r = once_tested condition r
looked_at (OnCharacter code) r = r
looked_at (OnTest test) r = r
looked_at (ByOrder order) r = r
looked_at (ToPocket pocket) r = r

-- the B register after a branch that is not taken: one below the position that was tested, or
-- unchanged if none was
abbrev pub passed : Modifier → ℕ → ℕ → ℕ
passed Plain b old = old
passed (OnCondition condition) b old = old
passed (OnCharacter code) b old = lowered b 1
passed (OnTest test) b old = lowered b 1
passed (ByOrder order) b old = old
passed (ToPocket pocket) b old = old

-- the registers after a branch that is not taken
abbrev pub passed_by : Decoded → ℕ → Registers → Registers
passed_by d next r = record r { i = next; a = d.a; b = passed d.modifier d.b r.b }

-- the registers after a branch
abbrev pub after_branch : Decoded → ℕ → Works → Registers
after_branch d next w =
    if is_taken d.modifier d.b w then branched d next (looked_at d.modifier w.registers)
    else passed_by d next (looked_at d.modifier w.registers)

-- the registers after the A register is stored: B is the position before the address that was
-- written
abbrev pub after_store_a : Decoded → ℕ → Registers → Registers
after_store_a d next r = record r { i = next; b = lowered d.a 3 }

-- the registers after the B register is stored: A is the position before the address that was
-- written
abbrev pub after_store_b : Decoded → ℕ → Registers → Registers
after_store_b d next r = record r { i = next; a = lowered d.a 3 }

-- storage and registers after an operation on the fields at the A and B registers, or the check
-- that stops it
unfoldable pub worked : FieldOperation → Storage → Registers → Result (Storage × Registers) Check
worked Add s r = added false s r
worked Subtract s r = added true s r
worked ZeroAdd s r = zero_added false s r
worked ZeroSubtract s r = zero_added true s r
worked Compare s r = compared s r
worked ModifyAddress s r = modified s r
worked Move s r = moved s r
worked Load s r = field_loaded s r
worked MoveDigit s r = digit_moved s r
worked MoveZone s r = zone_moved s r
worked Suppress s r = zeros_suppressed s r
worked Edit s r = field_edited s r
worked SetMark s r = marks_put true s r
worked ClearMark s r = marks_put false s r

-- the printer after the carriage order of an instruction, or the check that stops it
abbrev pub ordered_by : Modifier → Printed → Result Printed Check
ordered_by Plain p = Ok p
ordered_by (OnCondition condition) p = Ok p
ordered_by (OnCharacter code) p = Ok p
ordered_by (OnTest test) p = Ok p
ordered_by (ByOrder order) p = carriage_moved order p
ordered_by (ToPocket pocket) p = Ok p

-- the pocket that an instruction selects, the normal one if it names none
abbrev pub pocket_by : Modifier → Pocket
pocket_by Plain = Normal
pocket_by (OnCondition condition) = Normal
pocket_by (OnCharacter code) = Normal
pocket_by (OnTest test) = Normal
pocket_by (ByOrder order) = Normal
pocket_by (ToPocket pocket) = pocket

-- what an operation leaves and whether it halts, or the check that stops it, where `next` is the
-- position after the instruction
unfoldable pub effect : Operation → Decoded → ℕ → Works → Result (Works × Course) Check
effect (OnFields operation) d next w =
    and_then (worked operation w.storage (filled d w.registers)) (λ done.
    Ok (record w { storage = done.0; registers = at next done.1 }, GoesOn))
effect ClearStorage d next w =
    and_then (storage_cleared w.storage (filled d w.registers)) (λ done.
    Ok (record w { storage = done.0; registers = after_clear d next done.1 }, GoesOn))
effect Branch d next w = Ok (record w { registers = after_branch d next w }, GoesOn)
effect BranchOnMarkOrZone d next w = Ok (record w { registers = after_branch d next w }, GoesOn)
effect (Operate devices) d next w =
    and_then (operated devices w.storage w.units) (λ done.
    Ok (
      record { storage = done.0; registers = after_unit d next w.registers; units = done.1 },
      GoesOn,
    ))
effect MoveCarriage d next w =
    and_then (ordered_by d.modifier w.units.printer) (λ printed.
    Ok (
      record w { registers = at next w.registers; units = record w.units { printer = printed } },
      GoesOn,
    ))
effect ChoosePocket d next w =
    and_then (pocket_chosen (pocket_by d.modifier) w.units.punch) (λ stacked.
    Ok (
      record w { registers = at next w.registers; units = record w.units { punch = stacked } },
      GoesOn,
    ))
effect StoreA d next w =
    and_then (address_stored w.storage d.a w.registers.a) (λ s.
    Ok (record w { storage = s; registers = after_store_a d next w.registers }, GoesOn))
effect StoreB d next w =
    and_then (address_stored w.storage d.a w.registers.b) (λ s.
    Ok (record w { storage = s; registers = after_store_b d next w.registers }, GoesOn))
effect Halt d next w = Ok (record w { registers = after_halt d next w.registers }, Halts)
effect NoOperation d next w = Ok (record w { registers = at next w.registers }, GoesOn)

-- the position after an instruction of so many characters, modulo 16000
abbrev pub next_of : ℕ → ℕ → ℕ
next_of i count = (i + count) % 16000

-- what the instruction at the I register leaves, or the first check that stops it
unfoldable pub attempt : Works → Result (Works × Course) Check
attempt w =
    require (nat_lt w.registers.i (length w.storage)) Address
    (find_or (word w.storage w.registers.i) Instruction (λ codes.
    and_then (decoded w.storage w.registers codes) (λ d.
    effect d.operation d (next_of w.registers.i (length codes)) w)))

-- why an instruction was given up: the check that stops it, or no memory for a card or a line that
-- it makes
abbrev pub Fails : Fault → Works → Result (Works × Course) Check → Type 0
Fails fault w outcome = GivesUp (λ done. Makes w.units done.0.units) fault outcome

-- an instruction ended with this effect and its course; or it was given up, and nothing changed
abbrev pub Ends : Result Course Fault → Works → Works → (Works → Result (Works × Course) Check) →
    Type 0
Ends (Ok course) w after effect = effect w ≡ Ok (after, course)
Ends (Err fault) w after effect = Fails fault w (effect w) × (after ≡ w)
