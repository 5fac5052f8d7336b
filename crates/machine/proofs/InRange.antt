-- pictures in range
use Rattle.std.proofs.Common.{ℕ, zero, suc, ◌+◌, ◌-◌, ◌%◌, ◌<◌, ◌≤◌, ◌≡◌, Bool, true, false, List, length, ltb, Result, Ok, Err, if◌then◌else◌, refl, ◌∙◌, inl, arith}
use Rattle.std.specs.Prelude.{slice_index}
use Rattle.std.proofs.lemmas.Bool.{ltb-true}
use Rattle.cards.specs.declared.decks.Card.{Card}
use Rattle.core_store.specs.Storage.{Storage, field_length, positions_of, largest_size}
use Rattle.core_store.specs.Operands.{are_inside, cut_length}
use Rattle.core_store.specs.declared.sizes.Size.{Size}
use Rattle.core_store.proofs.SizeLemmas.{within}
use Rattle.core_store.specs.declared.registers.Registers.{Registers}
use Rattle.core_store.specs.declared.checks.Check.{Check}
use Rattle.core_store.specs.declared.checks.Check.TheVariants.{Address, Data, Instruction}
use Rattle.addresses.specs.Addresses.{tagged}
use Rattle.addresses.specs.Effective.{base_ending, effective, operand}
use Rattle.addresses.specs.Stored.{address_stored}
use Rattle.arith.specs.Operands.{counts_at, counts_apart}
use Rattle.arith.specs.Sums.{added, zero_added}
use Rattle.arith.specs.Order.{compared}
use Rattle.arith.specs.Bases.{modified}
use Rattle.moves.specs.Marks.{marks_put, storage_cleared}
use Rattle.moves.specs.Moved.{moved, move_length}
use Rattle.moves.specs.Loaded.{field_loaded}
use Rattle.moves.specs.Parts.{digit_moved, zone_moved}
use Rattle.moves.specs.Suppressed.{zeros_suppressed}
use Rattle.moves.specs.Edited.{field_edited}
use Rattle.units.specs.declared.profiles.Profile.{Profile}
use Rattle.units.specs.declared.switches.Switches.{Switches}
use Rattle.units.specs.Printed.{Printed}
use Rattle.units.specs.Ranges.{AreUnits, HasPrinted}
use Rattle.units.proofs.OperationOutcomes.{Each, each_require, each_where, each_find, each_then}
use Rattle.units.proofs.InRange.{operated_in_range, carriage_printed, HasPunched, pocket_chosen_most}
use Rattle.machine.specs.declared.branches.Condition.{Condition}
use Rattle.machine.specs.declared.branches.Condition.TheVariants.{Always, IsUnequal, IsEqual, IsLow, IsHigh, Overflow, LastCard, SwitchOn, Channel12}
use Rattle.machine.specs.declared.named.Operation.{Operation}
use Rattle.machine.specs.declared.named.Operation.TheVariants.{OnFields, ClearStorage, Branch, BranchOnMarkOrZone, Operate, MoveCarriage, ChoosePocket, StoreA, StoreB, Halt, NoOperation}
use Rattle.machine.specs.declared.operations.FieldOperation.{FieldOperation}
use Rattle.machine.specs.declared.operations.FieldOperation.TheVariants.{Add, Subtract, ZeroAdd, ZeroSubtract, Compare, ModifyAddress, Move, Load, MoveDigit, MoveZone, Suppress, Edit, SetMark, ClearMark}
use Rattle.machine.specs.declared.named.Modifier.{Modifier}
use Rattle.machine.specs.declared.named.Modifier.TheVariants.{Plain, OnCondition, OnCharacter, OnTest, ByOrder, ToPocket}
use Rattle.machine.specs.declared.named.Decoded.{Decoded}
use Rattle.machine.specs.declared.operations.Course.{Course}
use Rattle.machine.specs.Branches.{once_tested}
use Rattle.machine.specs.Operations.{row_of, form_among, meant}
use Rattle.machine.specs.Word.{word, decoded_of, decoded, operands_of, operand_at}
use Rattle.machine.specs.Effect.{Works, attempt, effect, filled, next_of, after_unit, after_branch, looked_at, passed, ordered_by, pocket_by, worked}
use Rattle.machine.specs.Run.{State, step, after, attempted, started, loaded, is_running}
use Rattle.machine.specs.Ranges.{AreAddresses, IsInRange}
use Rattle.machine.proofs.Steps.{each_any, length-loaded, step_keeps, step_running, step_stopped}

-- ---- addresses

operand_below : (s : Storage) (first second third : ℕ) → Each (λ p. p < length s) (operand s first second third)
unfolding operand
operand_below s first second third =
    each_find (λ p. p < length s) (tagged first second third) Address _ (λ address.
    each_then (λ _. Unit {0}) (λ p. p < length s) (effective s address) _ (each_any (effective s address)) (λ position _.
    each_where (λ p. p < length s) (ltb position (length s)) Address (Ok position) (λ e. ltb-true position (length s) e)))

-- two operands that are addresses
abbrev AreBoth : ℕ × ℕ → Type 0
AreBoth operands = (operands.0 < largest_size) × (operands.1 < largest_size)

each_operands : (test : Bool) (operands : ℕ × ℕ) (rest : Result (ℕ × ℕ) Check) → AreBoth operands → Each AreBoth rest → Each AreBoth (if test then Ok operands else rest)
each_operands true operands rest h k = h
each_operands false operands rest h k = k

operands_below : (s : Storage) (count : ℕ) (r : Registers) (codes : List ℕ) → length s ≤ largest_size → AreAddresses r → Each AreBoth (operands_of s count r codes)
unfolding operands_of
operands_below s count r codes most h =
    each_operands _ (r.a, r.b) _ (h.a, h.b)
    (each_then (λ p. p < length s) AreBoth (operand_at s codes 1) _ (operand_below s _ _ _) (λ first f.
    each_operands _ (first, first) _ (omega arith, omega arith)
    (each_then (λ p. p < length s) AreBoth (operand_at s codes 4) (λ second. Ok (first, second)) (operand_below s _ _ _) (λ second h2. (omega arith, omega arith)))))

-- an instruction whose operands are addresses
abbrev WorksAt : Decoded → Type 0
WorksAt d = (d.a < largest_size) × (d.b < largest_size)

decoded_below : (s : Storage) (count : ℕ) (r : Registers) (codes : List ℕ) → length s ≤ largest_size → AreAddresses r → Each WorksAt (decoded_of s count r codes)
unfolding decoded_of
decoded_below s count r codes most h =
    each_find WorksAt (row_of (slice_index codes 0)) Instruction _ (λ row.
    each_find WorksAt (form_among row.forms count) Instruction _ (λ form.
    each_find WorksAt (meant form.last (slice_index codes (count - 1))) Instruction _ (λ modifier.
    each_then AreBoth WorksAt (operands_of s form.addresses r codes) _ (operands_below s form.addresses r codes most h)
    (λ operands both. both))))

-- ---- registers

-- A and B hold addresses behind an operation
abbrev LeavesBoth : Storage × Registers → Type 0
LeavesBoth (s, r) = (r.a < largest_size) × (r.b < largest_size)

lowered_below : (a b a_count b_count : ℕ) → ((a + largest_size - a_count) % largest_size < largest_size) × ((b + largest_size - b_count) % largest_size < largest_size)
lowered_below a b a_count b_count = (omega arith, omega arith)

added_below : (reversed : Bool) (s : Storage) (r : Registers) → Each LeavesBoth (added reversed s r)
unfolding added
added_below reversed s r =
    each_then (λ _. Unit {0}) LeavesBoth (counts_apart s r.a r.b) _ (each_any (counts_apart s r.a r.b)) (λ counts _.
    search (each_require, lowered_below r.a r.b counts.a counts.b))

zero_added_below : (reversed : Bool) (s : Storage) (r : Registers) → Each LeavesBoth (zero_added reversed s r)
unfolding zero_added
zero_added_below reversed s r =
    each_then (λ _. Unit {0}) LeavesBoth (counts_apart s r.a r.b) _ (each_any (counts_apart s r.a r.b)) (λ counts _.
    search (each_require, lowered_below r.a r.b counts.a counts.b))

compared_below : (s : Storage) (r : Registers) → Each LeavesBoth (compared s r)
unfolding compared
compared_below s r =
    each_then (λ _. Unit {0}) LeavesBoth (counts_at s r.a r.b) _ (each_any (counts_at s r.a r.b)) (λ counts _. lowered_below r.a r.b counts.a counts.b)

modified_below : (s : Storage) (r : Registers) → Each LeavesBoth (modified s r)
unfolding modified
modified_below s r =
    each_require LeavesBoth _ Address _
    (each_find LeavesBoth (base_ending s r.a) Data _ (λ a.
    each_find LeavesBoth (base_ending s r.b) Data _ (λ b. lowered_below r.a r.b 3 3)))

marks_put_below : (marked : Bool) (s : Storage) (r : Registers) → Each LeavesBoth (marks_put marked s r)
unfolding marks_put
marks_put_below marked s r = search (each_require, lowered_below r.a r.b 1 1)

storage_cleared_below : (s : Storage) (r : Registers) → r.a < largest_size → Each LeavesBoth (storage_cleared s r)
unfolding storage_cleared
storage_cleared_below s r h =
    let both : (p : ℕ) → (r.a < largest_size) × ((p + largest_size - 1) % largest_size < largest_size) = λ p. (h, omega arith) in
    search (each_require, both)

moved_below : (s : Storage) (r : Registers) → Each LeavesBoth (moved s r)
unfolding moved
moved_below s r =
    each_require LeavesBoth _ Address _
    (each_find LeavesBoth (move_length s r.a r.b) Address _ (λ count. search (each_require, lowered_below r.a r.b count count)))

field_loaded_below : (s : Storage) (r : Registers) → Each LeavesBoth (field_loaded s r)
unfolding field_loaded
field_loaded_below s r =
    each_require LeavesBoth (are_inside s r.a r.b) Address _
    (each_find LeavesBoth (field_length s r.a) Address _ (λ count. search (each_require, lowered_below r.a r.b count count)))

digit_moved_below : (s : Storage) (r : Registers) → Each LeavesBoth (digit_moved s r)
unfolding digit_moved
digit_moved_below s r = search (each_require, lowered_below r.a r.b 1 1)

zone_moved_below : (s : Storage) (r : Registers) → Each LeavesBoth (zone_moved s r)
unfolding zone_moved
zone_moved_below s r = search (each_require, lowered_below r.a r.b 1 1)

zeros_suppressed_below : (s : Storage) (r : Registers) → Each LeavesBoth (zeros_suppressed s r)
unfolding zeros_suppressed
zeros_suppressed_below s r =
    each_require LeavesBoth (are_inside s r.a r.b) Address _
    (each_find LeavesBoth (field_length s r.a) Address _ (λ count. search (each_require, lowered_below r.a r.b count count)))

field_edited_below : (s : Storage) (r : Registers) → Each LeavesBoth (field_edited s r)
unfolding field_edited
field_edited_below s r =
    each_require LeavesBoth (are_inside s r.a r.b) Address _
    (each_find LeavesBoth (field_length s r.b) Address _ (λ b_count.
    each_find LeavesBoth (cut_length s r.a _) Address _ (λ a_count. search (each_require, lowered_below r.a r.b a_count b_count))))

worked_below : (operation : FieldOperation) (s : Storage) (r : Registers) → Each LeavesBoth (worked operation s r)
unfolding worked
worked_below Add s r = added_below false s r
worked_below Subtract s r = added_below true s r
worked_below ZeroAdd s r = zero_added_below false s r
worked_below ZeroSubtract s r = zero_added_below true s r
worked_below Compare s r = compared_below s r
worked_below ModifyAddress s r = modified_below s r
worked_below Move s r = moved_below s r
worked_below Load s r = field_loaded_below s r
worked_below MoveDigit s r = digit_moved_below s r
worked_below MoveZone s r = zone_moved_below s r
worked_below Suppress s r = zeros_suppressed_below s r
worked_below Edit s r = field_edited_below s r
worked_below SetMark s r = marks_put_below true s r
worked_below ClearMark s r = marks_put_below false s r

choice : (test : Bool) (r q : Registers) → AreAddresses r → AreAddresses q → AreAddresses (if test then r else q)
choice true r q h k = h
choice false r q h k = k

once_tested_below : (condition : Condition) (r : Registers) → AreAddresses r → AreAddresses (once_tested condition r)
once_tested_below Overflow r h = record { i = h.i; a = h.a; b = h.b }
once_tested_below Always r h = h
once_tested_below IsUnequal r h = h
once_tested_below IsEqual r h = h
once_tested_below IsLow r h = h
once_tested_below IsHigh r h = h
once_tested_below LastCard r h = h
once_tested_below (SwitchOn one) r h = h
once_tested_below Channel12 r h = h

looked_at_below : (modifier : Modifier) (r : Registers) → AreAddresses r → AreAddresses (looked_at modifier r)
looked_at_below Plain r h = h
looked_at_below (OnCondition condition) r h = once_tested_below condition r h
looked_at_below (OnCharacter code) r h = h
looked_at_below (OnTest test) r h = h
looked_at_below (ByOrder order) r h = h
looked_at_below (ToPocket pocket) r h = h

passed_below : (modifier : Modifier) (b old : ℕ) → old < largest_size → passed modifier b old < largest_size
passed_below Plain b old h = h
passed_below (OnCondition condition) b old h = h
passed_below (OnCharacter code) b old h = omega arith
passed_below (OnTest test) b old h = omega arith
passed_below (ByOrder order) b old h = h
passed_below (ToPocket pocket) b old h = h

-- ---- the carriage

ordered_printed : (modifier : Modifier) (before : ℕ) (p : Printed) → HasPrinted before p → Each (HasPrinted before) (ordered_by modifier p)
ordered_printed Plain before p h = h
ordered_printed (OnCondition condition) before p h = h
ordered_printed (OnCharacter code) before p h = h
ordered_printed (OnTest test) before p h = h
ordered_printed (ByOrder order) before p h = carriage_printed order before p h
ordered_printed (ToPocket pocket) before p h = h

-- ---- what each attempt leaves

-- registers and units in range
pub record AreInRange (w : Works) : Type 0 where
  pub registers : AreAddresses w.registers
  pub units : AreUnits w.units

abbrev Leaves : Works × Course → Type 0
Leaves (w, course) = AreInRange w

module _ (d : Decoded) (next : ℕ) (w : Works) (at_d : WorksAt d) (at_next : next < largest_size) (h : AreInRange w) where
  unit_in_range : AreAddresses (after_unit d next w.registers)
  unit_in_range = choice _ _ _ (record { i = at_d.0; a = at_d.0; b = at_next }) (record { i = at_next; a = h.registers.a; b = h.registers.b })

  branch_in_range : AreAddresses (after_branch d next w)
  branch_in_range = choice _ _ _ (record { i = at_d.0; a = at_d.0; b = at_next }) (record { i = at_next; a = at_d.0; b = passed_below d.modifier d.b (looked_at d.modifier w.registers).b (looked_at_below d.modifier w.registers h.registers).b })

  effect_in_range : (operation : Operation) → Each Leaves (effect operation d next w)
  unfolding effect
  effect_in_range (OnFields operation) =
      each_then LeavesBoth Leaves _ _ (worked_below operation w.storage (filled d w.registers)) (λ done both.
      record { registers = record { i = at_next; a = both.0; b = both.1 }; units = h.units })
  effect_in_range ClearStorage =
      each_then LeavesBoth Leaves _ _ (storage_cleared_below w.storage (filled d w.registers) at_d.0) (λ done both.
      record { registers = choice _ _ _ (record { i = at_d.0; a = at_d.0; b = at_next }) (record { i = at_next; a = both.0; b = both.1 }); units = h.units })
  effect_in_range Branch = record { registers = branch_in_range; units = h.units }
  effect_in_range BranchOnMarkOrZone = record { registers = branch_in_range; units = h.units }
  effect_in_range (Operate devices) =
      each_then (λ done. AreUnits done.1) Leaves _ _ (operated_in_range devices w.storage w.units h.units) (λ done units. record { registers = unit_in_range; units = units })
  effect_in_range MoveCarriage =
      each_then (HasPrinted w.units.before.lines) Leaves _ _ (ordered_printed d.modifier w.units.before.lines w.units.printer h.units.printer) (λ p printed.
      record { registers = record { i = at_next; a = h.registers.a; b = h.registers.b }; units = record { reader = h.units.reader; punch = h.units.punch; printer = printed; switches = h.units.switches } })
  effect_in_range ChoosePocket =
      each_then (HasPunched w.units.before.cards) Leaves _ _ (pocket_chosen_most (pocket_by d.modifier) w.units.before.cards w.units.punch h.units.punch) (λ stacked most.
      record { registers = record { i = at_next; a = h.registers.a; b = h.registers.b }; units = record { reader = h.units.reader; punch = most; printer = h.units.printer; switches = h.units.switches } })
  effect_in_range StoreA =
      each_then (λ _. Unit {0}) Leaves _ _ (each_any (address_stored w.storage d.a w.registers.a)) (λ s _.
      record { registers = record { i = at_next; a = h.registers.a; b = (lowered_below d.a d.a 3 3).0 }; units = h.units })
  effect_in_range StoreB =
      each_then (λ _. Unit {0}) Leaves _ _ (each_any (address_stored w.storage d.a w.registers.b)) (λ s _.
      record { registers = record { i = at_next; a = (lowered_below d.a d.a 3 3).0; b = h.registers.b }; units = h.units })
  effect_in_range Halt =
      record { registers = choice _ _ _ (record { i = at_d.0; a = at_d.0; b = h.registers.b }) (record { i = at_next; a = h.registers.a; b = h.registers.b }); units = h.units }
  effect_in_range NoOperation = record { registers = record { i = at_next; a = h.registers.a; b = h.registers.b }; units = h.units }

attempt_in_range : (w : Works) → length w.storage ≤ largest_size → AreInRange w → Each Leaves (attempt w)
unfolding attempt
attempt_in_range w most h =
    each_require Leaves _ Address _
    (each_find Leaves (word w.storage w.registers.i) Instruction _ (λ codes.
    each_then WorksAt Leaves (decoded w.storage w.registers codes) _ (decoded_below w.storage (length codes) w.registers codes most h.registers)
    (λ d at_d. effect_in_range d (next_of w.registers.i (length codes)) w at_d (omega arith) h d.operation)))

-- ---- whole machines

attempted_in_range : (m : State) (outcome : Result (Works × Course) Check) → AreInRange m.works → Each Leaves outcome → AreInRange (attempted m outcome).works
attempted_in_range m (Ok (works, course)) h leaves = leaves
attempted_in_range m (Err check) h leaves = h

step_in_range_if : (m : State) (running : Bool) → is_running m.standing ≡ running → length m.works.storage ≤ largest_size → AreInRange m.works → AreInRange (step m).works
step_in_range_if m true e most h = rw (step_running m e) (attempted_in_range m (attempt m.works) h (attempt_in_range m.works most h))
step_in_range_if m false e most h = rw (step_stopped m e) h

pub step_in_range : (m next : State) → next ≡ step m → IsInRange m → IsInRange next
step_in_range m next e h =
    let keeps = step_keeps m in
    let size : length m.works.storage ≡ positions_of h.size.0 = h.size.1 in
    let most : positions_of h.size.0 ≤ largest_size = (within h.size.0).1 in
    let now = step_in_range_if m (is_running m.standing) refl (omega arith) (record { registers = h.registers; units = h.units }) in
    rw e
    (record {
      size = (h.size.0, keeps.size ∙ h.size.1);
      registers = now.registers;
      units = now.units;
    })

pub after_in_range : (m : State) (count : ℕ) → IsInRange m → IsInRange (after m count)
unfolding after
after_in_range m zero h = h
after_in_range m (suc count) h = after_in_range (step m) count (step_in_range m (step m) refl h)

pub started_in_range : (m : State) (switches : Switches) → IsInRange m → IsInRange (started m switches)
started_in_range m switches h = record { size = h.size; registers = h.registers; units = record { reader = h.units.reader; punch = h.units.punch; printer = h.units.printer; switches = omega arith } }

pub loaded_in_range : (deck : List Card) (size : Size) (switches : Switches) (profile : Profile) → 0 < length deck → IsInRange (loaded deck size switches profile)
loaded_in_range deck size switches profile some =
    record {
      size = (size, length-loaded _ size _ refl);
      registers = record { i = omega arith; a = omega arith; b = omega arith };
      units = record {
        reader = record { some = omega arith; most = omega arith };
        punch = omega arith;
        printer = record { most = omega arith; places = (((omega arith, omega arith, omega arith, omega arith), inl (omega arith)), tt) };
        switches = omega arith;
      };
    }
