-- a cause is told exactly where a check stops the instruction, and of that check
use Rattle.std.proofs.Common.{◌≡◌, ℕ, ◌+◌, ◌-◌, ◌==◌, ◌&&◌, not, max, Bool, true, false, List, length, Option, Some, None, Result, Ok, Err, refl, sym, subst, ap, ◌∙◌, arith, if◌then◌else◌, ltb, leb, is_some, get_or, IsOk}
use Rattle.std.proofs.lemmas.Bool.{lt-ltb, le-ltb}
use Rattle.std.proofs.Math.Decide.{dec_lt}
use Rattle.core_store.specs.Storage.{Storage, is_marked, field_length, codes_ending}
use Rattle.core_store.specs.Operands.{are_inside, cut_length, is_overlapping}
use Rattle.core_store.specs.Checked.{require, find_or, and_then}
use Rattle.core_store.specs.declared.checks.Check.{Check}
use Rattle.core_store.specs.declared.checks.Check.TheVariants as check
use Rattle.core_store.specs.declared.registers.Registers.{Registers}
use Rattle.addresses.specs.Addresses.{Tagged, tagged}
use Rattle.addresses.specs.Effective.{units_position, base_ending, with_index, position_of, operand}
use Rattle.addresses.specs.declared.tagged.IndexLocation.{IndexLocation}
use Rattle.arith.specs.Operands.{counts_at, counts_apart}
use Rattle.addresses.specs.Stored.{address_stored}
use Rattle.arith.specs.declared.operands.Counts.{Counts}
use Rattle.arith.specs.Sums.{added, zero_added}
use Rattle.arith.specs.Order.{compared}
use Rattle.arith.specs.Bases.{modified}
use Rattle.moves.specs.Marks.{marks_put, storage_cleared}
use Rattle.moves.specs.Moved.{moved, move_length}
use Rattle.moves.specs.Loaded.{field_loaded}
use Rattle.moves.specs.Parts.{digit_moved, zone_moved}
use Rattle.moves.specs.Suppressed.{zeros_suppressed}
use Rattle.moves.specs.Edited.{field_edited, is_sharing, places}
use Rattle.machine.specs.declared.operations.FieldOperation.{FieldOperation}
use Rattle.machine.specs.declared.operations.FieldOperation.TheVariants.{Add, Subtract, ZeroAdd, ZeroSubtract, Compare, ModifyAddress, Move, Load, MoveDigit, MoveZone, Suppress, Edit, SetMark, ClearMark}
use Rattle.units.specs.declared.devices.Devices.{Devices}
use Rattle.units.specs.declared.pockets.Pocket.{Pocket}
use Rattle.units.specs.declared.reader.Hopper.{Hopper}
use Rattle.units.specs.declared.units.Units.{Units}
use Rattle.units.specs.Carriages.{after_line, ordered, carriage_moved}
use Rattle.units.specs.Pockets.{pocket_chosen}
use Rattle.units.specs.Printed.{Printed}
use Rattle.units.specs.Stacked.{Stacked, is_selecting}
use Rattle.units.specs.Units.{most_lines, most_cards, reads, prints, punches, card_read, card_punched, line_printed, reader_works, punch_works, printer_works, together, operated}
use Rattle.units.proofs.OperationLemmas.{card_there, no_card}
use Rattle.machine.specs.declared.named.Decoded.{Decoded}
use Rattle.machine.specs.declared.named.Modifier.{Modifier}
use Rattle.machine.specs.declared.named.Modifier.TheVariants.{Plain, OnCondition, OnCharacter, OnTest, ByOrder, ToPocket}
use Rattle.machine.specs.declared.named.Operation.{Operation}
use Rattle.machine.specs.declared.named.Operation.TheVariants.{OnFields, ClearStorage, Branch, BranchOnMarkOrZone, Operate, MoveCarriage, ChoosePocket, StoreA, StoreB, Halt, NoOperation}
use Rattle.machine.specs.declared.operations.Course.{Course}
use Rattle.machine.specs.Effect.{Works, worked, effect, attempt, filled, ordered_by, pocket_by}
use Rattle.machine.specs.Instructions.{is_form, is_last, addresses_by, operation_by}
use Rattle.machine.specs.Word.{operands_of, decoded_of, word}
use Rattle.machine.proofs.DecodeLemmas.{refused_form, refused_last, decoded_is}
use Rattle.check_causes.specs.Causes.{operation_told, instruction_told, attempt_told, cause}
use Rattle.check_causes.specs.Devices.{card_told, punch_told, line_told, devices_told, order_told, carriage_told, pocket_told}
use Rattle.check_causes.proofs.FormLemmas.{not_formed}
use Rattle.check_causes.proofs.InstructionLemmas.{not_taken, taken_by}
use Rattle.check_causes.specs.Words.{check_of}
use Rattle.check_causes.specs.Tested.{Tested, passed, needs, finds, given, after, told}
use Rattle.check_causes.proofs.FieldFacts.{counted, given_ok, after_ok}
use Rattle.check_causes.proofs.NumberLemmas.{number_is, two_or_three}
use Rattle.check_causes.specs.declared.causes.Cause.{Cause}
use Rattle.check_causes.specs.declared.causes.Cause.TheVariants.{RegisterPast, NoMark, NoEnd, NoSelection, NoAddress, AddressPast, NoIndex, FieldPast, NoFieldMark, TooFew, MarkWrittenOver, NoNumber, Overlap, PunchFull, PrinterFull}
use Rattle.check_causes.specs.Reading.{word_told, with_index_told, position_told, operand_told, operand_told_at, operands_told}
use Rattle.check_causes.specs.Fields.{place_told, places_told, room_told, three_told, length_told, cut_told, counts_told, counts_apart_told, apart_told, digit_told, digits_told, sum_told, copy_told, comparison_told, number_told, modification_told, move_length_told, move_told, mark_told, load_told, suppression_told, places_wanted, edit_told, work_told}
use Rattle.check_causes.proofs.AgreeLemmas.{checked, same_needs, same_finds, same_found, same_given, same_if, same_both, same_apart, Agrees, agrees_needs, agrees_found, agrees_given, agrees_both, agrees_apart, agrees_if, agrees_then, agrees_as, agrees_mapped}

-- ---- addresses

pub index_same : (s : Storage) (n : ℕ) (index : Option IndexLocation) → with_index s n index ≡ checked (with_index_told s n index)
unfolding with_index with_index_told
index_same s n None = refl
index_same s n (Some location) =
    same_needs (ltb (units_position location) (length s)) (AddressPast (units_position location)) _ _
    (same_finds (base_ending s (units_position location)) (NoIndex (units_position location)) _ _ (λ index. refl))

position_same : (s : Storage) (address : Tagged) → position_of s address ≡ checked (position_told s address)
unfolding position_told
position_same s address =
    same_given (with_index s address.base address.index) (with_index_told s address.base address.index) _ _ (index_same s address.base address.index)
    (λ position. same_needs (ltb position (length s)) (AddressPast position) _ _ refl)

operand_same : (s : Storage) (first second third : ℕ) → operand s first second third ≡ checked (operand_told s first second third)
unfolding operand operand_told
operand_same s first second third = same_finds (tagged first second third) (NoAddress _ _ _) _ _ (λ address. position_same s address)

pub operands_same : (s : Storage) (count : ℕ) (r : Registers) (codes : List ℕ) → operands_of s count r codes ≡ checked (operands_told s count r codes)
unfolding operands_of operands_told operand_told_at
operands_same s count r codes =
    same_if (count == 0) _ _ _ _ refl
    (same_given _ _ _ _ (operand_same s _ _ _) (λ first.
    same_if (count == 1) _ _ _ _ refl
    (same_given _ _ _ _ (operand_same s _ _ _) (λ second. refl))))

-- ---- lengths

counts_same : (s : Storage) (a b : ℕ) → counts_at s a b ≡ checked (counts_told s a b)
unfolding counts_at counts_told places_told place_told length_told cut_told
counts_same s a b =
    same_both (ltb a (length s)) (ltb b (length s)) (FieldPast a) (FieldPast b) _ _ refl
    (same_found (field_length s b) (NoFieldMark b) _ _ (λ b_count.
    same_found (cut_length s a b_count) (NoFieldMark a) _ _ (λ a_count. refl)))

apart_same : (s : Storage) (a b : ℕ) → counts_apart s a b ≡ checked (counts_apart_told s a b)
unfolding counts_apart counts_apart_told apart_told
apart_same s a b =
    same_given _ _ _ _ (counts_same s a b) (λ counts. same_apart (not (is_overlapping a b counts.a)) Overlap _ _ refl)

apart_counted : (s : Storage) (a b : ℕ) (counts : Counts) → counts_apart_told s a b ≡ Ok counts → counts_told s a b ≡ Ok counts
unfolding counts_apart_told
apart_counted s a b counts h =
    let found = given_ok (counts_told s a b) (λ counts. after (apart_told (is_overlapping a b counts.a)) (Ok counts)) counts h in
    found.is ∙ (after_ok (apart_told (is_overlapping a b found.it.a)) (Ok found.it) counts found.then_is).1

-- ---- operations on fields

-- two fields are numbers where neither has a character without a digit
both_digits : {T : Type 0} (s : Storage) (x y : Bool) (f g : Option ℕ) (done : T) → x ≡ not (is_some f) → y ≡ not (is_some g) →
    Agrees (after (digit_told s f) (digit_told s g)) (require {T = T} (x && y) check.Data (Ok done))
unfolding digit_told
both_digits s x y None None done hx hy = rw (hx, hy) tt
both_digits s x y None (Some q) done hx hy = rw (hx, hy) refl
both_digits s x y (Some p) g done hx hy = rw hx refl

all_digits : {T : Type 0} (s : Storage) (x : Bool) (f : Option ℕ) (done : T) → x ≡ not (is_some f) → Agrees (digit_told s f) (require {T = T} x check.Data (Ok done))
unfolding digit_told
all_digits s x None done hx = rw hx tt
all_digits s x (Some q) done hx = rw hx refl

sum_agrees : (reversed : Bool) (s : Storage) (r : Registers) → Agrees (sum_told s r.a r.b) (added reversed s r)
unfolding added sum_told digits_told
sum_agrees reversed s r =
    agrees_given _ _ _ _ (apart_same s r.a r.b) (λ counts e.
    let known = counted s r.a r.b counts (apart_counted s r.a r.b counts e) in
    both_digits s _ _ _ _ _ (number_is s r.a counts.a known.a_in known.cut.up_to.room) (number_is s r.b counts.b known.b_in known.field.room))

copy_agrees : (reversed : Bool) (s : Storage) (r : Registers) → Agrees (copy_told s r.a r.b) (zero_added reversed s r)
unfolding zero_added copy_told digits_told
copy_agrees reversed s r =
    agrees_given _ _ _ _ (apart_same s r.a r.b) (λ counts e.
    let known = counted s r.a r.b counts (apart_counted s r.a r.b counts e) in
    all_digits s _ _ _ (number_is s r.a counts.a known.a_in known.cut.up_to.room))

comparison_agrees : (s : Storage) (r : Registers) → Agrees (comparison_told s r.a r.b) (compared s r)
unfolding compared comparison_told
comparison_agrees s r = agrees_given _ _ _ _ (counts_same s r.a r.b) (λ counts e. tt)

-- three characters at a position: in storage, and not before its third
three : (x y : Bool) (p : ℕ) → Tested
three x y p = after (needs x (FieldPast p) passed) (needs y (TooFew p) passed)

three_agrees : {T : Type 0} (x y : Bool) (p : ℕ) (done : T) → Agrees (three x y p) (require {T = T} (x && y) check.Address (Ok done))
unfolding three
three_agrees true true p done = tt
three_agrees true false p done = refl
three_agrees false y p done = refl

stored_agrees : (s : Storage) (p n : ℕ) → Agrees (three_told s p) (address_stored s p n)
unfolding three_told place_told room_told address_stored three
stored_agrees s p n = subst (λ b. Agrees (three (ltb p (length s)) b p) (address_stored s p n)) (two_or_three p) (three_agrees (ltb p (length s)) (leb 2 p) p _)

both_three : {T : Type 0} (x y z v : Bool) (a b : ℕ) (rest : Result T Check) (told : Tested) → Agrees told rest →
    Agrees (after (three x y a) (after (three z v b) told)) (require ((x && y) && (z && v)) check.Address rest)
unfolding three
both_three true true true true a b rest told h = h
both_three true true true false a b rest told h = refl
both_three true true false v a b rest told h = refl
both_three true false z v a b rest told h = refl
both_three false y z v a b rest told h = refl

two_numbers : {T : Type 0} (f g : Option ℕ) (a b : ℕ) (done : ℕ → ℕ → T) →
    Agrees (after (finds f (NoNumber a) (λ n. passed)) (finds g (NoNumber b) (λ n. passed))) (find_or f check.Data (λ x. find_or {T = T} g check.Data (λ y. Ok (done x y))))
two_numbers (Some x) (Some y) a b done = tt
two_numbers (Some x) None a b done = refl
two_numbers None g a b done = refl

modification_agrees : (s : Storage) (r : Registers) → Agrees (modification_told s r.a r.b) (modified s r)
unfolding modified modification_told three_told place_told room_told number_told three
modification_agrees s r =
    subst (λ v. Agrees (after (three (ltb r.a (length s)) v r.a) (after (three_told s r.b) (after (number_told s r.a) (number_told s r.b)))) (modified s r)) (two_or_three r.a)
    (subst (λ v. Agrees (after (three (ltb r.a (length s)) (leb 2 r.a) r.a) (after (three (ltb r.b (length s)) v r.b) (after (number_told s r.a) (number_told s r.b)))) (modified s r)) (two_or_three r.b)
    (both_three (ltb r.a (length s)) (leb 2 r.a) (ltb r.b (length s)) (leb 2 r.b) r.a r.b _ _ (two_numbers (base_ending s r.a) (base_ending s r.b) r.a r.b _)))

both_rooms : {T : Type 0} (x y : Bool) (a b : ℕ) (done : T) → Agrees (after (needs x (TooFew a) passed) (needs y (TooFew b) passed)) (require {T = T} (x && y) check.Address (Ok done))
both_rooms true true a b done = tt
both_rooms true false a b done = refl
both_rooms false y a b done = refl

move_agrees : (s : Storage) (r : Registers) → Agrees (move_told s r.a r.b) (moved s r)
unfolding moved move_told places_told place_told move_length_told room_told
move_agrees s r =
    agrees_both (ltb r.a (length s)) (ltb r.b (length s)) (FieldPast r.a) (FieldPast r.b) _ _ refl (λ a_in b_in.
    agrees_found (move_length s r.a r.b) (NoFieldMark r.a) _ _ (λ count e. both_rooms (leb count (r.a + 1)) (leb count (r.b + 1)) r.a r.b _))

last_test : {T : Type 0} (b : Bool) (c : Cause) (done : T) → Agrees (needs b c passed) (require {T = T} b (check_of c) (Ok done))
last_test true c done = tt
last_test false c done = refl

load_agrees : (s : Storage) (r : Registers) → Agrees (load_told s r.a r.b) (field_loaded s r)
unfolding field_loaded load_told places_told place_told length_told room_told mark_told
load_agrees s r =
    agrees_both (ltb r.a (length s)) (ltb r.b (length s)) (FieldPast r.a) (FieldPast r.b) _ _ refl (λ a_in b_in.
    agrees_found (field_length s r.a) (NoFieldMark r.a) _ _ (λ count e.
    agrees_apart (leb count (r.b + 1)) (TooFew r.b) _ _ (λ room.
    last_test (not (is_overlapping r.a r.b count)) (MarkWrittenOver (r.a + 1 - count)) _)))

suppression_agrees : (s : Storage) (r : Registers) → Agrees (suppression_told s r.a r.b) (zeros_suppressed s r)
unfolding zeros_suppressed suppression_told places_told place_told length_told room_told apart_told
suppression_agrees s r =
    agrees_both (ltb r.a (length s)) (ltb r.b (length s)) (FieldPast r.a) (FieldPast r.b) _ _ refl (λ a_in b_in.
    agrees_found (field_length s r.a) (NoFieldMark r.a) _ _ (λ count e.
    agrees_apart (leb count (r.b + 1)) (TooFew r.b) _ _ (λ room.
    last_test (not (is_overlapping r.a r.b count)) Overlap _)))

edit_agrees : (s : Storage) (r : Registers) → Agrees (edit_told s r.a r.b) (field_edited s r)
unfolding field_edited edit_told places_told place_told length_told cut_told apart_told places_wanted
edit_agrees s r =
    agrees_both (ltb r.a (length s)) (ltb r.b (length s)) (FieldPast r.a) (FieldPast r.b) _ _ refl (λ a_in b_in.
    agrees_found (field_length s r.b) (NoFieldMark r.b) _ _ (λ b_count e.
    agrees_found (cut_length s r.a (max 1 (places (codes_ending s r.b b_count)))) (NoFieldMark r.a) _ _ (λ a_count f.
    last_test (not (is_sharing r.a a_count r.b b_count)) Overlap _)))

-- operations whose only test is that both positions are in storage
places_agree : {T : Type 0} (s : Storage) (a b : ℕ) (done : T) → Agrees (places_told s a b) (require {T = T} (are_inside s a b) check.Address (Ok done))
unfolding places_told place_told
places_agree s a b done = go (ltb a (length s)) (ltb b (length s))
  where
    go : (x y : Bool) → Agrees (after (needs x (FieldPast a) passed) (needs y (FieldPast b) passed)) (require {T = _} (x && y) check.Address (Ok done))
    go true true = tt
    go true false = refl
    go false y = refl

work_agrees : (operation : FieldOperation) (s : Storage) (r : Registers) → Agrees (work_told operation s r.a r.b) (worked operation s r)
unfolding work_told worked digit_moved zone_moved marks_put
work_agrees Add s r = sum_agrees false s r
work_agrees Subtract s r = sum_agrees true s r
work_agrees ZeroAdd s r = copy_agrees false s r
work_agrees ZeroSubtract s r = copy_agrees true s r
work_agrees Compare s r = comparison_agrees s r
work_agrees ModifyAddress s r = modification_agrees s r
work_agrees Move s r = move_agrees s r
work_agrees Load s r = load_agrees s r
work_agrees MoveDigit s r = places_agree s r.a r.b _
work_agrees MoveZone s r = places_agree s r.a r.b _
work_agrees Suppress s r = suppression_agrees s r
work_agrees Edit s r = edit_agrees s r
work_agrees SetMark s r = places_agree s r.a r.b _
work_agrees ClearMark s r = places_agree s r.a r.b _

-- ---- operations of the units

ok_agrees : {T : Type 0} (done : Result T Check) → IsOk done → Agrees passed done
ok_agrees (Ok x) h = tt
ok_agrees (Err check) h = absurd (cc)

card_agrees : (s : Storage) (h : Hopper) → Agrees (card_told h) (card_read s h)
unfolding card_told
card_agrees s h = elim (dec_lt h.taken (length h.deck)) [
  | yes within ↦ rw (lt-ltb h.taken (length h.deck) within) (ok_agrees (card_read s h) (card_there s h within))
  | no past ↦ rw (le-ltb h.taken (length h.deck) (omega arith), no_card s h (omega arith)) refl
]

punch_agrees : (before : ℕ) (s : Storage) (p : Stacked) → Agrees (punch_told before p) (card_punched before s p)
unfolding punch_told card_punched
punch_agrees before s p = last_test (ltb (before + length p.cards) most_cards) PunchFull _

found_test : {S T : Type 0} (found : Option S) (c : Cause) (done : S → T) → Agrees (needs (is_some found) c passed) (find_or {T = T} found (check_of c) (λ x. Ok (done x)))
found_test (Some x) c done = tt
found_test None c done = refl

line_agrees : (before : ℕ) (s : Storage) (p : Printed) → Agrees (line_told before p) (line_printed before s p)
unfolding line_told line_printed
line_agrees before s p =
    agrees_apart (ltb (before + length p.lines) most_lines) PrinterFull _ _ (λ room. found_test (after_line p.carriage) PrinterFull _)

together_agrees : (u : Units) (reader : Result (Storage × Hopper) Check) (punch : Result Stacked Check) (printer : Result Printed Check) (r p l : Tested) →
    Agrees r reader → Agrees p punch → Agrees l printer → Agrees (after r (after p l)) (together u reader punch printer)
together_agrees u (Ok read) (Ok stacked) (Ok printed) (Ok r) (Ok p) (Ok l) hr hp hl = tt
together_agrees u (Ok read) (Ok stacked) (Ok printed) (Ok r) (Ok p) (Err l) hr hp hl = absurd hl
together_agrees u (Ok read) (Ok stacked) (Err check) (Ok r) (Ok p) (Ok l) hr hp hl = absurd hl
together_agrees u (Ok read) (Ok stacked) (Err check) (Ok r) (Ok p) (Err l) hr hp hl = hl
together_agrees u (Ok read) (Ok stacked) printer (Ok r) (Err p) l hr hp hl = absurd hp
together_agrees u (Ok read) (Err check) printer (Ok r) (Ok p) l hr hp hl = absurd hp
together_agrees u (Ok read) (Err check) printer (Ok r) (Err p) l hr hp hl = hp
together_agrees u (Ok read) punch printer (Err r) p l hr hp hl = absurd hr
together_agrees u (Err check) punch printer (Ok r) p l hr hp hl = absurd hr
together_agrees u (Err check) punch printer (Err r) p l hr hp hl = hr

devices_agree : (devices : Devices) (s : Storage) (u : Units) → Agrees (devices_told devices u) (operated devices s u)
unfolding devices_told operated reader_works punch_works printer_works
devices_agree devices s u =
    together_agrees u _ _ _ _ _ _
    (agrees_if (reads devices) (card_read s u.hopper) (Ok (s, u.hopper)) (card_told u.hopper) passed (card_agrees s u.hopper) tt)
    (agrees_if (punches devices) (card_punched u.before.cards s u.punch) (Ok u.punch) (punch_told u.before.cards u.punch) passed (punch_agrees u.before.cards s u.punch) tt)
    (agrees_if (prints devices) (line_printed u.before.lines s u.printer) (Ok u.printer) (line_told u.before.lines u.printer) passed (line_agrees u.before.lines s u.printer) tt)

carriage_agrees : (modifier : Modifier) (p : Printed) → Agrees (carriage_told modifier p) (ordered_by modifier p)
unfolding carriage_told order_told carriage_moved
carriage_agrees Plain p = tt
carriage_agrees (OnCondition condition) p = tt
carriage_agrees (OnCharacter code) p = tt
carriage_agrees (OnTest test) p = tt
carriage_agrees (ByOrder order) p = found_test (ordered order p.carriage) PrinterFull _
carriage_agrees (ToPocket pocket) p = tt

-- ---- instructions

clear_agrees : (s : Storage) (r : Registers) → Agrees (place_told s r.b) (storage_cleared s r)
unfolding place_told storage_cleared
clear_agrees s r = last_test (ltb r.b (length s)) (FieldPast r.b) _

pocket_agrees : (pocket : Pocket) (p : Stacked) → Agrees (pocket_told p) (pocket_chosen pocket p)
unfolding pocket_told pocket_chosen
pocket_agrees pocket p = last_test (is_selecting p.profile) NoSelection _

effect_agrees : (operation : Operation) (d : Decoded) (next : ℕ) (w : Works) → Agrees (operation_told operation d.modifier w.storage w.units d.a d.b) (effect operation d next w)
unfolding operation_told effect
effect_agrees (OnFields operation) d next w =
    agrees_then (worked operation w.storage (filled d w.registers)) _ _ (λ done. (_, refl)) (work_agrees operation w.storage (filled d w.registers))
effect_agrees ClearStorage d next w =
    agrees_then (storage_cleared w.storage (filled d w.registers)) _ _ (λ done. (_, refl)) (clear_agrees w.storage (filled d w.registers))
effect_agrees Branch d next w = tt
effect_agrees BranchOnMarkOrZone d next w = tt
effect_agrees (Operate devices) d next w =
    agrees_then (operated devices w.storage w.units) _ _ (λ done. (_, refl)) (devices_agree devices w.storage w.units)
effect_agrees MoveCarriage d next w =
    agrees_then (ordered_by d.modifier w.units.printer) _ _ (λ printed. (_, refl)) (carriage_agrees d.modifier w.units.printer)
effect_agrees ChoosePocket d next w =
    agrees_then (pocket_chosen (pocket_by d.modifier) w.units.punch) _ _ (λ stacked. (_, refl)) (pocket_agrees (pocket_by d.modifier) w.units.punch)
effect_agrees StoreA d next w =
    agrees_then (address_stored w.storage d.a w.registers.a) _ _ (λ s. (_, refl)) (stored_agrees w.storage d.a w.registers.a)
effect_agrees StoreB d next w =
    agrees_then (address_stored w.storage d.a w.registers.b) _ _ (λ s. (_, refl)) (stored_agrees w.storage d.a w.registers.b)
effect_agrees Halt d next w = tt
effect_agrees NoOperation d next w = tt

-- a form that allows its last character is one
pub form_taken : (first count last : ℕ) (form : Bool) → is_form first count ≡ form → is_last first count last ≡ true → is_form first count ≡ true
form_taken first count last true e h = e
form_taken first count last false e h = absurd (let clash : false ≡ true = not_formed first count last e ∙ h in cc)

module _ (w : Works) (next count : ℕ) (codes : List ℕ) where
  abbrev outcome : Result Decoded Check → Result (Works × Course) Check
  outcome found = and_then found (λ d. effect d.operation d next w)

  first : ℕ
  first = get_or codes 0 0

  refused : (form : Bool) → is_form (get_or codes 0 0) count ≡ form → is_last (get_or codes 0 0) count (get_or codes (count - 1) 0) ≡ false → decoded_of w.storage count w.registers codes ≡ Err check.Instruction
  refused true e h = refused_last w.storage count w.registers codes e h
  refused false e h = refused_form w.storage count w.registers codes e

  by_last : (allowed : Bool) → is_last (get_or codes 0 0) count (get_or codes (count - 1) 0) ≡ allowed → Agrees (instruction_told w count codes) (outcome (decoded_of w.storage count w.registers codes))
  by_last true h =
      agrees_as (taken_by w count codes (get_or codes 0 0) (get_or codes (count - 1) 0) refl refl h)
      (ap outcome (decoded_is w.storage count w.registers codes (form_taken (get_or codes 0 0) count (get_or codes (count - 1) 0) (is_form (get_or codes 0 0) count) refl h) h))
      (agrees_mapped _ _ _ _ _ (operands_same w.storage (addresses_by (get_or codes 0 0) count) w.registers codes) (λ operands.
      effect_agrees (operation_by (get_or codes 0 0)) _ next w))
  by_last false h =
      agrees_as (sym (not_taken w count codes (get_or codes 0 0) (get_or codes (count - 1) 0) refl refl _ refl h)) (ap outcome (refused (is_form (get_or codes 0 0) count) refl h)) refl

  instruction_agrees : Agrees (instruction_told w count codes) (outcome (decoded_of w.storage count w.registers codes))
  instruction_agrees = by_last (is_last (get_or codes 0 0) count (get_or codes (count - 1) 0)) refl

-- which cause tells that no word begins and ends at a position
word_agrees : {T : Type 0} (marked : Bool) (found : Option (List ℕ)) (rest : List ℕ → Result T Check) (told : List ℕ → Tested) → ((codes : List ℕ) → Agrees (told codes) (rest codes)) →
    Agrees (given (finds found (if marked then NoEnd else NoMark) (λ codes. Ok codes)) told) (find_or found check.Instruction rest)
word_agrees marked (Some codes) rest told h = h codes
word_agrees true None rest told h = refl
word_agrees false None rest told h = refl

pub attempt_agrees : (w : Works) → Agrees (attempt_told w) (attempt w)
unfolding attempt_told attempt word_told
attempt_agrees w =
    agrees_needs (ltb w.registers.i (length w.storage)) RegisterPast _ _
    (word_agrees (is_marked w.storage w.registers.i) (word w.storage w.registers.i) _ _ (λ codes. instruction_agrees w _ (length codes) codes))

by_cause : {T : Type 0} (tests : Tested) (done : Result T Check) (c : Cause) → Agrees tests done → told tests ≡ Some c → done ≡ Err (check_of c)
by_cause (Ok x) done c h e = absurd (cc)
by_cause (Err cause) (Ok y) c h e = absurd h
by_cause (Err cause) (Err check) c h e = let same : cause ≡ c = cc in ap Err (h ∙ ap check_of same)

pub cause_is_of : (w : Works) (c : Cause) → cause w ≡ Some c → attempt w ≡ Err (check_of c)
unfolding cause
cause_is_of w c e = by_cause (attempt_told w) (attempt w) c (attempt_agrees w) e

none_by : {T : Type 0} (tests : Tested) (done : Result T Check) → Agrees tests done → told tests ≡ None → IsOk done
none_by (Ok x) (Ok y) h e = refl
none_by (Ok x) (Err check) h e = absurd h
none_by (Err cause) done h e = absurd (cc)

by_none : {T : Type 0} (tests : Tested) (done : Result T Check) → Agrees tests done → IsOk done → told tests ≡ None
by_none (Ok x) done h ok = refl
by_none (Err cause) (Ok y) h ok = absurd h
by_none (Err cause) (Err check) h ok = absurd (cc)

pub no_cause : (w : Works) → cause w ≡ None → IsOk (attempt w)
unfolding cause
no_cause w e = none_by (attempt_told w) (attempt w) (attempt_agrees w) e

pub without_check : (w : Works) → IsOk (attempt w) → cause w ≡ None
unfolding cause
without_check w ok = by_none (attempt_told w) (attempt w) (attempt_agrees w) ok
