-- steps and whole runs
use Rattle.std.proofs.Common.{Some, take, length-set, append_assoc, append-nil, inl, inr, ◌≡◌, ℕ, zero, suc, ◌+◌, ◌-◌, get_or, ◌<◌, ◌≤◌, Bool, true, false, List, ◌++◌, [], ◌∷◌, Result, Ok, Err, refl, sym, ◌∙◌, ap, arith, length, length-append, if◌then◌else◌, ◌&&◌}
use Rattle.std.proofs.lemmas.Bool.{lt-ltb}
use Rattle.std.proofs.lemmas.List.{length-replicate}
use Rattle.cards.specs.declared.decks.Card.{Card}
use Rattle.core_store.specs.Storage.{Storage, code_at, codes_from, field_length, with_mark, put_codes, blank_storage, positions_of}
use Rattle.core_store.specs.Operands.{are_inside, cut_length}
use Rattle.core_store.specs.declared.sizes.Size.{Size}
use Rattle.core_store.specs.Checked.{and_then}
use Rattle.core_store.proofs.Fields.{length-codes_from, length-put, length-put_codes, length-put_cells}
use Rattle.core_store.specs.declared.registers.Registers.{Registers}
use Rattle.core_store.specs.declared.checks.Check.{Check}
use Rattle.core_store.specs.declared.checks.Check.TheVariants.{Address, Data, Instruction}
use Rattle.addresses.specs.Effective.{base_ending}
use Rattle.addresses.specs.Stored.{address_stored}
use Rattle.arith.specs.Operands.{counts_at, counts_apart}
use Rattle.arith.specs.Sums.{added, zero_added}
use Rattle.arith.specs.Order.{compared}
use Rattle.arith.specs.Bases.{modified}
use Rattle.moves.specs.Marks.{marks_put, storage_cleared}
use Rattle.moves.specs.Moved.{moved, move_length}
use Rattle.moves.specs.Loaded.{field_loaded}
use Rattle.moves.specs.Parts.{digit_moved, zone_moved}
use Rattle.moves.specs.Suppressed.{zeros_suppressed, unmarked}
use Rattle.moves.specs.Edited.{field_edited}
use Rattle.units.specs.declared.units.Units.{Units}
use Rattle.units.specs.Printed.{Printed}
use Rattle.units.specs.Stacked.{Stacked}
use Rattle.units.specs.Pockets.{pocket_chosen}
use Rattle.units.specs.Units.{operated, Makes}
use Rattle.units.proofs.OperationOutcomes.{Each, each_require, each_find, each_then}
use Rattle.units.proofs.InRange.{Begins, begins_same, begins_take, Keeps, KeepsPunch, keeps_punch, operated_keeps, carriage_keeps, pocket_chosen_keeps}
use Rattle.machine.specs.declared.named.Operation.{Operation}
use Rattle.machine.specs.declared.named.Operation.TheVariants.{OnFields, ClearStorage, Branch, BranchOnMarkOrZone, Operate, MoveCarriage, ChoosePocket, StoreA, StoreB, Halt, NoOperation}
use Rattle.machine.specs.declared.operations.FieldOperation.{FieldOperation}
use Rattle.machine.specs.declared.operations.FieldOperation.TheVariants.{Add, Subtract, ZeroAdd, ZeroSubtract, Compare, ModifyAddress, Move, Load, MoveDigit, MoveZone, Suppress, Edit, SetMark, ClearMark}
use Rattle.machine.specs.declared.named.Modifier.{Modifier}
use Rattle.machine.specs.declared.named.Modifier.TheVariants.{Plain, OnCondition, OnCharacter, OnTest, ByOrder, ToPocket}
use Rattle.machine.specs.declared.named.Decoded.{Decoded}
use Rattle.machine.specs.declared.operations.Course.{Course}
use Rattle.machine.specs.declared.operations.Course.TheVariants.{GoesOn, Halts}
use Rattle.machine.specs.declared.standings.Standing.{Standing}
use Rattle.machine.specs.declared.standings.Standing.TheVariants.{Running, Halted, Checked}
use Rattle.machine.specs.declared.runs.Checkpoint.{Checkpoint}
use Rattle.machine.specs.Word.{word, word_length, decoded, decoded_of}
use Rattle.machine.specs.Effect.{Works, attempt, effect, filled, next_of, ordered_by, pocket_by, worked, works_of}
use Rattle.machine.specs.Run.{State, IsGivenUp, IsWanting, running, step, after, attempts, executed, attempted, is_running, is_checked, risen, standing_after, lines_of, restored, first_card}

-- what an attempt does once the instruction is read
pub attempt_is : (w : Works) (count : ℕ) (d : Decoded) → w.registers.i < length w.storage → Some count ≡ word_length w.storage w.registers.i → w.registers.i + count ≤ length w.storage →
    Ok d ≡ decoded_of w.storage count w.registers (codes_from w.storage w.registers.i count) → attempt w ≡ effect d.operation d (next_of w.registers.i count) w
unfolding attempt word
attempt_is w count d inside found within read =
    let long : length (codes_from w.storage w.registers.i count) ≡ count = length-codes_from w.storage w.registers.i count within in
    rw (lt-ltb w.registers.i (length w.storage) inside, ← found)
    (ap (λ n. and_then (decoded_of w.storage n w.registers (codes_from w.storage w.registers.i count)) (λ e. effect e.operation e (next_of w.registers.i n) w)) long
    ∙ ap (λ r. and_then r (λ e. effect e.operation e (next_of w.registers.i count) w)) (sym read))

-- the same where the instruction cannot be read
pub attempt_check : (w : Works) (count : ℕ) (check : Check) → w.registers.i < length w.storage → Some count ≡ word_length w.storage w.registers.i → w.registers.i + count ≤ length w.storage →
    Err check ≡ decoded_of w.storage count w.registers (codes_from w.storage w.registers.i count) → attempt w ≡ Err check
unfolding attempt word
attempt_check w count check inside found within read =
    let long : length (codes_from w.storage w.registers.i count) ≡ count = length-codes_from w.storage w.registers.i count within in
    rw (lt-ltb w.registers.i (length w.storage) inside, ← found)
    (ap (λ n. and_then (decoded_of w.storage n w.registers (codes_from w.storage w.registers.i count)) (λ e. effect e.operation e (next_of w.registers.i n) w)) long
    ∙ ap (λ r. and_then r (λ e. effect e.operation e (next_of w.registers.i count) w)) (sym read))

pub step_stopped : (m : State) → is_running m.standing ≡ false → step m ≡ m
unfolding step
step_stopped m h = rw h refl

pub step_running : (m : State) → is_running m.standing ≡ true → step m ≡ attempted m (attempt m.works)
unfolding step
step_running m h = rw h refl

pub after_stopped : (m : State) (count : ℕ) → is_running m.standing ≡ false → after m count ≡ m
unfolding after
after_stopped m zero h = refl
after_stopped m (suc count) h = ap (λ t. after t count) (step_stopped m h) ∙ after_stopped m count h

pub attempts_stopped : (m : State) (count : ℕ) → is_running m.standing ≡ false → attempts m count ≡ 0
unfolding attempts
attempts_stopped m zero h = refl
attempts_stopped m (suc count) h =
    ap (λ t. (if is_running m.standing then 1 else 0) + attempts t count) (step_stopped m h) ∙ ap (λ n. (if is_running m.standing then 1 else 0) + n) (attempts_stopped m count h)
    ∙ ap (λ b. (if b then 1 else 0) + 0) h

-- so many steps and then so many more
pub after-after : (m : State) (first second : ℕ) → after (after m first) second ≡ after m (first + second)
unfolding after
after-after m zero second = let none : second ≡ 0 + second = omega arith in ap (after m) none
after-after m (suc first) second = let one : suc (first + second) ≡ suc first + second = omega arith in after-after (step m) first second ∙ ap (after m) one

regroup : (a b c : ℕ) → a + (b + c) ≡ a + b + c
regroup a b c = omega arith

pub attempts-add : (m : State) (first second : ℕ) → attempts m (first + second) ≡ attempts m first + attempts (after m first) second
unfolding attempts after
attempts-add m zero second =
    let none : 0 + second ≡ second = omega arith in
    let plain : attempts m second ≡ 0 + attempts m second = omega arith in
    ap (attempts m) none ∙ plain
attempts-add m (suc first) second =
    let one : suc first + second ≡ suc (first + second) = omega arith in
    let here = if is_running m.standing then 1 else 0 in
    ap (attempts m) one ∙ ap (λ n. here + n) (attempts-add (step m) first second) ∙ regroup here (attempts (step m) first) (attempts (after (step m) first) second)

pub attempts_one : (m : State) → is_running m.standing ≡ true → attempts m 1 ≡ 1
unfolding attempts
attempts_one m h = ap (λ b. (if b then 1 else 0) + 0) h

-- ---- how one step goes by how its attempt went

pub runs : (standing : Standing) → is_running standing ≡ true → standing ≡ Running
runs Running h = refl
runs Halted h = absurd (cc)
runs (Checked check) h = absurd (cc)

pub step_ok : (m : State) (w after_it : Works) (course : Course) → w ≡ m.works → is_running m.standing ≡ true → attempt w ≡ Ok (after_it, course) →
    record { works = after_it; standing = standing_after course } ≡ step m
step_ok m w after_it course same running done = sym (step_running m running ∙ ap (attempted m) (ap attempt (sym same) ∙ done))

pub step_check : (m : State) (w : Works) (check : Check) → w ≡ m.works → is_running m.standing ≡ true → attempt w ≡ Err check → record m { standing = Checked check } ≡ step m
step_check m w check same running done = sym (step_running m running ∙ ap (attempted m) (ap attempt (sym same) ∙ done))

-- an outcome by which a card or a line was made
abbrev pub MakesBy : Works → Result (Works × Course) Check → Type 0
MakesBy w (Ok done) = Makes w.units done.0.units
MakesBy w (Err check) = ⊥

made : (m : State) (w : Works) (outcome : Result (Works × Course) Check) → w ≡ m.works → MakesBy w outcome → Makes m.works.units (attempted m outcome).works.units
made m w (Ok done) same makes = rw (← same) makes
made m w (Err check) same makes = absurd makes

pub step_makes : (m : State) (w : Works) → w ≡ m.works → is_running m.standing ≡ true → MakesBy w (attempt w) → Makes m.works.units (step m).works.units
step_makes m w same running makes =
    let e : step m ≡ attempted m (attempt w) = step_running m running ∙ ap (λ x. attempted m (attempt x)) (sym same) in
    rw e (made m w (attempt w) same makes)

-- ---- what each attempt keeps

pub each_any : {T : Type 0} (r : Result T Check) → Each (λ _. Unit {0}) r
each_any (Ok x) = tt
each_any (Err check) = tt

-- the storage keeps its size, the deck, the switches, the profile and the counts of what was made before stay, and cards and lines are only added
abbrev pub KeepsAll : Works → Works → Type 0
KeepsAll w after_it = Keeps w.storage after_it.storage w.units after_it.units

begins_then : {T : Type 0} (xs ys zs : List T) → Begins xs ys → Begins ys zs → Begins xs zs
begins_then xs ys zs (more, e) (rest, f) = (more ++ rest, f ∙ ap (λ l. l ++ rest) e ∙ append_assoc xs more rest)

begins_longer : {T : Type 0} (xs ys : List T) → Begins xs ys → length xs ≤ length ys
begins_longer xs ys (more, e) = let long : length ys ≡ length xs + length more = ap length e ∙ length-append xs more in omega arith

pub keeps_same : (s t : Storage) (u : Units) → length t ≡ length s → Keeps s t u u
keeps_same s t u size = record { size = size; deck = refl; before = refl; switches = refl; punch = keeps_punch u.punch; lines = begins_same u.printer.lines }

punch_then : (p q r : Stacked) → KeepsPunch p q → KeepsPunch q r → KeepsPunch p r
punch_then p q r one two = record {
  profile = two.profile ∙ one.profile;
  cards = begins_then p.cards q.cards r.cards one.cards two.cards;
  plain = λ h. two.plain (one.plain h);
}

pub keeps_then : (s t r : Storage) (u v x : Units) → Keeps s t u v → Keeps t r v x → Keeps s r u x
keeps_then s t r u v x one two = record {
  size = two.size ∙ one.size;
  deck = two.deck ∙ one.deck;
  before = two.before ∙ one.before;
  switches = two.switches ∙ one.switches;
  punch = punch_then u.punch v.punch x.punch one.punch two.punch;
  lines = begins_then u.printer.lines v.printer.lines x.printer.lines one.lines two.lines;
}

abbrev KeepsSize : Storage → Storage × Registers → Type 0
KeepsSize s (after_it, r) = length after_it ≡ length s

marks_put_keeps : (marked : Bool) (s : Storage) (r : Registers) → Each (KeepsSize s) (marks_put marked s r)
unfolding marks_put
marks_put_keeps marked s r =
    search (each_require, length-set (with_mark s r.a marked) r.b (code_at (with_mark s r.a marked) r.b, marked) ∙ length-set s r.a (code_at s r.a, marked))

storage_cleared_keeps : (s : Storage) (r : Registers) → Each (KeepsSize s) (storage_cleared s r)
unfolding storage_cleared
storage_cleared_keeps s r = search (each_require, length-put_cells)

moved_keeps : (s : Storage) (r : Registers) → Each (KeepsSize s) (moved s r)
unfolding moved
moved_keeps s r =
    each_require (KeepsSize s) _ Address _
    (each_find (KeepsSize s) (move_length s r.a r.b) Address _ (λ count. search (each_require, length-put_codes)))

field_loaded_keeps : (s : Storage) (r : Registers) → Each (KeepsSize s) (field_loaded s r)
unfolding field_loaded
field_loaded_keeps s r =
    each_require (KeepsSize s) (are_inside s r.a r.b) Address _
    (each_find (KeepsSize s) (field_length s r.a) Address _ (λ count. search (each_require, length-put_cells)))

digit_moved_keeps : (s : Storage) (r : Registers) → Each (KeepsSize s) (digit_moved s r)
unfolding digit_moved
digit_moved_keeps s r = search (each_require, length-put)

zone_moved_keeps : (s : Storage) (r : Registers) → Each (KeepsSize s) (zone_moved s r)
unfolding zone_moved
zone_moved_keeps s r = search (each_require, length-put)

length-unmarked : (s : Storage) (first count : ℕ) → length (unmarked s first count) ≡ length s
unfolding unmarked
length-unmarked s first zero = refl
length-unmarked s first (suc count) = length-set (unmarked s (first + 1) count) first _ ∙ length-unmarked s (first + 1) count

suppressed_length : (s : Storage) (first count : ℕ) (codes : List ℕ) → length (put_codes (unmarked s first count) first codes) ≡ length s
suppressed_length s first count codes = length-put_codes (unmarked s first count) first codes ∙ length-unmarked s first count

zeros_suppressed_keeps : (s : Storage) (r : Registers) → Each (KeepsSize s) (zeros_suppressed s r)
unfolding zeros_suppressed
zeros_suppressed_keeps s r =
    each_require (KeepsSize s) (are_inside s r.a r.b) Address _
    (each_find (KeepsSize s) (field_length s r.a) Address _ (λ count. search (each_require, suppressed_length)))

edited_length : (s : Storage) (first p : ℕ) (codes : List ℕ) (marked : Bool) → length (with_mark (put_codes s first codes) p marked) ≡ length s
edited_length s first p codes marked = length-set (put_codes s first codes) p (code_at (put_codes s first codes) p, marked) ∙ length-put_codes s first codes

field_edited_keeps : (s : Storage) (r : Registers) → Each (KeepsSize s) (field_edited s r)
unfolding field_edited
field_edited_keeps s r =
    each_require (KeepsSize s) (are_inside s r.a r.b) Address _
    (each_find (KeepsSize s) (field_length s r.b) Address _ (λ b_count.
    each_find (KeepsSize s) (cut_length s r.a _) Address _ (λ a_count. search (each_require, edited_length))))

added_keeps : (reversed : Bool) (s : Storage) (r : Registers) → Each (KeepsSize s) (added reversed s r)
unfolding added
added_keeps reversed s r =
    each_then (λ _. Unit {0}) (KeepsSize s) (counts_apart s r.a r.b) _ (each_any (counts_apart s r.a r.b)) (λ counts _.
    search (each_require, length-put_codes))

zero_added_keeps : (reversed : Bool) (s : Storage) (r : Registers) → Each (KeepsSize s) (zero_added reversed s r)
unfolding zero_added
zero_added_keeps reversed s r =
    each_then (λ _. Unit {0}) (KeepsSize s) (counts_apart s r.a r.b) _ (each_any (counts_apart s r.a r.b)) (λ counts _.
    search (each_require, length-put_codes))

compared_keeps : (s : Storage) (r : Registers) → Each (KeepsSize s) (compared s r)
unfolding compared
compared_keeps s r = each_then (λ _. Unit {0}) (KeepsSize s) (counts_at s r.a r.b) _ (each_any (counts_at s r.a r.b)) (λ counts _. refl)

modified_keeps : (s : Storage) (r : Registers) → Each (KeepsSize s) (modified s r)
unfolding modified
modified_keeps s r =
    each_require (KeepsSize s) _ Address _
    (each_find (KeepsSize s) (base_ending s r.a) Data _ (λ a.
    each_find (KeepsSize s) (base_ending s r.b) Data _ (λ b. length-put_codes s (r.b - 2) _)))

address_stored_keeps : (s : Storage) (p n : ℕ) → Each (λ t. length t ≡ length s) (address_stored s p n)
unfolding address_stored
address_stored_keeps s p n = search (each_require, length-put_codes)

worked_keeps : (operation : FieldOperation) (s : Storage) (r : Registers) → Each (KeepsSize s) (worked operation s r)
unfolding worked
worked_keeps Add s r = added_keeps false s r
worked_keeps Subtract s r = added_keeps true s r
worked_keeps ZeroAdd s r = zero_added_keeps false s r
worked_keeps ZeroSubtract s r = zero_added_keeps true s r
worked_keeps Compare s r = compared_keeps s r
worked_keeps ModifyAddress s r = modified_keeps s r
worked_keeps Move s r = moved_keeps s r
worked_keeps Load s r = field_loaded_keeps s r
worked_keeps MoveDigit s r = digit_moved_keeps s r
worked_keeps MoveZone s r = zone_moved_keeps s r
worked_keeps Suppress s r = zeros_suppressed_keeps s r
worked_keeps Edit s r = field_edited_keeps s r
worked_keeps SetMark s r = marks_put_keeps true s r
worked_keeps ClearMark s r = marks_put_keeps false s r

ordered_keeps : (modifier : Modifier) (p : Printed) → Each (λ after_it. after_it.lines ≡ p.lines) (ordered_by modifier p)
ordered_keeps Plain p = refl
ordered_keeps (OnCondition condition) p = refl
ordered_keeps (OnCharacter code) p = refl
ordered_keeps (OnTest test) p = refl
ordered_keeps (ByOrder order) p = carriage_keeps order p
ordered_keeps (ToPocket pocket) p = refl

abbrev KeepsBoth : Works → Works × Course → Type 0
KeepsBoth w (after_it, course) = KeepsAll w after_it

effect_keeps : (operation : Operation) (d : Decoded) (next : ℕ) (w : Works) → Each (KeepsBoth w) (effect operation d next w)
unfolding effect
effect_keeps (OnFields operation) d next w =
    each_then (KeepsSize w.storage) (KeepsBoth w) (worked operation w.storage (filled d w.registers)) _ (worked_keeps operation w.storage (filled d w.registers))
    (λ done h. keeps_same w.storage done.0 w.units h)
effect_keeps ClearStorage d next w =
    each_then (KeepsSize w.storage) (KeepsBoth w) (storage_cleared w.storage (filled d w.registers)) _ (storage_cleared_keeps w.storage (filled d w.registers))
    (λ done h. keeps_same w.storage done.0 w.units h)
effect_keeps Branch d next w = keeps_same w.storage w.storage w.units refl
effect_keeps BranchOnMarkOrZone d next w = keeps_same w.storage w.storage w.units refl
effect_keeps (Operate devices) d next w =
    each_then (λ done. Keeps w.storage done.0 w.units done.1) (KeepsBoth w) (operated devices w.storage w.units) _ (operated_keeps devices w.storage w.units) (λ done h. h)
effect_keeps MoveCarriage d next w =
    each_then (λ after_it. after_it.lines ≡ w.units.printer.lines) (KeepsBoth w) (ordered_by d.modifier w.units.printer) _ (ordered_keeps d.modifier w.units.printer) (λ p h.
    record { size = refl; deck = refl; before = refl; switches = refl; punch = keeps_punch w.units.punch; lines = ([], h ∙ sym (append-nil w.units.printer.lines)) })
effect_keeps ChoosePocket d next w =
    each_then (KeepsPunch w.units.punch) (KeepsBoth w) (pocket_chosen (pocket_by d.modifier) w.units.punch) _ (pocket_chosen_keeps (pocket_by d.modifier) w.units.punch) (λ stacked keeps.
    record { size = refl; deck = refl; before = refl; switches = refl; punch = keeps; lines = begins_same w.units.printer.lines })
effect_keeps StoreA d next w =
    each_then (λ t. length t ≡ length w.storage) (KeepsBoth w) (address_stored w.storage d.a w.registers.a) _ (address_stored_keeps w.storage d.a w.registers.a)
    (λ t h. keeps_same w.storage t w.units h)
effect_keeps StoreB d next w =
    each_then (λ t. length t ≡ length w.storage) (KeepsBoth w) (address_stored w.storage d.a w.registers.b) _ (address_stored_keeps w.storage d.a w.registers.b)
    (λ t h. keeps_same w.storage t w.units h)
effect_keeps Halt d next w = keeps_same w.storage w.storage w.units refl
effect_keeps NoOperation d next w = keeps_same w.storage w.storage w.units refl

attempt_keeps : (w : Works) → Each (KeepsBoth w) (attempt w)
unfolding attempt
attempt_keeps w =
    each_require (KeepsBoth w) _ Address _
    (each_find (KeepsBoth w) (word w.storage w.registers.i) Instruction _ (λ codes.
    each_then (λ _. Unit {0}) (KeepsBoth w) (decoded w.storage w.registers codes) _ (each_any (decoded w.storage w.registers codes))
    (λ d _. effect_keeps d.operation d (next_of w.registers.i (length codes)) w)))

-- the storage keeps its size where an attempt went through
pub attempt_size : (w after_it : Works) (course : Course) → attempt w ≡ Ok (after_it, course) → length after_it.storage ≡ length w.storage
attempt_size w after_it course done =
    let keeps : Each (KeepsBoth w) (Ok (after_it, course)) = rw done at (attempt_keeps w) in keeps.size

attempted_keeps : (m : State) (outcome : Result (Works × Course) Check) → Each (KeepsBoth m.works) outcome → KeepsAll m.works (attempted m outcome).works
attempted_keeps m (Ok (works, course)) h = h
attempted_keeps m (Err check) h = keeps_same m.works.storage m.works.storage m.works.units refl

step_keeps_if : (m : State) (running : Bool) → is_running m.standing ≡ running → KeepsAll m.works (step m).works
step_keeps_if m true h = rw (step_running m h) (attempted_keeps m (attempt m.works) (attempt_keeps m.works))
step_keeps_if m false h = rw (step_stopped m h) (keeps_same m.works.storage m.works.storage m.works.units refl)

-- what a machine that was run from another has kept of it
abbrev pub Stems : State → State → Type 0
Stems old now = KeepsAll old.works now.works

pub step_keeps : (m : State) → Stems m (step m)
step_keeps m = step_keeps_if m (is_running m.standing) refl

pub stems_same : (m : State) → Stems m m
stems_same m = keeps_same m.works.storage m.works.storage m.works.units refl

pub stems_none : (old now : State) → now ≡ old → Stems old now
stems_none old now same = rw same (stems_same old)

stems_then : (old now next : State) → Stems old now → Stems now next → Stems old next
stems_then old now next one two = keeps_then old.works.storage now.works.storage next.works.storage old.works.units now.works.units next.works.units one two

pub stems_step : (old now next : State) → next ≡ step now → Stems old now → Stems old next
stems_step old now next e stems = rw e (stems_then old now (step now) stems (step_keeps now))

pub stems_after : (old now : State) (count : ℕ) → Stems old now → Stems old (after now count)
unfolding after
stems_after old now zero stems = stems
stems_after old now (suc count) stems = stems_after old (step now) count (stems_step old now (step now) refl stems)

-- where a step in the middle makes a card or a line, the whole does
pub makes_through : (old now next end : State) → Stems old now → Makes now.works.units next.works.units → Stems next end → Makes old.works.units end.works.units
makes_through old now next end before (inl cards) behind =
    let first = begins_longer old.works.units.punch.cards now.works.units.punch.cards before.punch.cards in
    let last = begins_longer next.works.units.punch.cards end.works.units.punch.cards behind.punch.cards in
    inl (omega arith)
makes_through old now next end before (inr lines) behind =
    let first = begins_longer (lines_of old) (lines_of now) before.lines in
    let last = begins_longer (lines_of next) (lines_of end) behind.lines in
    inr (omega arith)

-- ---- ticks, and the instructions executed

pub risen-risen : (ticks first second : ℕ) → risen (risen ticks first) second ≡ risen ticks (first + second)
risen-risen ticks first second = omega arith

pub executed_is : (old end : State) (limit attempted : ℕ) (began : Standing) → attempted ≡ attempts old limit → began ≡ old.standing → end ≡ after old limit →
    attempted - (if is_running began && is_checked end.standing then 1 else 0) ≡ executed old limit
unfolding executed
executed_is old end limit attempted began all same final =
    ap (λ n. n - (if is_running began && is_checked end.standing then 1 else 0)) all
    ∙ ap (λ (t : Standing). attempts old limit - (if is_running t && is_checked end.standing then 1 else 0)) same
    ∙ ap (λ (t : State). attempts old limit - (if is_running old.standing && is_checked t.standing then 1 else 0)) final

-- ---- going back

pub record IsCheckpointOf (c : Checkpoint) (m : State) : Type 0 where
  pub registers : c.registers ≡ m.works.registers
  pub taken : c.taken ≡ m.works.units.hopper.taken
  pub cards : c.cards ≡ length m.works.units.punch.cards
  pub chosen : c.chosen ≡ m.works.units.punch.chosen
  pub lines : c.lines ≡ length (lines_of m)
  pub carriage : c.carriage ≡ m.works.units.printer.carriage
  pub standing : c.standing ≡ m.standing

pub restored_is : (old now : State) (s : Storage) (c : Checkpoint) → s ≡ old.works.storage → IsCheckpointOf c old → Stems old now → restored now s c ≡ old
restored_is old now s c storage is stems =
    let cards : take c.cards now.works.units.punch.cards ≡ old.works.units.punch.cards =
    ap (λ n. take n now.works.units.punch.cards) is.cards ∙ begins_take old.works.units.punch.cards now.works.units.punch.cards stems.punch.cards in
    let lines : take c.lines (lines_of now) ≡ lines_of old = ap (λ n. take n (lines_of now)) is.lines ∙ begins_take (lines_of old) (lines_of now) stems.lines in
    rw (storage, is.registers, is.taken, cards, is.chosen, stems.punch.profile, lines, is.carriage, is.standing, stems.deck, stems.before, stems.switches) refl

-- ---- the beginning

pub first_card_is : (deck : List Card) (d : Card) → 0 < length deck → (get_or deck 0 d).0 ≡ first_card deck
first_card_is [] d h = absurd (omega arith)
first_card_is (card ∷ cards) d h = refl

pub length-loaded : (s : Storage) (size : Size) (codes : List ℕ) → s ≡ with_mark (put_codes (blank_storage (positions_of size)) 1 codes) 1 true → length s ≡ positions_of size
length-loaded s size codes is =
    let t = put_codes (blank_storage (positions_of size)) 1 codes in
    ap length is ∙ length-set t 1 (code_at t 1, true) ∙ length-put_codes (blank_storage (positions_of size)) 1 codes ∙ length-replicate (positions_of size) (0, false)

-- ---- a run in its middle: how far it has come

pub record Reached (old now : State) (done : ℕ) : Type 0 where
  pub machine : after old done ≡ now
  pub attempts : attempts old done ≡ done

pub after_one : (m : State) → after m 1 ≡ step m
unfolding after
after_one m = refl

pub reached_none : (m : State) → Reached m m 0
unfolding after attempts
reached_none m = record { machine = refl; attempts = refl }

-- a machine that is running has this standing
pub running_is : (m : State) (w : Works) → w ≡ m.works → is_running m.standing ≡ true → running w ≡ m
running_is m w same h = ap running same ∙ ap (λ s. record { works = m.works; standing = s }) (sym (runs m.standing h))

-- a run that came to its end
pub record Ended (old now : State) (limit done : ℕ) : Type 0 where
  pub machine : now ≡ after old limit
  pub attempts : done ≡ attempts old limit

module _ (old now : State) (done : ℕ) (reached : Reached old now done) where
  one_further : after old (done + 1) ≡ step now
  one_further = sym (after-after old done 1) ∙ ap (λ (m : State). after m 1) reached.machine ∙ after_one now

  pub reached_step : (next : State) → is_running now.standing ≡ true → next ≡ step now → Reached old next (done + 1)
  reached_step next running stepped =
      let one : attempts (after old done) 1 ≡ 1 = ap (λ (m : State). attempts m 1) reached.machine ∙ attempts_one now running in
      record { machine = one_further ∙ sym stepped; attempts = omega (arith, attempts-add old done 1, reached.attempts, one) }

  pub ended_stopped : (limit : ℕ) → done ≤ limit → is_running now.standing ≡ false → Ended old now limit done
  ended_stopped limit within stopped =
      let whole : done + (limit - done) ≡ limit = omega arith in
      let none : attempts (after old done) (limit - done) ≡ 0 = ap (λ (m : State). attempts m (limit - done)) reached.machine ∙ attempts_stopped now (limit - done) stopped in
      record {
        machine =
            sym (after_stopped now (limit - done) stopped) ∙ ap (λ (m : State). after m (limit - done)) (sym reached.machine) ∙ after-after old done (limit - done) ∙ ap (after old) whole;
        attempts = omega (arith, attempts-add old done (limit - done), reached.attempts, none, ap (attempts old) whole);
      }

  pub ended_whole : (limit : ℕ) → limit ≡ done → Ended old now limit limit
  ended_whole limit same = record { machine = sym reached.machine ∙ ap (after old) (sym same); attempts = same ∙ sym reached.attempts ∙ ap (attempts old) (sym same) }

  pub wanting_here : (limit : ℕ) → done < limit → Makes now.works.units (step now).works.units → IsWanting old now limit done
  wanting_here limit below makes = record { below = below; reached = reached.machine; attempted = reached.attempts; wanting = makes }

-- how a run in its middle goes on from works by the outcome of the next attempt
module _ (old : State) (w x : Works) (done : ℕ) (reached : Reached old (running w) done) where
  pub goes_on_here : attempt w ≡ Ok (x, GoesOn) → Reached old (running x) (done + 1)
  goes_on_here outcome = reached_step old (running w) done reached (running x) refl (step_ok (running w) w x GoesOn refl refl outcome)

  pub halted_here : (limit : ℕ) → done < limit → attempt w ≡ Ok (x, Halts) → Ended old (record { works = x; standing = Halted }) limit (done + 1)
  halted_here limit below outcome =
      let next : State = record { works = x; standing = Halted } in
      ended_stopped old next (done + 1) (reached_step old (running w) done reached next refl (step_ok (running w) w x Halts refl refl outcome)) limit (omega arith) refl

  pub checked_here : (limit : ℕ) (check : Check) → done < limit → attempt w ≡ Err check → x ≡ w → Ended old (record { works = x; standing = Checked check }) limit (done + 1)
  checked_here limit check below outcome same =
      let next : State = record { works = x; standing = Checked check } in
      let stepped : next ≡ step (running w) = ap (λ works. record { works = works; standing = Checked check }) same ∙ step_check (running w) w check refl refl outcome in
      ended_stopped old next (done + 1) (reached_step old (running w) done reached next refl stepped) limit (omega arith) refl

  pub wanting_next : (limit : ℕ) → done < limit → MakesBy w (attempt w) → x ≡ w → IsWanting old (running x) limit done
  wanting_next limit below makes same =
      rw same (wanting_here old (running w) done reached limit below (step_makes (running w) w refl refl makes))

-- a machine that is not running is at its end at once
pub ended_at_once : (m : State) (limit : ℕ) → is_running m.standing ≡ false → Ended m m limit 0
ended_at_once m limit stopped = record { machine = sym (after_stopped m limit stopped); attempts = sym (attempts_stopped m limit stopped) }

-- ---- a run given up

module _ (old now : State) (limit done : ℕ) (wanting : IsWanting old now limit done) where
  wanted_further : after old (done + 1) ≡ step now
  wanted_further = sym (after-after old done 1) ∙ ap (λ (m : State). after m 1) wanting.reached ∙ after_one now

  pub wanting_stems : Stems old now
  wanting_stems = rw wanting.reached at (stems_after old old done (stems_same old))

  pub wanting_makes : Makes old.works.units (after old limit).works.units
  wanting_makes =
      let k : ℕ = limit - (done + 1) in
      let split : done + 1 + k ≡ limit = omega (arith, wanting.below) in
      let whole : after (step now) k ≡ after old limit = ap (λ (m : State). after m k) (sym wanted_further) ∙ after-after old (done + 1) k ∙ ap (after old) split in
      let through : Makes old.works.units (after (step now) k).works.units =
      makes_through old now (step now) (after (step now) k) wanting_stems wanting.wanting (stems_after (step now) (step now) k (stems_same (step now))) in
      rw whole at through

  pub wanting_given_up : (old_ticks ticks : ℕ) → ticks ≡ risen old_ticks done → IsGivenUp old limit old_ticks ticks
  wanting_given_up old_ticks ticks ticked =
      record {
        done = done;
        below = wanting.below;
        attempted = wanting.attempted;
        wanting = rw (wanting.reached, wanted_further) wanting.wanting;
        meter = ticked;
      }

-- one instruction that is given up changes nothing
pub wanting_first : (old now : State) (done : ℕ) → IsWanting old now 1 done → (now ≡ old) × Makes old.works.units (step old).works.units
unfolding after
wanting_first old now done wanting =
    let none : done ≡ 0 = omega (arith, wanting.below) in
    let same : old ≡ now = ap (after old) (sym none) ∙ wanting.reached in
    (sym same, rw same wanting.wanting)

-- a machine that has come as far, by a call that changed nothing
pub reached_unchanged : (old : State) (s t : Storage) (r q : Registers) (units : Units) (done : ℕ) → Reached old (running (works_of s r units)) done → t ≡ s → q ≡ r → Reached old (running (works_of t q units)) done
reached_unchanged old s t r q units done reached same equal = rw (same, equal) reached
