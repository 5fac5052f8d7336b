-- what the characters of an instruction name
use Rattle.std.proofs.Common.{◌≡◌, ℕ, zero, suc, ◌<◌, ◌≤◌, ◌≢◌, ◌==◌, ◌||◌, not, Bool, true, false, List, Option, Some, None, Ok, Err, refl, ap, arith, if◌then◌else◌, ltb, is_some, unwrap_or}
use Rattle.std.specs.Option.{option_map}
use Rattle.std.proofs.Math.Decide.{dec_lt}
use Rattle.std.proofs.lemmas.Bool.{eqb-true, ne_eqb, le-ltb}
use Rattle.std.specs.Prelude.{codes}
use Rattle.bcd.specs.Table.{glyph_of, byte}
use Rattle.bcd.proofs.Tables.{at_each}
use Rattle.core_store.specs.Storage.{code_at}
use Rattle.core_store.specs.Operands.{lowered}
use Rattle.core_store.specs.declared.checks.Check.{Check}
use Rattle.units.specs.Carriages.{order_of, carriage_moved}
use Rattle.units.specs.Pockets.{pocket_of, pocket_chosen}
use Rattle.units.specs.Printed.{Printed}
use Rattle.units.specs.Stacked.{Stacked}
use Rattle.units.specs.declared.carriage.CarriageOrder.{CarriageOrder}
use Rattle.units.specs.declared.pockets.Pocket.{Pocket}
use Rattle.units.specs.declared.pockets.Pocket.TheVariants.{Normal}
use Rattle.machine.specs.declared.operations.Course.TheVariants.{GoesOn}
use Rattle.machine.specs.declared.branches.Condition.{Condition}
use Rattle.machine.specs.declared.branches.Condition.TheVariants.{Always}
use Rattle.machine.specs.declared.branches.PositionTest.{PositionTest}
use Rattle.machine.specs.declared.named.Operation.TheVariants.{OnFields, Branch, BranchOnMarkOrZone, Operate, MoveCarriage, ChoosePocket, NoOperation}
use Rattle.machine.specs.declared.operations.FieldOperation.TheVariants.{Add, Subtract, Compare, ZeroAdd, ZeroSubtract, ModifyAddress, Move, Load, Suppress, Edit}
use Rattle.machine.specs.declared.named.Modifier.{Modifier}
use Rattle.machine.specs.declared.named.Modifier.TheVariants.{Plain, OnCondition, OnCharacter, OnTest, ByOrder, ToPocket}
use Rattle.machine.specs.declared.named.Decoded.{Decoded}
use Rattle.machine.specs.Branches.{condition_of, test_of, is_met, once_tested, passes}
use Rattle.machine.specs.Effect.{Works, after_branch, branched, effect, at, pocket_by}
use Rattle.machine.specs.Instructions.{operation_by, modifier_by}
use Rattle.machine.specs.Glyphs.{is_glyph}
use Rattle.machine.specs.Operations.{Form, Row, names_test, names_order, names_pocket, free, saying, devices, operations, row_of}
use Rattle.machine.specs.Word.{LooksInside}

-- ---- what the last character of each form means

-- a form that is looked for by its length is the first one, found or not
either_way : (found : Bool) (form : Form) → unwrap_or (if found then Some form else None) form ≡ form
either_way true form = refl
either_way false form = refl

letter : (code : ℕ) (text : List ℕ) → is_glyph code text ≡ true → glyph_of code ≡ byte text
letter code text h = eqb-true (glyph_of code) (byte text) h

pub meant_by_five : (first count last : ℕ) → is_glyph first (codes "B") ≡ true → count ≡ 5 → modifier_by first count last ≡ unwrap_or (option_map (λ condition. OnCondition condition) (condition_of last)) Plain
unfolding modifier_by row_of operations
meant_by_five first count last named five = rw (letter first (codes "B") named, five) refl

pub meant_by_eight : (first count last : ℕ) → is_glyph first (codes "B") ≡ true → count ≡ 8 → modifier_by first count last ≡ OnCharacter last
unfolding modifier_by row_of operations
meant_by_eight first count last named eight = rw (letter first (codes "B") named, eight) refl

pub meant_by_four : (first count last : ℕ) → is_glyph first (codes "B") ≡ true → count ≢ 5 → count ≢ 8 → modifier_by first count last ≡ Plain
unfolding modifier_by row_of operations
meant_by_four first count last named not_five not_eight =
    rw (letter first (codes "B") named, ne_eqb count 5 not_five, ne_eqb count 8 not_eight, either_way (count == 4) (free 4 1)) refl

pub meant_by_test : (first count last : ℕ) (test : PositionTest) → is_glyph first (codes "V") ≡ true → test_of last ≡ Some test → modifier_by first count last ≡ OnTest test
unfolding modifier_by row_of operations
meant_by_test first count last test named found =
    rw (letter first (codes "V") named, either_way (count == 8) (saying 8 2 names_test), found) refl

pub meant_by_no_test : (first count last : ℕ) → is_glyph first (codes "V") ≡ true → test_of last ≡ None → modifier_by first count last ≡ Plain
unfolding modifier_by row_of operations
meant_by_no_test first count last named none =
    rw (letter first (codes "V") named, either_way (count == 8) (saying 8 2 names_test), none) refl

pub meant_by_order : (first count last : ℕ) (order : CarriageOrder) → is_glyph first (codes "F") ≡ true → order_of last ≡ Some order → modifier_by first count last ≡ ByOrder order
unfolding modifier_by row_of operations
meant_by_order first count last order named found =
    rw (letter first (codes "F") named, either_way (count == 2) (saying 2 0 names_order), found) refl

pub meant_by_no_order : (first count last : ℕ) → is_glyph first (codes "F") ≡ true → order_of last ≡ None → modifier_by first count last ≡ Plain
unfolding modifier_by row_of operations
meant_by_no_order first count last named none =
    rw (letter first (codes "F") named, either_way (count == 2) (saying 2 0 names_order), none) refl

pocket_named : (found : Option Pocket) → pocket_by (unwrap_or (option_map (λ pocket. ToPocket pocket) found) Plain) ≡ unwrap_or found Normal
pocket_named (Some pocket) = refl
pocket_named None = refl

pub pocket_meant : (first count last : ℕ) → is_glyph first (codes "K") ≡ true → pocket_by (modifier_by first count last) ≡ unwrap_or (pocket_of last) Normal
unfolding modifier_by row_of operations
pocket_meant first count last named =
    rw (letter first (codes "K") named, either_way (count == 2) (saying 2 0 names_pocket)) (pocket_named (pocket_of last))

-- ---- branches

pub on_condition : (d : Decoded) (next : ℕ) (w : Works) (named : Option Condition) → d.modifier ≡ unwrap_or (option_map (λ condition. OnCondition condition) named) Plain →
    (if is_met (unwrap_or named Always) w.registers w.units then branched d next (once_tested (unwrap_or named Always) w.registers)
    else record (once_tested (unwrap_or named Always) w.registers) { i = next; a = d.a }) ≡ after_branch d next w
unfolding is_met
on_condition d next w (Some condition) e = rw e refl
on_condition d next w None e = rw e refl

pub on_character : (d : Decoded) (next : ℕ) (w : Works) (code : ℕ) → d.modifier ≡ OnCharacter code →
    (if code_at w.storage d.b == code then branched d next w.registers else record w.registers { i = next; a = d.a; b = lowered d.b 1 }) ≡ after_branch d next w
on_character d next w code e = rw e refl

pub always : (d : Decoded) (next : ℕ) (w : Works) → d.modifier ≡ Plain → branched d next w.registers ≡ after_branch d next w
always d next w e = rw e refl

pub test_passed : (d : Decoded) (next : ℕ) (w : Works) (test : PositionTest) → d.modifier ≡ OnTest test → passes test w.storage d.b ≡ true → branched d next w.registers ≡ after_branch d next w
test_passed d next w test e passed = rw (e, passed) refl

pub test_failed : (d : Decoded) (next : ℕ) (w : Works) (test : PositionTest) → d.modifier ≡ OnTest test → passes test w.storage d.b ≡ false →
    record w.registers { i = next; a = d.a; b = lowered d.b 1 } ≡ after_branch d next w
test_failed d next w test e failed = rw (e, failed) refl

pub character_inside : (modifier : Modifier) (code b size : ℕ) → modifier ≡ OnCharacter code → LooksInside modifier b size → b < size
character_inside modifier code b size e h = rw e at h

pub test_inside : (modifier : Modifier) (test : PositionTest) (b size : ℕ) → modifier ≡ OnTest test → LooksInside modifier b size → b < size
test_inside modifier test b size e h = rw e at h

-- ---- orders to the carriage

pub ordered : (d : Decoded) (next : ℕ) (w : Works) (order : CarriageOrder) (printed : Printed) → d.modifier ≡ ByOrder order → carriage_moved order w.units.printer ≡ Ok printed →
    effect MoveCarriage d next w ≡ Ok (record w { registers = at next w.registers; units = record w.units { printer = printed } }, GoesOn)
unfolding effect
ordered d next w order printed e moved = rw (e, moved) refl

pub order_refused : (d : Decoded) (next : ℕ) (w : Works) (order : CarriageOrder) (check : Check) → d.modifier ≡ ByOrder order → carriage_moved order w.units.printer ≡ Err check →
    effect MoveCarriage d next w ≡ Err check
unfolding effect
order_refused d next w order check e failed = rw (e, failed) refl

pub not_ordered : (d : Decoded) (next : ℕ) (w : Works) → d.modifier ≡ Plain → effect MoveCarriage d next w ≡ Ok (record w { registers = at next w.registers }, GoesOn)
unfolding effect
not_ordered d next w e = rw e refl

-- ---- selections of a pocket

pub selected : (d : Decoded) (next : ℕ) (w : Works) (pocket : Pocket) (stacked : Stacked) → pocket ≡ pocket_by d.modifier → pocket_chosen pocket w.units.punch ≡ Ok stacked →
    effect ChoosePocket d next w ≡ Ok (record w { registers = at next w.registers; units = record w.units { punch = stacked } }, GoesOn)
unfolding effect
selected d next w pocket stacked e chosen = rw (← e, chosen) refl

pub selection_refused : (d : Decoded) (next : ℕ) (w : Works) (pocket : Pocket) (check : Check) → pocket ≡ pocket_by d.modifier → pocket_chosen pocket w.units.punch ≡ Err check →
    effect ChoosePocket d next w ≡ Err check
unfolding effect
selection_refused d next w pocket check e failed = rw (← e, failed) refl

-- ---- the operation of each character

-- it holds of each number from 1 to n
abbrev OfEach : (ℕ → Type 0) → ℕ → Type 0
OfEach P zero = Unit {0}
OfEach P (suc n) = P (suc n) × OfEach P n

of_each : (P : ℕ → Type 0) (n : ℕ) → OfEach P n → (k : ℕ) → 1 ≤ k → k ≤ n → P k
of_each P zero all k some h = absurd (omega arith)
of_each P (suc n) all k some h =
    elim (dec_lt n k) [ yes high ↦ let same : k ≡ suc n = omega arith in rw same all.0 | no low ↦ of_each P n all.1 k some (omega arith) ]

-- the characters 1 to 7 name units, by computation
pub names_units : (n : ℕ) → 1 ≤ n → n ≤ 7 → operation_by n ≡ Operate (devices n)
unfolding operation_by row_of operations glyph_of
names_units n low high =
    of_each (λ k. operation_by k ≡ Operate (devices k)) 7 (refl, (refl, (refl, (refl, (refl, (refl, (refl, tt))))))) n low high

not_low : (n : ℕ) → 8 ≤ n → ltb n 8 ≡ false
not_low n high = le-ltb n 8 high

-- whether a character names another operation
abbrev is_listed : ℕ → Bool
is_listed k = k == 49 || (k == 18 || (k == 51 || (k == 36 || (k == 35 || (k == 50 || (k == 58 || (k == 42 || (k == 11 || (k == 52 || (k == 24 || (k == 25 || (k == 53 || (k == 27 || (k == 60 || (k == 17 || (k == 21 || (k == 54 || (k == 34 || (k == 40 || (k == 56 || (k == 59 || ltb k 8)))))))))))))))))))))

not_true : (b : Bool) → not b ≡ true → b ≡ false
not_true true h = absurd (cc)
not_true false h = refl

-- a character without a row names no operation
without_row : (n : ℕ) (found : Option Row) → row_of n ≡ found → is_some found ≡ false → operation_by n ≡ NoOperation
unfolding operation_by
without_row n (Some row) e h = absurd (cc)
without_row n None e h = rw e refl

-- `N` names the operation that does nothing
by_letter : (n : ℕ) (letter : Bool) → (n == 37) ≡ letter → (letter || not (is_some (row_of n))) ≡ true → operation_by n ≡ NoOperation
unfolding operation_by row_of operations glyph_of
by_letter n true e h = ap operation_by (eqb-true n 37 e)
by_letter n false e h = without_row n (row_of n) refl (not_true _ h)

-- a character that is none of these names no operation, or the one that does nothing
pub names_none : (n : ℕ) → n < 64 → 8 ≤ n → n ≢ 49 → n ≢ 18 → n ≢ 51 → n ≢ 36 → n ≢ 35 → n ≢ 50 → n ≢ 58 → n ≢ 42 → n ≢ 11 → n ≢ 52 → n ≢ 24 → n ≢ 25 → n ≢ 53 → n ≢ 27 → n ≢ 60 → n ≢ 17 → n ≢ 21 → n ≢ 54 → n ≢ 34 → n ≢ 40 → n ≢ 56 → n ≢ 59 → operation_by n ≡ NoOperation
unfolding row_of operations glyph_of
names_none n low high h49 h18 h51 h36 h35 h50 h58 h42 h11 h52 h24 h25 h53 h27 h60 h17 h21 h54 h34 h40 h56 h59 =
    let there : (is_listed n || (n == 37 || not (is_some (row_of n)))) ≡ true = at_each (λ k. is_listed k || (k == 37 || not (is_some (row_of k)))) 64 refl n low in
    by_letter n (n == 37) refl (rw (ne_eqb n 49 h49, ne_eqb n 18 h18, ne_eqb n 51 h51, ne_eqb n 36 h36, ne_eqb n 35 h35, ne_eqb n 50 h50, ne_eqb n 58 h58, ne_eqb n 42 h42, ne_eqb n 11 h11, ne_eqb n 52 h52, ne_eqb n 24 h24, ne_eqb n 25 h25, ne_eqb n 53 h53, ne_eqb n 27 h27, ne_eqb n 60 h60, ne_eqb n 17 h17, ne_eqb n 21 h21, ne_eqb n 54 h54, ne_eqb n 34 h34, ne_eqb n 40 h40, ne_eqb n 56 h56, ne_eqb n 59 h59, not_low n high) at there)

pub names_blank : (n : ℕ) → n ≡ 0 → operation_by n ≡ NoOperation
unfolding operation_by row_of operations glyph_of
names_blank n same = ap operation_by same

-- ---- the operations of the usual kinds

pub names_add : (first : ℕ) → is_glyph first (codes "A") ≡ true → operation_by first ≡ OnFields Add
unfolding operation_by row_of operations
names_add first named = rw (letter first (codes "A") named) refl

pub names_subtract : (first : ℕ) → is_glyph first (codes "S") ≡ true → operation_by first ≡ OnFields Subtract
unfolding operation_by row_of operations
names_subtract first named = rw (letter first (codes "S") named) refl

pub names_compare : (first : ℕ) → is_glyph first (codes "C") ≡ true → operation_by first ≡ OnFields Compare
unfolding operation_by row_of operations
names_compare first named = rw (letter first (codes "C") named) refl

pub names_move : (first : ℕ) → is_glyph first (codes "M") ≡ true → operation_by first ≡ OnFields Move
unfolding operation_by row_of operations
names_move first named = rw (letter first (codes "M") named) refl

pub names_load : (first : ℕ) → is_glyph first (codes "L") ≡ true → operation_by first ≡ OnFields Load
unfolding operation_by row_of operations
names_load first named = rw (letter first (codes "L") named) refl

pub names_zero_add : (first : ℕ) → is_glyph first (codes "?") ≡ true → operation_by first ≡ OnFields ZeroAdd
unfolding operation_by row_of operations
names_zero_add first named = rw (letter first (codes "?") named) refl

pub names_zero_subtract : (first : ℕ) → is_glyph first (codes "!") ≡ true → operation_by first ≡ OnFields ZeroSubtract
unfolding operation_by row_of operations
names_zero_subtract first named = rw (letter first (codes "!") named) refl

pub names_modify_address : (first : ℕ) → is_glyph first (codes "#") ≡ true → operation_by first ≡ OnFields ModifyAddress
unfolding operation_by row_of operations
names_modify_address first named = rw (letter first (codes "#") named) refl

pub names_suppress : (first : ℕ) → is_glyph first (codes "Z") ≡ true → operation_by first ≡ OnFields Suppress
unfolding operation_by row_of operations
names_suppress first named = rw (letter first (codes "Z") named) refl

pub names_edit : (first : ℕ) → is_glyph first (codes "E") ≡ true → operation_by first ≡ OnFields Edit
unfolding operation_by row_of operations
names_edit first named = rw (letter first (codes "E") named) refl

pub names_branch : (first : ℕ) → is_glyph first (codes "B") ≡ true → operation_by first ≡ Branch
unfolding operation_by row_of operations
names_branch first named = rw (letter first (codes "B") named) refl

pub names_branch_on_test : (first : ℕ) → is_glyph first (codes "V") ≡ true → operation_by first ≡ BranchOnMarkOrZone
unfolding operation_by row_of operations
names_branch_on_test first named = rw (letter first (codes "V") named) refl
