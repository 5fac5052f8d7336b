-- how an instruction is decoded from its characters
use Rattle.std.proofs.Common.{◌≡◌, ℕ, ◌-◌, ◌<◌, true, false, List, [], ◌∷◌, Option, Some, None, Result, Ok, Err, refl, sym, ◌∙◌, ap, subst, unwrap_or, slice_index, is_some}
use Rattle.std.specs.Option.{option_map, option_and_then}
use Rattle.core_store.specs.Storage.{Storage}
use Rattle.units.specs.Carriages.{order_of}
use Rattle.units.specs.Pockets.{pocket_of}
use Rattle.units.specs.declared.carriage.CarriageOrder.{CarriageOrder}
use Rattle.units.specs.declared.pockets.Pocket.{Pocket}
use Rattle.machine.specs.declared.branches.Condition.{Condition}
use Rattle.machine.specs.declared.branches.PositionTest.{PositionTest}
use Rattle.core_store.specs.Checked.{find_or, and_then}
use Rattle.core_store.specs.declared.checks.Check.{Check}
use Rattle.core_store.specs.declared.checks.Check.TheVariants.{Instruction}
use Rattle.core_store.specs.declared.registers.Registers.{Registers}
use Rattle.machine.specs.declared.named.Modifier.{Modifier}
use Rattle.machine.specs.declared.named.Modifier.TheVariants.{Plain, OnCondition, OnCharacter, OnTest, ByOrder, ToPocket}
use Rattle.machine.specs.Branches.{condition_of, test_of}
use Rattle.machine.specs.Instructions.{operation_by, modifier_by, addresses_by, is_form, is_last, form_or_first}
use Rattle.machine.specs.Operations.{Last, says_nothing, names_condition, is_compared, names_test, names_order, names_pocket, Form, Row, row_of, form_among, meant, modifier_at}
use Rattle.machine.specs.Word.{decoded_of, operands_of, LooksInside}
use Rattle.machine.proofs.FormTables.{IsFormed, formed, form_is, looks, looks_at}

-- ---- what is named

module _ (first count : ℕ) (f : IsFormed first count) where
  operation_is : operation_by first ≡ f.row.operation
  unfolding operation_by
  operation_is = rw f.named refl

  addresses_is : addresses_by first count ≡ f.form.addresses
  unfolding addresses_by
  addresses_is = rw (form_is first count f) refl

  modifier_is : (last : ℕ) → modifier_at first count last ≡ meant f.form.last last
  modifier_is last = rw (form_is first count f) refl

  modifier_taken : (last : ℕ) → modifier_by first count last ≡ unwrap_or (meant f.form.last last) Plain
  unfolding modifier_by
  modifier_taken last = rw f.named (rw (first_or f.row.forms f.formed) refl)
    where
      first_or : (forms : List Form) → form_among forms count ≡ Some f.form → form_or_first forms count ≡ Some f.form
      first_or [] h = absurd (cc)
      first_or (form ∷ forms) h = rw h refl

pub operation_named : (first count : ℕ) → is_form first count ≡ true → option_map (λ row. row.operation) (row_of first) ≡ Some (operation_by first)
operation_named first count h =
    let f = formed first count h in
    ap (option_map (λ row. row.operation)) f.named ∙ ap Some (sym (operation_is first count f))

named_last : (found : Option Modifier) → is_some found ≡ true → found ≡ Some (unwrap_or found Plain)
named_last (Some modifier) h = refl
named_last None h = absurd (cc)

pub last_named : (first count last : ℕ) → is_form first count ≡ true → is_last first count last ≡ true → modifier_at first count last ≡ Some (modifier_by first count last)
unfolding is_last
last_named first count last form h =
    let f = formed first count form in
    let means = modifier_is first count f last in
    named_last (modifier_at first count last) h ∙ ap (λ found. Some (unwrap_or found Plain)) means ∙ ap Some (sym (modifier_taken first count f last))

unnamed_last : (found : Option Modifier) → is_some found ≡ false → found ≡ None
unnamed_last (Some modifier) h = absurd (cc)
unnamed_last None h = refl

-- ---- the order of the checks

no_form : {T : Type 0} (found : Option Form) (rest : Form → Result T Check) → is_some found ≡ false → find_or found Instruction rest ≡ Err Instruction
no_form (Some form) rest h = absurd (cc)
no_form None rest h = refl

no_row : {T : Type 0} (count : ℕ) (found : Option Row) (rest : Row → Form → Result T Check) → is_some (option_and_then (λ row. form_among row.forms count) found) ≡ false →
    find_or found Instruction (λ row. find_or (form_among row.forms count) Instruction (rest row)) ≡ Err Instruction
no_row count (Some row) rest h = no_form (form_among row.forms count) (rest row) h
no_row count None rest h = refl

module _ (s : Storage) (count : ℕ) (r : Registers) (codes : List ℕ) where
  pub refused_form : is_form (slice_index codes 0) count ≡ false → decoded_of s count r codes ≡ Err Instruction
  unfolding is_form decoded_of
  refused_form h = no_row count (row_of (slice_index codes 0)) _ h

  pub refused_last : is_form (slice_index codes 0) count ≡ true → is_last (slice_index codes 0) count (slice_index codes (count - 1)) ≡ false → decoded_of s count r codes ≡ Err Instruction
  unfolding is_last decoded_of
  refused_last form h =
      let f = formed (slice_index codes 0) count form in
      let none = sym (modifier_is (slice_index codes 0) count f (slice_index codes (count - 1))) ∙ unnamed_last (modifier_at (slice_index codes 0) count (slice_index codes (count - 1))) h in
      rw (f.named, f.formed, none) refl

  -- what is left once the operation, the form and the last character are known
  pub decoded_is : is_form (slice_index codes 0) count ≡ true → is_last (slice_index codes 0) count (slice_index codes (count - 1)) ≡ true →
      decoded_of s count r codes ≡ and_then (operands_of s (addresses_by (slice_index codes 0) count) r codes) (λ operands. Ok (record {
        operation = operation_by (slice_index codes 0);
        length = count;
        a = operands.0;
        b = operands.1;
        modifier = modifier_by (slice_index codes 0) count (slice_index codes (count - 1));
      }))
  unfolding decoded_of
  decoded_is form last =
      let first = slice_index codes 0 in
      let f = formed first count form in
      let means = sym (modifier_is first count f (slice_index codes (count - 1))) ∙ last_named first count (slice_index codes (count - 1)) form last in
      rw (operation_is first count f, addresses_is first count f, f.named, f.formed, means) refl

-- the same by the first and the last character as they were read
module _ (s : Storage) (count : ℕ) (r : Registers) (codes : List ℕ) (first last : ℕ) (is_first : first ≡ slice_index codes 0) (is_end : last ≡ slice_index codes (count - 1)) where
  pub form_refused : is_form first count ≡ false → decoded_of s count r codes ≡ Err Instruction
  form_refused h = refused_form s count r codes (rw is_first at h)

  pub last_refused : is_form first count ≡ true → is_last first count last ≡ false → decoded_of s count r codes ≡ Err Instruction
  last_refused form h = refused_last s count r codes (rw is_first at form) (rw (is_first, is_end) at h)

  pub operands_refused : (addresses : ℕ) (check : Check) → is_form first count ≡ true → is_last first count last ≡ true → addresses ≡ addresses_by first count →
      Err check ≡ operands_of s addresses r codes → decoded_of s count r codes ≡ Err check
  operands_refused addresses check form end same h =
      decoded_is s count r codes (rw is_first at form) (rw (is_first, is_end) at end) ∙ rw (sym (rw (same, is_first) at h)) refl

  pub whole_decoded : (addresses : ℕ) (operands : ℕ × ℕ) → is_form first count ≡ true → is_last first count last ≡ true → addresses ≡ addresses_by first count →
      Ok operands ≡ operands_of s addresses r codes →
      decoded_of s count r codes ≡ Ok (record { operation = operation_by first; length = count; a = operands.0; b = operands.1; modifier = modifier_by first count last })
  whole_decoded addresses operands form end same h =
      rw (is_first, is_end) (decoded_is s count r codes (rw is_first at form) (rw (is_first, is_end) at end) ∙ rw (sym (rw (same, is_first) at h)) refl)

-- ---- a position that is tested is that of a second address

-- a modifier that tests the position B requires an instruction with two addresses
abbrev WantsTwo : Modifier → ℕ → Type 0
WantsTwo Plain count = Unit {0}
WantsTwo (OnCondition condition) count = Unit {0}
WantsTwo (OnCharacter code) count = 1 < count
WantsTwo (OnTest test) count = 1 < count
WantsTwo (ByOrder order) count = Unit {0}
WantsTwo (ToPocket pocket) count = Unit {0}

condition_two : (found : Option Condition) (count : ℕ) → WantsTwo (unwrap_or (option_map (λ condition. OnCondition condition) found) Plain) count
condition_two (Some condition) count = tt
condition_two None count = tt

test_two : (found : Option PositionTest) (count : ℕ) → 1 < count → WantsTwo (unwrap_or (option_map (λ test. OnTest test) found) Plain) count
test_two (Some test) count h = h
test_two None count h = tt

order_two : (found : Option CarriageOrder) (count : ℕ) → WantsTwo (unwrap_or (option_map (λ order. ByOrder order) found) Plain) count
order_two (Some order) count = tt
order_two None count = tt

pocket_two : (found : Option Pocket) (count : ℕ) → WantsTwo (unwrap_or (option_map (λ pocket. ToPocket pocket) found) Plain) count
pocket_two (Some pocket) count = tt
pocket_two None count = tt

two_of : (says : Last) (last count : ℕ) → (looks says ≡ true → 1 < count) → WantsTwo (unwrap_or (meant says last) Plain) count
two_of says_nothing last count h = tt
two_of names_condition last count h = condition_two (condition_of last) count
two_of is_compared last count h = h refl
two_of names_test last count h = test_two (test_of last) count (h refl)
two_of names_order last count h = order_two (order_of last) count
two_of names_pocket last count h = pocket_two (pocket_of last) count

inside : (modifier : Modifier) (count b size : ℕ) → WantsTwo modifier count → (1 < count → b < size) → LooksInside modifier b size
inside Plain count b size two h = tt
inside (OnCondition condition) count b size two h = tt
inside (OnCharacter code) count b size two h = h two
inside (OnTest test) count b size two h = h two
inside (ByOrder order) count b size two h = tt
inside (ToPocket pocket) count b size two h = tt

pub looks_inside : (first count last b size : ℕ) → is_form first count ≡ true → (1 < addresses_by first count → b < size) → LooksInside (modifier_by first count last) b size
looks_inside first count last b size form h =
    let f = formed first count form in
    rw (modifier_taken first count f last)
    (inside (unwrap_or (meant f.form.last last) Plain) f.form.addresses b size (two_of f.form.last last f.form.addresses (looks_at first count f))
    (subst (λ n. 1 < n → b < size) (addresses_is first count f) h))
