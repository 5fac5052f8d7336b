-- an instruction decoded by its shape
use Rattle.std.proofs.Common.{◌≡◌, ℕ, ◌+◌, ◌-◌, ◌%◌, ◌<◌, ◌≤◌, ◌==◌, Bool, true, false, List, Option, Some, None, Result, Ok, Err, refl, sym, ap, ◌∙◌, arith, if◌then◌else◌, length, nat_lt, slice_index}
use Rattle.std.specs.Option.{option_map, option_and_then}
use Rattle.std.proofs.lemmas.Bool.{lt-ltb, ne_eqb}
use Rattle.std.proofs.lemmas.Option.{same_Some}
use Rattle.core_store.specs.Storage.{Storage, codes_from}
use Rattle.core_store.specs.Checked.{require, find_or, and_then}
use Rattle.core_store.specs.declared.checks.Check.{Check}
use Rattle.core_store.specs.declared.checks.Check.TheVariants.{Address, Instruction}
use Rattle.core_store.specs.declared.registers.Registers.{Registers}
use Rattle.addresses.specs.Addresses.{Tagged}
use Rattle.addresses.specs.Effective.{base_ending, operand, position_of, units_position, with_index}
use Rattle.addresses.specs.declared.tagged.IndexLocation.{IndexLocation}
use Rattle.machine.specs.declared.shapes.Addresses.{Addresses}
use Rattle.machine.specs.declared.shapes.Addresses.TheVariants.{Absent, One, Two}
use Rattle.machine.specs.declared.shapes.Shape.{Shape}
use Rattle.machine.specs.Effect.{Works, attempt, effect, next_of}
use Rattle.machine.specs.Instructions.{addresses_by, decoded_by, is_form, is_last, modifier_by, operation_by}
use Rattle.machine.specs.Kinds.{shape_effect}
use Rattle.machine.specs.Shapes.{addresses_of, has_two, instruction_at, operands_at, shape_at, shape_of, tagged_at}
use Rattle.machine.specs.Word.{LooksInside, decoded_of, operand_at, operands_of, word, word_length}
use Rattle.machine.proofs.DecodeLemmas.{form_refused, last_refused, looks_inside, operands_refused, whole_decoded}
use Rattle.machine.proofs.KeptShapes.{length_most}
use Rattle.machine.proofs.Steps.{attempt_check, attempt_is}

-- ---- its addresses

-- a check for an address, whatever position was found before
abbrev refused : ℕ → Result (ℕ × ℕ) Check
refused first = Err Address

by_place : (inside : Bool) (p : ℕ) → and_then (require inside Address (Ok p)) refused ≡ Err Address
by_place true p = refl
by_place false p = refl

by_index : (s : Storage) (n : ℕ) (known : Bool) (found : Option ℕ) →
    and_then (and_then (require known Address (find_or found Address (λ index. Ok ((n + index) % 16000)))) (λ p. require (nat_lt p (length s)) Address (Ok p))) refused ≡ Err Address
by_index s n false found = refl
by_index s n true None = refl
by_index s n true (Some index) = by_place (nat_lt ((n + index) % 16000) (length s)) ((n + index) % 16000)

-- a position that cannot be had is refused for its address alone
only_address : (s : Storage) (n : ℕ) (index : Option IndexLocation) → and_then (and_then (with_index s n index) (λ p. require (nat_lt p (length s)) Address (Ok p))) refused ≡ Err Address
unfolding with_index
only_address s n None = by_place (nat_lt n (length s)) n
only_address s n (Some location) = by_index s n (nat_lt (units_position location) (length s)) (base_ending s (units_position location))

module _ (s : Storage) (r : Registers) (codes : List ℕ) where
  operand_by : (place : ℕ) (found : Option Tagged) → tagged_at codes place ≡ found → operand_at s codes place ≡ find_or found Address (λ address. position_of s address)
  unfolding operand
  operand_by place found e = ap (λ t. find_or t Address (λ address. position_of s address)) e

  operands_by : (none one : Bool) (first second : Option Tagged) → tagged_at codes 1 ≡ first → tagged_at codes 4 ≡ second →
      (if none then Ok (r.a, r.b) else and_then (operand_at s codes 1) (λ a. if one then Ok (a, a) else and_then (operand_at s codes 4) (λ b. Ok (a, b))))
      ≡ find_or (if none then Some Absent else option_and_then (λ address. if one then Some (One address) else option_map (λ other. Two address other) (tagged_at codes 4)) (tagged_at codes 1))
      Address (operands_at s r)
  unfolding operands_at
  operands_by true one first second e f = refl
  operands_by false one None second e f = rw (operand_by 1 None e, e) refl
  operands_by false true (Some address) second e f = rw (operand_by 1 (Some address) e, e) refl
  operands_by false false (Some address) None e f = rw (operand_by 1 (Some address) e, operand_by 4 None f, e, f) (only_address s address.base address.index)
  operands_by false false (Some address) (Some other) e f = rw (operand_by 1 (Some address) e, operand_by 4 (Some other) f, e, f) refl

  -- the operands are those of the addresses that are read
  operands_are : (count : ℕ) → operands_of s count r codes ≡ find_or (addresses_of count codes) Address (operands_at s r)
  unfolding operands_of addresses_of
  operands_are count = operands_by (count == 0) (count == 1) (tagged_at codes 1) (tagged_at codes 4) refl refl

-- ---- its shape

ok_same : (a b : Shape) → ◌≡◌ {A = Result Shape Check} (Ok a) (Ok b) → a ≡ b
ok_same a b e = cc

err_same : (a b : Check) → ◌≡◌ {A = Result Shape Check} (Err a) (Err b) → a ≡ b
err_same a b e = cc

module _ (count : ℕ) (codes : List ℕ) where
  pub record IsShaped (shape : Shape) : Type 0 where
    pub form : is_form shape.first count ≡ true
    pub allowed : is_last shape.first count shape.last ≡ true
    pub read : addresses_of (addresses_by shape.first count) codes ≡ Some shape.addresses
    pub begins : shape.first ≡ slice_index codes 0
    pub ends : shape.last ≡ slice_index codes (count - 1)
    pub size : shape.length ≡ count

  abbrev tested : Bool → Bool → Option Addresses → Result Shape Check
  tested form allowed found =
      require form Instruction (require allowed Instruction (find_or found Address (λ addresses.
      Ok (record { first = slice_index codes 0; last = slice_index codes (count - 1); length = count; addresses = addresses }))))

  shaped_by : (form allowed : Bool) (found : Option Addresses) (shape : Shape) → is_form (slice_index codes 0) count ≡ form → is_last (slice_index codes 0) count (slice_index codes (count - 1)) ≡ allowed →
      addresses_of (addresses_by (slice_index codes 0) count) codes ≡ found → tested form allowed found ≡ Ok shape → IsShaped shape
  shaped_by true true (Some addresses) shape e f g h =
      let same : record { first = slice_index codes 0; last = slice_index codes (count - 1); length = count; addresses = addresses } ≡ shape = ok_same _ shape h in
      rw (← same) (record { form = e; allowed = f; read = g; begins = refl; ends = refl; size = refl })
  shaped_by true true None shape e f g h = absurd (cc)
  shaped_by true false found shape e f g h = absurd (cc)
  shaped_by false allowed found shape e f g h = absurd (cc)

  pub shaped : (shape : Shape) → shape_of count codes ≡ Ok shape → IsShaped shape
  unfolding shape_of
  shaped shape h =
      shaped_by (is_form (slice_index codes 0) count) (is_last (slice_index codes 0) count (slice_index codes (count - 1))) (addresses_of (addresses_by (slice_index codes 0) count) codes) shape refl refl refl h

  module _ (s : Storage) (r : Registers) where
    -- an instruction whose shape and operands are known
    pub decoded_shaped : (shape : Shape) (a b : ℕ) → shape_of count codes ≡ Ok shape → operands_at s r shape.addresses ≡ Ok (a, b) →
        decoded_of s count r codes ≡ Ok (decoded_by (instruction_at shape a b))
    decoded_shaped shape a b h found =
        let is = shaped shape h in
        let operands : operands_of s (addresses_by shape.first count) r codes ≡ Ok (a, b) =
        operands_are s r codes (addresses_by shape.first count) ∙ ap (λ t. find_or t Address (operands_at s r)) is.read ∙ found in
        whole_decoded s count r codes shape.first shape.last is.begins is.ends (addresses_by shape.first count) (a, b) is.form is.allowed refl (sym operands)
        ∙ ap (λ n. Ok (record { operation = operation_by shape.first; length = n; a = a; b = b; modifier = modifier_by shape.first n shape.last })) (sym is.size)

    -- one whose operands are refused
    pub operands_unread : (shape : Shape) (check : Check) → shape_of count codes ≡ Ok shape → operands_at s r shape.addresses ≡ Err check → decoded_of s count r codes ≡ Err check
    operands_unread shape check h found =
        let is = shaped shape h in
        let operands : operands_of s (addresses_by shape.first count) r codes ≡ Err check =
        operands_are s r codes (addresses_by shape.first count) ∙ ap (λ t. find_or t Address (operands_at s r)) is.read ∙ found in
        operands_refused s count r codes shape.first shape.last is.begins is.ends (addresses_by shape.first count) check is.form is.allowed refl (sym operands)

    unread_by : (form allowed : Bool) (found : Option Addresses) (check : Check) → is_form (slice_index codes 0) count ≡ form → is_last (slice_index codes 0) count (slice_index codes (count - 1)) ≡ allowed →
        addresses_of (addresses_by (slice_index codes 0) count) codes ≡ found → tested form allowed found ≡ Err check → decoded_of s count r codes ≡ Err check
    unread_by false allowed found check e f g h = form_refused s count r codes (slice_index codes 0) (slice_index codes (count - 1)) refl refl e ∙ ap Err (err_same Instruction check h)
    unread_by true false found check e f g h = last_refused s count r codes (slice_index codes 0) (slice_index codes (count - 1)) refl refl e f ∙ ap Err (err_same Instruction check h)
    unread_by true true None check e f g h =
        let operands : operands_of s (addresses_by (slice_index codes 0) count) r codes ≡ Err Address =
        operands_are s r codes (addresses_by (slice_index codes 0) count) ∙ ap (λ t. find_or t Address (operands_at s r)) g in
        operands_refused s count r codes (slice_index codes 0) (slice_index codes (count - 1)) refl refl (addresses_by (slice_index codes 0) count) Address e f refl (sym operands) ∙ ap Err (err_same Address check h)
    unread_by true true (Some addresses) check e f g h = absurd (cc)

    -- one without a shape
    pub shape_unread : (check : Check) → shape_of count codes ≡ Err check → decoded_of s count r codes ≡ Err check
    unfolding shape_of
    shape_unread check h =
        unread_by (is_form (slice_index codes 0) count) (is_last (slice_index codes 0) count (slice_index codes (count - 1))) (addresses_of (addresses_by (slice_index codes 0) count) codes) check refl refl refl h

-- the same by the first and the last character as they were read
module _ (count : ℕ) (codes : List ℕ) (first last : ℕ) (is_first : first ≡ slice_index codes 0) (is_end : last ≡ slice_index codes (count - 1)) where
  pub unformed : is_form first count ≡ false → Err Instruction ≡ shape_of count codes
  unfolding shape_of
  unformed h = let form : is_form (slice_index codes 0) count ≡ false = rw is_first at h in rw form refl

  pub unallowed : is_form first count ≡ true → is_last first count last ≡ false → Err Instruction ≡ shape_of count codes
  unfolding shape_of
  unallowed e h =
      let form : is_form (slice_index codes 0) count ≡ true = rw is_first at e in
      let allowed : is_last (slice_index codes 0) count (slice_index codes (count - 1)) ≡ false = rw (is_first, is_end) at h in
      rw (form, allowed) refl

  module _ (n : ℕ) (formed : is_form first count ≡ true) (allows : is_last first count last ≡ true) (many : n ≡ addresses_by first count) where
    pub unaddressed : None ≡ addresses_of n codes → Err Address ≡ shape_of count codes
    unfolding shape_of
    unaddressed h =
        let form : is_form (slice_index codes 0) count ≡ true = rw is_first at formed in
        let allowed : is_last (slice_index codes 0) count (slice_index codes (count - 1)) ≡ true = rw (is_first, is_end) at allows in
        let read : addresses_of (addresses_by (slice_index codes 0) count) codes ≡ None = sym (rw (many, is_first) at h) in
        rw (form, allowed, read) refl

    pub whole : (addresses : Addresses) → Some addresses ≡ addresses_of n codes → Ok (record { first = first; last = last; length = count; addresses = addresses }) ≡ shape_of count codes
    unfolding shape_of
    whole addresses h =
        let form : is_form (slice_index codes 0) count ≡ true = rw is_first at formed in
        let allowed : is_last (slice_index codes 0) count (slice_index codes (count - 1)) ≡ true = rw (is_first, is_end) at allows in
        let read : addresses_of (addresses_by (slice_index codes 0) count) codes ≡ Some addresses = sym (rw (many, is_first) at h) in
        rw (form, allowed, read, is_first, is_end) refl

-- ---- the instruction at a position

-- it has so many characters, and they have the shape
pub record HasShape (s : Storage) (i : ℕ) (shape : Shape) : Type 0 where
  pub count : ℕ
  pub found : word_length s i ≡ Some count
  pub read : shape_of count (codes_from s i count) ≡ Ok shape

module _ (s : Storage) (i : ℕ) where
  shape_found : (found : Option ℕ) (shape : Shape) → word_length s i ≡ found → find_or found Instruction (λ count. shape_of count (codes_from s i count)) ≡ Ok shape → HasShape s i shape
  shape_found None shape e h = absurd (cc)
  shape_found (Some count) shape e h = record { count = count; found = e; read = h }

  pub has_shape : (shape : Shape) → shape_at s i ≡ Ok shape → HasShape s i shape
  unfolding shape_at
  has_shape shape h = shape_found (word_length s i) shape refl h

  pub shape_none : word_length s i ≡ None → shape_at s i ≡ Err Instruction
  unfolding shape_at
  shape_none e = ap (λ found. find_or found Instruction (λ count. shape_of count (codes_from s i count))) e

  pub shape_some : (count : ℕ) → word_length s i ≡ Some count → shape_at s i ≡ shape_of count (codes_from s i count)
  unfolding shape_at
  shape_some count e = ap (λ found. find_or found Instruction (λ count. shape_of count (codes_from s i count))) e

  -- it ends within the storage
  pub shape_ends : (shape : Shape) → shape_at s i ≡ Ok shape → i + shape.length ≤ length s
  shape_ends shape h =
      let has = has_shape shape h in
      let is = shaped has.count (codes_from s i has.count) shape has.read in
      omega (arith, (length_most s i has.count has.found).1, is.size)

  -- and has at most eight characters
  pub shape_short : (shape : Shape) → shape_at s i ≡ Ok shape → shape.length ≤ 8
  shape_short shape h =
      let has = has_shape shape h in
      let is = shaped has.count (codes_from s i has.count) shape has.read in
      omega (arith, (length_most s i has.count has.found).0, is.size)

  -- and tests the position of its second address only if it has two
  pub shape_looks_inside : (shape : Shape) (a b size : ℕ) → shape_at s i ≡ Ok shape → (has_two shape.addresses ≡ true → b < size) →
      LooksInside (decoded_by (instruction_at shape a b)).modifier b size
  unfolding addresses_of
  shape_looks_inside shape a b size h inside =
      let has = has_shape shape h in
      let is = shaped has.count (codes_from s i has.count) shape has.read in
      rw is.size (looks_inside shape.first has.count shape.last b size is.form
      (λ more. inside (two_read (addresses_by shape.first has.count) (codes_from s i has.count) shape.addresses more is.read)))
    where
      two_found : (none one : Bool) (first second : Option Tagged) (addresses : Addresses) → none ≡ false → one ≡ false →
          (if none then Some Absent else option_and_then (λ address. if one then Some (One address) else option_map (λ other. Two address other) second) first) ≡ Some addresses →
          has_two addresses ≡ true
      two_found true one first second addresses e f h = absurd (cc)
      two_found false true first second addresses e f h = absurd (cc)
      two_found false false None second addresses e f h = absurd (cc)
      two_found false false (Some address) None addresses e f h = absurd (cc)
      two_found false false (Some address) (Some other) addresses e f h = ap has_two (sym (same_Some (Two address other) addresses h))

      two_read : (count : ℕ) (codes : List ℕ) (addresses : Addresses) → 1 < count → addresses_of count codes ≡ Some addresses → has_two addresses ≡ true
      two_read count codes addresses more h =
          two_found (count == 0) (count == 1) (tagged_at codes 1) (tagged_at codes 4) addresses (ne_eqb count 0 (omega arith)) (ne_eqb count 1 (omega arith)) h

-- ---- attempts

-- the position after an instruction before the last of storage
pub next_within : (i count : ℕ) → i + count < 16000 → next_of i count ≡ i + count
next_within i count within = omega arith

module _ (w : Works) (inside : w.registers.i < length w.storage) where
  pub attempt_shaped : (shape : Shape) (a b : ℕ) → shape_at w.storage w.registers.i ≡ Ok shape → operands_at w.storage w.registers shape.addresses ≡ Ok (a, b) →
      attempt w ≡ effect (decoded_by (instruction_at shape a b)).operation (decoded_by (instruction_at shape a b)) (next_of w.registers.i shape.length) w
  attempt_shaped shape a b h found =
      let s = w.storage in
      let i = w.registers.i in
      let d = decoded_by (instruction_at shape a b) in
      let has = has_shape s i shape h in
      let is = shaped has.count (codes_from s i has.count) shape has.read in
      attempt_is w has.count d inside (sym has.found) (length_most s i has.count has.found).1
      (sym (decoded_shaped has.count (codes_from s i has.count) s w.registers shape a b has.read found))
      ∙ ap (λ n. effect d.operation d (next_of i n) w) (sym is.size)

  pub attempt_refused : (shape : Shape) (check : Check) → shape_at w.storage w.registers.i ≡ Ok shape → operands_at w.storage w.registers shape.addresses ≡ Err check → attempt w ≡ Err check
  attempt_refused shape check h found =
      let s = w.storage in
      let i = w.registers.i in
      let has = has_shape s i shape h in
      attempt_check w has.count check inside (sym has.found) (length_most s i has.count has.found).1
      (sym (operands_unread has.count (codes_from s i has.count) s w.registers shape check has.read found))

  placed_by : (shape : Shape) (found : Result (ℕ × ℕ) Check) → shape_at w.storage w.registers.i ≡ Ok shape → operands_at w.storage w.registers shape.addresses ≡ found →
      attempt w ≡ and_then found (λ operands. effect (operation_by shape.first) (decoded_by (instruction_at shape operands.0 operands.1)) (next_of w.registers.i shape.length) w)
  placed_by shape (Ok (a, b)) h found = attempt_shaped shape a b h found
  placed_by shape (Err check) h found = attempt_refused shape check h found

  -- what its shape leaves at the positions at which it works just then
  pub attempt_by_shape : (shape : Shape) → shape_at w.storage w.registers.i ≡ Ok shape → attempt w ≡ shape_effect shape (next_of w.registers.i shape.length) w
  unfolding shape_effect
  attempt_by_shape shape h = placed_by shape (operands_at w.storage w.registers shape.addresses) h refl

  attempt_wordless : word_length w.storage w.registers.i ≡ None → attempt w ≡ Err Instruction
  unfolding attempt word
  attempt_wordless none = rw (lt-ltb w.registers.i (length w.storage) inside, none) refl

  unread_found : (found : Option ℕ) (check : Check) → word_length w.storage w.registers.i ≡ found →
      find_or found Instruction (λ count. shape_of count (codes_from w.storage w.registers.i count)) ≡ Err check → attempt w ≡ Err check
  unread_found None check e h = attempt_wordless e ∙ ap Err (err_same Instruction check h)
  unread_found (Some count) check e h =
      let s = w.storage in
      let i = w.registers.i in
      attempt_check w count check inside (sym e) (length_most s i count e).1 (sym (shape_unread count (codes_from s i count) s w.registers check h))

  pub attempt_unread : (check : Check) → shape_at w.storage w.registers.i ≡ Err check → attempt w ≡ Err check
  unfolding shape_at
  attempt_unread check h = unread_found (word_length w.storage w.registers.i) check refl h
