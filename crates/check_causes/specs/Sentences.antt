-- what the words of a cause say
use Rattle.std.specs.Prelude.{ℕ, ◌≡◌, ◌⊎◌, ◌+◌, ◌-◌, ◌<◌, ◌≤◌, max, List, Contains, length, true, false, Some, None, Ok, slice_index}
use Rattle.bcd.specs.Table.{glyph_of, digit_of}
use Rattle.core_store.specs.Storage.{Storage, code_at, is_marked, codes_ending}
use Rattle.addresses.specs.Addresses.{Tagged, tagged}
use Rattle.addresses.specs.Effective.{units_position, effective}
use Rattle.addresses.specs.declared.tagged.IndexLocation.{IndexLocation}
use Rattle.moves.specs.Edited.{places}
use Rattle.units.specs.declared.devices.Devices.{Devices}
use Rattle.units.specs.declared.profiles.Profile.TheVariants as profile
use Rattle.units.specs.Carriages.{last_form}
use Rattle.units.specs.Units.{most_lines, most_cards, reads, prints, punches}
use Rattle.machine.specs.declared.named.Decoded.{Decoded}
use Rattle.machine.specs.declared.named.Operation.{Operation}
use Rattle.machine.specs.declared.named.Operation.TheVariants.{OnFields, ClearStorage, Branch, BranchOnMarkOrZone, Operate, MoveCarriage, ChoosePocket, StoreA, StoreB, Halt, NoOperation}
use Rattle.machine.specs.declared.operations.FieldOperation.TheVariants.{Add, Subtract, ZeroAdd, ZeroSubtract, Compare, ModifyAddress, Move, Load, Suppress, Edit}
use Rattle.machine.specs.Effect.{Works}
use Rattle.machine.specs.Instructions.{addresses_by}
use Rattle.machine.specs.Glyphs.{is_glyph}
use Rattle.machine.specs.Operations.{Row, Form, operations, meant}
use Rattle.machine.specs.Word.{word, decoded}
use Rattle.check_causes.specs.declared.causes.Cause.{Cause}
use Rattle.check_causes.specs.declared.causes.Cause.TheVariants.{RegisterPast, NoMark, NoEnd, NoInstruction, NoSelection, NoAddress, AddressPast, NoIndex, FieldPast, NoFieldMark, TooFew, MarkWrittenOver, NoDigit, NoNumber, Overlap, NoCard, PunchFull, PrinterFull}

-- ---- the instruction at register I

-- an instruction of these characters stands at register I
abbrev pub StandsNext : Works → List ℕ → Type 0
StandsNext w codes = word w.storage w.registers.i ≡ Some codes

-- the instruction at register I means this
pub record IsNext (w : Works) (d : Decoded) : Type 0 where
  pub codes : List ℕ
  pub stands : StandsNext w codes
  pub means : decoded w.storage w.registers codes ≡ Ok d

-- this holds of the instruction at register I
abbrev pub OfNext : Works → (Decoded → Type 0) → Type 0
OfNext w P = (d : Decoded) × IsNext w d × P d

-- no operation of the table has the first of these characters and a form of so many that allows the
-- last of them
abbrev pub HasNoForm : List ℕ → Type 0
HasNoForm codes =
    (row : Row) → Contains operations row → is_glyph (slice_index codes 0) row.character ≡ true →
    (form : Form) → Contains row.forms form → form.length ≡ length codes →
    meant form.last (slice_index codes (length codes - 1)) ≡ None

-- an instruction of these characters has an address from this place on: its first address is read
-- from the second character on, its second from the fifth on
abbrev pub HasAddressAt : List ℕ → ℕ → Type 0
HasAddressAt codes place =
    ((place ≡ 1) × (1 ≤ addresses_by (slice_index codes 0) (length codes)))
    ⊎ ((place ≡ 4) × (2 ≤ addresses_by (slice_index codes 0) (length codes)))

-- the instruction at register I has these three characters as an address
pub record HasAddress (w : Works) (first second third : ℕ) : Type 0 where
  pub codes : List ℕ
  pub stands : StandsNext w codes
  pub place : ℕ
  pub at : HasAddressAt codes place
  pub first_is : slice_index codes place ≡ first
  pub second_is : slice_index codes (place + 1) ≡ second
  pub third_is : slice_index codes (place + 2) ≡ third

-- one of three characters has no digit
abbrev pub OneHasNoDigit : ℕ → ℕ → ℕ → Type 0
OneHasNoDigit first second third =
    (digit_of first ≡ None) ⊎ (digit_of second ≡ None) ⊎ (digit_of third ≡ None)

-- one of the three characters that end at a position of storage has no digit
abbrev pub EndsNoNumber : Storage → ℕ → Type 0
EndsNoNumber s p =
    (2 ≤ p) × (p < length s) × OneHasNoDigit (code_at s (p - 2)) (code_at s (p - 1)) (code_at s p)

-- the instruction at register I has an address that can be read
abbrev pub Names : Works → Tagged → Type 0
Names w address = (first second third : ℕ) × HasAddress w first second third
    × (tagged first second third ≡ Some address)

-- an address names this position, by itself or with the number of its index location; or that
-- location itself ends there
abbrev pub LeadsTo : Storage → Tagged → ℕ → Type 0
LeadsTo s address p = (effective s address ≡ Ok p)
    ⊎ ((location : IndexLocation) × (address.index ≡ Some location) × (units_position location ≡ p))

-- ---- fields

-- an operation at these two addresses has a field or a character at this position
abbrev pub HasFieldAt : Operation → ℕ → ℕ → ℕ → Type 0
HasFieldAt (OnFields operation) a b p = (p ≡ a) ⊎ (p ≡ b)
HasFieldAt ClearStorage a b p = p ≡ b
HasFieldAt StoreA a b p = p ≡ a
HasFieldAt StoreB a b p = p ≡ a
HasFieldAt Branch a b p = ⊥
HasFieldAt BranchOnMarkOrZone a b p = ⊥
HasFieldAt (Operate devices) a b p = ⊥
HasFieldAt MoveCarriage a b p = ⊥
HasFieldAt ChoosePocket a b p = ⊥
HasFieldAt Halt a b p = ⊥
HasFieldAt NoOperation a b p = ⊥

-- no position at or to the left of this one has a word mark
abbrev pub HasNoMark : Storage → ℕ → Type 0
HasNoMark s p = (q : ℕ) → q ≤ p → is_marked s q ≡ false

-- the count positions up to p are a field: the first has a word mark, and no other
pub record IsField (s : Storage) (p count : ℕ) : Type 0 where
  pub some : 1 ≤ count
  pub room : count ≤ p + 1
  pub marked : is_marked s (p + 1 - count) ≡ true
  pub unmarked : (q : ℕ) → p + 1 < q + count → q ≤ p → is_marked s q ≡ false

-- q is a position of the field that ends at p: none to the right of it, up to p, has a word mark
abbrev pub IsInField : Storage → ℕ → ℕ → Type 0
IsInField s p q = (q ≤ p) × ((k : ℕ) → q < k → k ≤ p → is_marked s k ≡ false)

-- q is as far to the left of p as some position of the field that ends at other is of that
abbrev pub IsAsFar : Storage → ℕ → ℕ → ℕ → Type 0
IsAsFar s other p q = (q ≤ p) × ((k : ℕ) × IsInField s other k × (other + q ≡ p + k))

-- q is read of the field at a, of which no more characters are read than the field at b has
abbrev pub IsCutTo : Storage → ℕ → ℕ → ℕ → Type 0
IsCutTo s a b q = IsInField s a q × IsAsFar s b a q

-- of the count positions up to p none but the first has a word mark
abbrev pub HasNoMarkSooner : Storage → ℕ → ℕ → Type 0
HasNoMarkSooner s p count = (q : ℕ) → p + 1 < q + count → q ≤ p → is_marked s q ≡ false

-- a move of so many characters ends at the word mark of one of the fields, and none is sooner
abbrev pub EndsAtMark : Storage → ℕ → ℕ → ℕ → Type 0
EndsAtMark s a b count =
    (IsField s a count ⊎ IsField s b count) × HasNoMarkSooner s a count × HasNoMarkSooner s b count

-- an operation on two fields lacks a word mark at this position: that of its field at b; or that of
-- its field at a, which has fewer positions than the field at b
abbrev pub LacksOneOfTwo : Storage → ℕ → ℕ → ℕ → Type 0
LacksOneOfTwo s a b p =
    (p ≡ b) ⊎ ((p ≡ a) × ((count : ℕ) × IsField s b count × (a + 1 < count)))

-- an edit lacks a word mark at this position: that of its control field at b; or that of its field
-- at a, which has fewer positions than the control field has digit places, or than one
abbrev pub EditLacksMark : Storage → ℕ → ℕ → ℕ → Type 0
EditLacksMark s a b p =
    (p ≡ b) ⊎ ((p ≡ a) × ((count : ℕ) × IsField s b count
    × (a + 1 < max 1 (places (codes_ending s b count)))))

-- an operation cannot do without the word mark of its field at this position; a move can, if the
-- other field has one
abbrev pub LacksMark : Operation → Storage → ℕ → ℕ → ℕ → Type 0
LacksMark (OnFields Add) s a b p = LacksOneOfTwo s a b p
LacksMark (OnFields Subtract) s a b p = LacksOneOfTwo s a b p
LacksMark (OnFields ZeroAdd) s a b p = LacksOneOfTwo s a b p
LacksMark (OnFields ZeroSubtract) s a b p = LacksOneOfTwo s a b p
LacksMark (OnFields Compare) s a b p = LacksOneOfTwo s a b p
LacksMark (OnFields Move) s a b p = (p ≡ a) × HasNoMark s b
LacksMark (OnFields Load) s a b p = p ≡ a
LacksMark (OnFields Suppress) s a b p = p ≡ a
LacksMark (OnFields Edit) s a b p = EditLacksMark s a b p
LacksMark _ s a b p = ⊥

-- an operation would read or write so many characters up to its fields' positions
abbrev pub Wants : Operation → Storage → ℕ → ℕ → ℕ → Type 0
Wants (OnFields ModifyAddress) s a b count = count ≡ 3
Wants (OnFields Move) s a b count = EndsAtMark s a b count
Wants (OnFields Load) s a b count = IsField s a count
Wants (OnFields Suppress) s a b count = IsField s a count
Wants StoreA s a b count = count ≡ 3
Wants StoreB s a b count = count ≡ 3
Wants _ s a b count = ⊥

-- an operation reads the digit at this position
abbrev pub ReadsDigit : Operation → Storage → ℕ → ℕ → ℕ → Type 0
ReadsDigit (OnFields Add) s a b p = IsCutTo s a b p ⊎ IsInField s b p
ReadsDigit (OnFields Subtract) s a b p = IsCutTo s a b p ⊎ IsInField s b p
ReadsDigit (OnFields ZeroAdd) s a b p = IsCutTo s a b p
ReadsDigit (OnFields ZeroSubtract) s a b p = IsCutTo s a b p
ReadsDigit _ s a b p = ⊥

-- p is among the positions that are edited: as many as the field at b has digit places, at least
-- one
abbrev pub IsEdited : Storage → ℕ → ℕ → ℕ → Type 0
IsEdited s a b p = (count : ℕ) × IsField s b count × IsInField s a p
    × (a < p + max 1 (places (codes_ending s b count)))

-- an operation reads the character at this position for its A field, and writes over it in its B
-- field
abbrev pub Shares : Operation → Storage → ℕ → ℕ → ℕ → Type 0
Shares (OnFields Add) s a b p = IsCutTo s a b p × IsInField s b p
Shares (OnFields Subtract) s a b p = IsCutTo s a b p × IsInField s b p
Shares (OnFields ZeroAdd) s a b p = IsCutTo s a b p × IsInField s b p
Shares (OnFields ZeroSubtract) s a b p = IsCutTo s a b p × IsInField s b p
Shares (OnFields Suppress) s a b p = IsInField s a p × IsAsFar s a b p
Shares (OnFields Edit) s a b p = IsEdited s a b p × IsInField s b p
Shares _ s a b p = ⊥

-- the load of a field, at the positions from b to the left, comes to the mark of that field, which
-- is at p, before the mark is read: it is read last, and its place is among those written before
pub record LoadsOverMark (s : Storage) (a b p : ℕ) : Type 0 where
  pub count : ℕ
  pub field : IsField s a count
  pub mark : p + count ≡ a + 1
  pub to : p ≤ b
  pub before : b < a

-- ---- the units

-- the instruction at register I is one of the units, and this holds of the units that take part
abbrev pub OfDevices : Works → (Devices → Type 0) → Type 0
OfDevices w P = OfNext w (λ d. (devices : Devices) × (d.operation ≡ Operate devices) × P devices)

-- no line can be printed: the printer has made as many as it can, or has come to its last form
abbrev pub IsPrinterFull : Works → Type 0
IsPrinterFull w = (most_lines ≤ w.units.before.lines + length w.units.printer.lines)
    ⊎ (last_form ≤ w.units.printer.carriage.form)

-- ---- the sentences

-- what the words of a cause say is so
abbrev pub IsSo : Cause → Works → Type 0
IsSo RegisterPast w = length w.storage ≤ w.registers.i
IsSo NoMark w =
    (w.registers.i < length w.storage) × (is_marked w.storage w.registers.i ≡ false)
IsSo NoEnd w = (is_marked w.storage w.registers.i ≡ true)
    × ((q : ℕ) → w.registers.i < q → q ≤ w.registers.i + 8 → is_marked w.storage q ≡ false)
IsSo (NoInstruction glyph) w =
    (codes : List ℕ) × StandsNext w codes × (glyph_of (slice_index codes 0) ≡ glyph)
    × HasNoForm codes
IsSo NoSelection w =
    OfNext w (λ d. (d.operation ≡ ChoosePocket) × (w.units.punch.profile ≡ profile.Plain))
IsSo (NoAddress x y z) w =
    (first second third : ℕ) × HasAddress w first second third × (glyph_of first ≡ x)
    × (glyph_of second ≡ y) × (glyph_of third ≡ z) × OneHasNoDigit first second third
IsSo (AddressPast p) w =
    (address : Tagged) × Names w address × LeadsTo w.storage address p × (length w.storage ≤ p)
IsSo (NoIndex p) w =
    (address : Tagged) × Names w address
    × ((location : IndexLocation) × (address.index ≡ Some location)
    × (units_position location ≡ p)) × EndsNoNumber w.storage p
IsSo (FieldPast p) w =
    OfNext w (λ d. HasFieldAt d.operation d.a d.b p × (length w.storage ≤ p))
IsSo (NoFieldMark p) w =
    OfNext w (λ d. LacksMark d.operation w.storage d.a d.b p × (p < length w.storage)
    × HasNoMark w.storage p)
IsSo (TooFew p) w =
    OfNext w (λ d. HasFieldAt d.operation d.a d.b p × (p < length w.storage)
    × ((count : ℕ) × Wants d.operation w.storage d.a d.b count × (p + 1 < count)))
IsSo (MarkWrittenOver p) w =
    OfNext w (λ d. (d.operation ≡ OnFields Load) × LoadsOverMark w.storage d.a d.b p)
IsSo (NoDigit glyph p) w =
    OfNext w (λ d. ReadsDigit d.operation w.storage d.a d.b p
    × (glyph_of (code_at w.storage p) ≡ glyph) × (digit_of (code_at w.storage p) ≡ None))
IsSo (NoNumber p) w =
    OfNext w (λ d. (d.operation ≡ OnFields ModifyAddress) × ((p ≡ d.a) ⊎ (p ≡ d.b))
    × EndsNoNumber w.storage p)
IsSo Overlap w =
    OfNext w (λ d. (p : ℕ) × Shares d.operation w.storage d.a d.b p)
IsSo (NoCard count) w =
    OfDevices w (λ devices. (reads devices ≡ true) × (w.units.hopper.taken ≡ count)
    × (length w.units.hopper.deck ≤ count))
IsSo PunchFull w =
    OfDevices w (λ devices. (punches devices ≡ true)
    × (most_cards ≤ w.units.before.cards + length w.units.punch.cards))
IsSo PrinterFull w =
    OfDevices w (λ devices. (prints devices ≡ true) × IsPrinterFull w)
    ⊎ OfNext w (λ d. (d.operation ≡ MoveCarriage)
    × (last_form ≤ w.units.printer.carriage.form))
