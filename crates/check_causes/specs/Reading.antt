-- why no instruction can be read
use Rattle.std.specs.Prelude.{ℕ, ◌+◌, ◌-◌, ◌%◌, ◌==◌, nat_lt, List, length, if◌then◌else◌, Option, Some, None, Result, Ok, slice_index}
use Rattle.bcd.specs.Table.{glyph_of}
use Rattle.core_store.specs.Storage.{Storage, is_marked}
use Rattle.core_store.specs.declared.registers.Registers.{Registers}
use Rattle.addresses.specs.Addresses.{Tagged, tagged}
use Rattle.addresses.specs.Effective.{units_position, base_ending}
use Rattle.addresses.specs.declared.tagged.IndexLocation.{IndexLocation}
use Rattle.machine.specs.Instructions.{addresses_by}
use Rattle.machine.specs.Operations.{modifier_at}
use Rattle.machine.specs.Word.{word}
use Rattle.check_causes.specs.declared.causes.Cause.{Cause}
use Rattle.check_causes.specs.declared.causes.Cause.TheVariants.{NoMark, NoEnd, NoInstruction, NoAddress, AddressPast, NoIndex}
use Rattle.check_causes.specs.Tested.{needs, finds, given}

-- the characters of the instruction at a position, or why there is none
unfoldable pub word_told : Storage → ℕ → Result (List ℕ) Cause
word_told s i = finds (word s i) (if is_marked s i then NoEnd else NoMark) (λ codes. Ok codes)

-- a base with the contents of an index location added modulo 16000, or why it cannot be added
unfoldable pub with_index_told : Storage → ℕ → Option IndexLocation → Result ℕ Cause
with_index_told s n None = Ok n
with_index_told s n (Some location) =
    needs (nat_lt (units_position location) (length s)) (AddressPast (units_position location))
    (finds (base_ending s (units_position location)) (NoIndex (units_position location)) (λ index.
    Ok ((n + index) % 16000)))

-- the position in storage that an address names, or why it names none
unfoldable pub position_told : Storage → Tagged → Result ℕ Cause
position_told s address =
    given (with_index_told s address.base address.index) (λ position.
    needs (nat_lt position (length s)) (AddressPast position) (Ok position))

-- the position in storage that three address characters name, or why they name none
unfoldable pub operand_told : Storage → ℕ → ℕ → ℕ → Result ℕ Cause
operand_told s first second third =
    finds (tagged first second third)
    (NoAddress (glyph_of first) (glyph_of second) (glyph_of third)) (λ address.
    position_told s address)

-- the position that the three address characters from this place of the instruction on name, or why
-- they name none
unfoldable pub operand_told_at : Storage → List ℕ → ℕ → Result ℕ Cause
operand_told_at s codes place = operand_told s (slice_index codes place)
    (slice_index codes (place + 1)) (slice_index codes (place + 2))

-- the addresses that an instruction works at, or why one of them cannot be read: the registers A
-- and B if the instruction has none, a single one for both, else its two
unfoldable pub operands_told : Storage → ℕ → Registers → List ℕ → Result (ℕ × ℕ) Cause
operands_told s count r codes =
    if count == 0 then Ok (r.a, r.b)
    else given (operand_told_at s codes 1) (λ first.
    if count == 1 then Ok (first, first)
    else given (operand_told_at s codes 4) (λ second. Ok (first, second)))

-- the addresses that an instruction of so many characters works at, or why it cannot be decoded: an
-- unknown operation, length or last character before a wrong address
unfoldable pub decoded_told : Storage → ℕ → Registers → List ℕ → Result (ℕ × ℕ) Cause
decoded_told s count r codes =
    finds (modifier_at (slice_index codes 0) count (slice_index codes (count - 1)))
    (NoInstruction (glyph_of (slice_index codes 0))) (λ modifier.
    operands_told s (addresses_by (slice_index codes 0) count) r codes)
