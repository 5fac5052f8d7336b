-- what the characters of an instruction say by themselves, whatever stands elsewhere in storage
use Rattle.std.specs.Prelude.{ℕ, ◌≡◌, ◌+◌, ◌-◌, ◌<◌, ◌≤◌, ◌==◌, All, List, length, Bool, true, false, if◌then◌else◌, Option, Some, Result, Ok, slice_index}
use Rattle.std.specs.Int.{w64, from_le_bytes}
use Rattle.std.specs.Simd.Lanes.{mask_l}
use Rattle.std.specs.Option.{option_map, option_and_then}
use Rattle.core_store.specs.Storage.{Storage, codes_from, marks_from}
use Rattle.core_store.specs.Checked.{require, find_or, and_then}
use Rattle.core_store.specs.declared.checks.Check.{Check}
use Rattle.core_store.specs.declared.checks.Check.TheVariants.{Address, Instruction as BadInstruction}
use Rattle.core_store.specs.declared.registers.Registers.{Registers}
use Rattle.addresses.specs.Addresses.{Tagged, tagged}
use Rattle.addresses.specs.Effective.{position_of}
use Rattle.machine.specs.declared.instruction.Instruction.{Instruction}
use Rattle.machine.specs.declared.shapes.Addresses.{Addresses}
use Rattle.machine.specs.declared.shapes.Addresses.TheVariants.{Absent, One, Two}
use Rattle.machine.specs.declared.shapes.Shape.{Shape}
use Rattle.machine.specs.Instructions.{is_form, is_last, addresses_by}
use Rattle.machine.specs.Word.{word_length}

-- the address that the three characters of an instruction from this place on are, if they are one
abbrev pub tagged_at : List ℕ → ℕ → Option Tagged
tagged_at codes place =
    tagged (slice_index codes place) (slice_index codes (place + 1)) (slice_index codes (place + 2))

-- the addresses of an instruction that has so many, if each can be read
unfoldable pub addresses_of : ℕ → List ℕ → Option Addresses
addresses_of count codes =
    if count == 0 then Some Absent
    else option_and_then (λ first.
    if count == 1 then Some (One first)
    else option_map (λ second. Two first second) (tagged_at codes 4)) (tagged_at codes 1)

-- the shape of an instruction of so many characters, or the check
unfoldable pub shape_of : ℕ → List ℕ → Result Shape Check
shape_of count codes =
    require (is_form (slice_index codes 0) count) BadInstruction
    (require (is_last (slice_index codes 0) count (slice_index codes (count - 1))) BadInstruction
    (find_or (addresses_of (addresses_by (slice_index codes 0) count) codes) Address (λ addresses.
    Ok (record {
      first = slice_index codes 0;
      last = slice_index codes (count - 1);
      length = count;
      addresses = addresses;
    }))))

-- the shape of the instruction at position i, or the check
unfoldable pub shape_at : Storage → ℕ → Result Shape Check
shape_at s i =
    find_or (word_length s i) BadInstruction (λ count. shape_of count (codes_from s i count))

-- whether an instruction has an address for each operand
abbrev pub has_two : Addresses → Bool
has_two Absent = false
has_two (One first) = false
has_two (Two first second) = true

-- the positions that an instruction with these addresses works at, or the check: the registers A
-- and B if it has none, a single one for both, else its two
unfoldable pub operands_at : Storage → Registers → Addresses → Result (ℕ × ℕ) Check
operands_at s r Absent = Ok (r.a, r.b)
operands_at s r (One address) = and_then (position_of s address) (λ first. Ok (first, first))
operands_at s r (Two address other) =
    and_then (position_of s address) (λ first.
    and_then (position_of s other) (λ second. Ok (first, second)))

-- the instruction of a shape that works at these positions
abbrev pub instruction_at : Shape → ℕ → ℕ → Instruction
instruction_at shape a b =
    record { first = shape.first; last = shape.last; length = shape.length; a = a; b = b }

-- at position i stand these eight characters and these nine word marks, each as one number
pub record Stands (s : Storage) (i number mask : ℕ) : Type 0 where
  pub inside : i + 9 ≤ length s
  pub characters : number ≡ from_le_bytes w64 (codes_from s i 8)
  pub below : All (λ code. code < 64) (codes_from s i 8)
  pub marks : mask ≡ mask_l (marks_from s i 9)

-- wherever these characters and word marks stand, the instruction there has this shape
abbrev pub IsShapeOf : ℕ → ℕ → Shape → Type 0
IsShapeOf characters marks shape =
    (s : Storage) (i : ℕ) → Stands s i characters marks → shape_at s i ≡ Ok shape
