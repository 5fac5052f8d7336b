-- how an instruction is read from storage
use Rattle.std.specs.Prelude.{ℕ, ◌≡◌, ◌≤◌, ◌⊎◌, ◌+◌, ◌-◌, ◌<◌, ◌==◌, nat_le, min, List, length, Bool, true, false, if◌then◌else◌, Option, Some, None, Result, Ok, unwrap_or, slice_index, codes}
use Rattle.std.specs.Option.{option_map}
use Rattle.core_store.specs.Storage.{Storage, IsLeastMark, is_marked, code_at, least_mark, codes_from}
use Rattle.core_store.specs.Checked.{find_or, and_then}
use Rattle.core_store.specs.declared.checks.Check.{Check}
use Rattle.core_store.specs.declared.checks.Check.TheVariants.{Instruction}
use Rattle.core_store.specs.declared.registers.Registers.{Registers}
use Rattle.machine.specs.declared.named.Modifier.{Modifier}
use Rattle.machine.specs.declared.named.Modifier.TheVariants.{Plain, OnCondition, OnCharacter, OnTest, ByOrder, ToPocket}
use Rattle.machine.specs.declared.named.Decoded.{Decoded}
use Rattle.addresses.specs.Effective.{operand}
use Rattle.machine.specs.Glyphs.{is_glyph}
use Rattle.machine.specs.Operations.{row_of, form_among, meant}

-- a count of characters from position i on, if that many positions are in storage
abbrev pub ending_in : Storage → ℕ → ℕ → Option ℕ
ending_in s i count = if nat_le (i + count) (length s) then Some count else None

-- how many characters the instruction at i has: those before the next word mark, at most eight; Set
-- Word Mark, `,`, has at most seven and requires no mark after them
unfoldable pub word_length : Storage → ℕ → Option ℕ
word_length s i =
    if is_marked s i then
    (if is_glyph (code_at s i) (codes ",")
    then ending_in s i (min (unwrap_or (least_mark s (i + 1) 8) (i + 8) - i) 7)
    else option_map (λ end. end - i) (least_mark s (i + 1) 8))
    else None

-- where an instruction ends: before the first word mark in the next eight positions; Set Word Mark,
-- `,`, has seven characters if no mark comes earlier
abbrev pub EndsAt : Bool → Storage → ℕ → ℕ → Type 0
EndsAt false s i count = IsLeastMark s (i + 1) 8 (i + count)
EndsAt true s i count =
    ((count < 7) × IsLeastMark s (i + 1) 8 (i + count))
    ⊎ ((count ≡ 7) × ((p : ℕ) → i < p → p < i + 7 → is_marked s p ≡ false))

-- an instruction of so many characters begins at i and ends within storage
pub record IsInstruction (s : Storage) (i count : ℕ) : Type 0 where
  pub begins : is_marked s i ≡ true
  pub ends : EndsAt (is_glyph (code_at s i) (codes ",")) s i count
  pub inside : i + count ≤ length s

-- the characters of the instruction at i, if there is one
unfoldable pub word : Storage → ℕ → Option (List ℕ)
word s i = option_map (codes_from s i) (word_length s i)

-- the position that the three address characters from this place of the instruction on name, or the
-- check
abbrev pub operand_at : Storage → List ℕ → ℕ → Result ℕ Check
operand_at s codes place = operand s (slice_index codes place) (slice_index codes (place + 1))
    (slice_index codes (place + 2))

-- the addresses that an operation works at: the registers A and B if the instruction has none, a
-- single one for both, else its two
unfoldable pub operands_of : Storage → ℕ → Registers → List ℕ → Result (ℕ × ℕ) Check
operands_of s count r codes =
    if count == 0 then Ok (r.a, r.b)
    else and_then (operand_at s codes 1) (λ first.
    if count == 1 then Ok (first, first)
    else and_then (operand_at s codes 4) (λ second. Ok (first, second)))

-- an instruction of so many characters, decoded by its row of the table of operations, or its check:
-- an unknown operation, length or last character before a wrong address
unfoldable pub decoded_of : Storage → ℕ → Registers → List ℕ → Result Decoded Check
decoded_of s count r codes =
    find_or (row_of (slice_index codes 0)) Instruction (λ row.
    find_or (form_among row.forms count) Instruction (λ form.
    find_or (meant form.last (slice_index codes (count - 1))) Instruction (λ modifier.
    and_then (operands_of s form.addresses r codes) (λ operands.
    Ok (record {
      operation = row.operation;
      length = count;
      a = operands.0;
      b = operands.1;
      modifier = modifier;
    })))))

-- an instruction's characters, decoded, or the check
abbrev pub decoded : Storage → Registers → List ℕ → Result Decoded Check
decoded s r codes = decoded_of s (length codes) r codes

-- a modifier that tests the position B does so within a storage of this size
abbrev pub LooksInside : Modifier → ℕ → ℕ → Type 0
LooksInside Plain b size = Unit {0}
LooksInside (OnCondition condition) b size = Unit {0}
LooksInside (OnCharacter code) b size = b < size
LooksInside (OnTest test) b size = b < size
LooksInside (ByOrder order) b size = Unit {0}
LooksInside (ToPocket pocket) b size = Unit {0}
