-- for the law `operands_are_read`: addresses that are written are read as what their operands mean
use Rattle.std.proofs.Common.{append_assoc, ◌≡◌, ℕ, ◌<◌, ◌≤◌, ◌%◌, List, [], ◌∷◌, ◌++◌, Option, Some, None, refl, ◌∙◌, ap, arith}
use Rattle.std.specs.Prelude.{option_to_list}
use Rattle.core_store.specs.Storage.{Storage, largest_size}
use Rattle.core_store.specs.Checked.{find_or}
use Rattle.core_store.specs.declared.checks.Check.TheVariants as check
use Rattle.bcd.specs.declared.Zone.TheVariants as zone
use Rattle.addresses.specs.Addresses.{written, decoded, location_of}
use Rattle.addresses.specs.Effective.{operand, position_of}
use Rattle.addresses.specs.declared.tagged.IndexLocation.{IndexLocation}
use Rattle.addresses.specs.declared.tagged.IndexLocation.TheVariants.{First, Second, Third}
use Rattle.addresses.proofs.DigitLemmas.{written_read}
use Rattle.machine.specs.Word.{operand_at}
use Rattle.autocoder_statements.specs.declared.operands.Operand.{Operand}
use Rattle.autocoder_statements.specs.declared.operands.Operand.TheVariants.{Address, Literal}
use Rattle.autocoder_statements.specs.declared.operations.Instruction.{Instruction}
use Rattle.autocoder_layout.specs.Cells.{tag, position_in, operand_codes, instruction_codes}
use Rattle.autocoder_layout.specs.Literals.{Characters, literal_end}
use Rattle.autocoder_layout.specs.Names.{value_in, IsValueWithin}
use Rattle.autocoder_layout.specs.Slots.{place_after}
use Rattle.autocoder_layout.specs.declared.names.Value.{Value}
use Rattle.autocoder_layout.specs.declared.names.Value.TheVariants.{Unknown, Outside, At}
use Rattle.autocoder_layout.specs.declared.slots.Slot.{Slot}
use Rattle.autocoder_layout.proofs.SlotBounds.{value_is_within}
use Rattle.autocoder_laws.specs.Operands.{meant_by}

below : (size : ℕ) (value : Value) → size ≤ largest_size → IsValueWithin size value → position_in value < largest_size
below size Unknown most h = omega arith
below size Outside most h = omega arith
below size (At position) most h = omega arith

tag_of : (index : Option IndexLocation) → location_of (tag index) ≡ index
tag_of None = refl
tag_of (Some First) = refl
tag_of (Some Second) = refl
tag_of (Some Third) = refl

module _ (size : ℕ) (slots : List Slot) (literals : List Characters) (most : size ≤ largest_size) where
  read : (wanted : Operand) → decoded (operand_codes size slots literals (Some wanted)) ≡ Some (meant_by size slots literals wanted)
  read (Address address) =
      let value = value_in size slots address.expression in
      let inside : position_in value < largest_size = below size value most (value_is_within size slots address.expression) in
      written_read (position_in value) inside (tag address.index)
      ∙ ap (λ index. Some (record { base = position_in value; index = index })) (tag_of address.index)
  read (Literal wanted) =
      let inside : literal_end (place_after slots) literals wanted % largest_size < largest_size = omega arith in
      written_read (literal_end (place_after slots) literals wanted % largest_size) inside zone.Bare

  -- the three characters of an operand, read in a storage
  placed : (s : Storage) (wanted : Operand) →
      find_or (decoded (operand_codes size slots literals (Some wanted))) check.Address (position_of s) ≡ position_of s (meant_by size slots literals wanted)
  placed s wanted = ap (λ found. find_or found check.Address (position_of s)) (read wanted)

  first_by : (s : Storage) (code : ℕ) (wanted : Operand) (rest : List ℕ) →
      operand_at s (((code ∷ []) ++ operand_codes size slots literals (Some wanted)) ++ rest) 1 ≡ position_of s (meant_by size slots literals wanted)
  unfolding operand written
  first_by s code (Address address) rest = placed s (Address address)
  first_by s code (Literal wanted) rest = placed s (Literal wanted)

  second_by : (s : Storage) (code : ℕ) (first wanted : Operand) (rest : List ℕ) →
      operand_at s ((((code ∷ []) ++ operand_codes size slots literals (Some first)) ++ operand_codes size slots literals (Some wanted)) ++ rest) 4
      ≡ position_of s (meant_by size slots literals wanted)
  unfolding operand written
  second_by s code (Address first) (Address address) rest = placed s (Address address)
  second_by s code (Address first) (Literal wanted) rest = placed s (Literal wanted)
  second_by s code (Literal first) (Address address) rest = placed s (Address address)
  second_by s code (Literal first) (Literal wanted) rest = placed s (Literal wanted)

pub first_law : (size : ℕ) (slots : List Slot) (literals : List Characters) (spelled : Instruction) (wanted : Operand) (s : Storage) → size ≤ largest_size →
    spelled.first ≡ Some wanted → operand_at s (instruction_codes size slots literals spelled) 1 ≡ position_of s (meant_by size slots literals wanted)
unfolding instruction_codes
first_law size slots literals spelled wanted s most e =
    let codes = λ (o : Option Operand). operand_codes size slots literals o in
    let rest = codes spelled.second ++ option_to_list spelled.modifier in
    ap (λ first. operand_at s ((((spelled.operation ∷ []) ++ codes first) ++ codes spelled.second) ++ option_to_list spelled.modifier) 1) e
    ∙ ap (λ all. operand_at s all 1) (append_assoc ((spelled.operation ∷ []) ++ codes (Some wanted)) (codes spelled.second) (option_to_list spelled.modifier))
    ∙ first_by size slots literals most s spelled.operation wanted rest

pub second_law : (size : ℕ) (slots : List Slot) (literals : List Characters) (spelled : Instruction) (first wanted : Operand) (s : Storage) → size ≤ largest_size →
    spelled.first ≡ Some first → spelled.second ≡ Some wanted → operand_at s (instruction_codes size slots literals spelled) 4 ≡ position_of s (meant_by size slots literals wanted)
unfolding instruction_codes
second_law size slots literals spelled first wanted s most e f =
    let codes = λ (o : Option Operand). operand_codes size slots literals o in
    ap (λ one. operand_at s ((((spelled.operation ∷ []) ++ codes one) ++ codes spelled.second) ++ option_to_list spelled.modifier) 4) e
    ∙ ap (λ two. operand_at s ((((spelled.operation ∷ []) ++ codes (Some first)) ++ codes two) ++ option_to_list spelled.modifier) 4) f
    ∙ second_by size slots literals most s spelled.operation first wanted (option_to_list spelled.modifier)
