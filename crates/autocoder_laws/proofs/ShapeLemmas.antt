-- for `instructions_are_decoded`: the length of an instruction, its first character and its last
use Rattle.std.proofs.Common.{◌≡◌, ℕ, ◌*◌, ◌-◌, List, [], ◌∷◌, ◌++◌, Option, Some, None, refl, ◌∙◌, ap, arith, length, get_or}
use Rattle.std.specs.Prelude.{slice_index, option_to_list}
use Rattle.std.proofs.Math.ListN.{length-append}
use Rattle.std.proofs.Math.Seq.{get_or-append_seam}
use Rattle.addresses.specs.Addresses.{written}
use Rattle.autocoder_statements.specs.Mnemonics.{present, instruction_length}
use Rattle.autocoder_statements.specs.declared.operands.Operand.{Operand}
use Rattle.autocoder_statements.specs.declared.operands.Operand.TheVariants.{Address, Literal}
use Rattle.autocoder_statements.specs.declared.operations.Instruction.{Instruction}
use Rattle.autocoder_layout.specs.Cells.{operand_codes, instruction_codes}
use Rattle.autocoder_layout.specs.Literals.{Characters}
use Rattle.autocoder_layout.specs.declared.slots.Slot.{Slot}

module _ (size : ℕ) (slots : List Slot) (literals : List Characters) where
  three : (o : Option Operand) → length (operand_codes size slots literals o) ≡ 3 * present o
  unfolding written
  three None = refl
  three (Some (Address address)) = refl
  three (Some (Literal wanted)) = refl

  one : (last : Option ℕ) → length (option_to_list last) ≡ present last
  one None = refl
  one (Some code) = refl

  pub long : (spelled : Instruction) → length (instruction_codes size slots literals spelled) ≡ instruction_length spelled
  unfolding instruction_codes
  long spelled =
      let a = three spelled.first in
      let b = three spelled.second in
      let c = one spelled.modifier in
      simp (length-append) (omega arith)

  pub first_is : (spelled : Instruction) → slice_index (instruction_codes size slots literals spelled) 0 ≡ spelled.operation
  unfolding instruction_codes
  first_is spelled = refl

  last_of : (xs : List ℕ) (code : ℕ) → get_or (xs ++ code ∷ []) (length (xs ++ code ∷ []) - 1) 0 ≡ code
  last_of xs code =
      let count : length (xs ++ code ∷ []) - 1 ≡ length xs = simp (length-append) (omega arith) in
      rw count (get_or-append_seam xs code [] 0)

  pub last_is : (spelled : Instruction) (code : ℕ) → spelled.modifier ≡ Some code →
      slice_index (instruction_codes size slots literals spelled) (length (instruction_codes size slots literals spelled) - 1) ≡ code
  unfolding instruction_codes
  last_is spelled code e =
      let front = (spelled.operation ∷ []) ++ operand_codes size slots literals spelled.first in
      let middle = operand_codes size slots literals spelled.second in
      let whole : instruction_codes size slots literals spelled ≡ (front ++ middle) ++ code ∷ [] =
      ap (λ last. (front ++ middle) ++ option_to_list last) e in
      ap (λ xs. slice_index xs (length xs - 1)) whole ∙ last_of (front ++ middle) code
