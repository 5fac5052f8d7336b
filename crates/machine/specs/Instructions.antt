-- instructions by their characters
use Rattle.std.specs.Prelude.{ℕ, ◌≡◌, Bool, List, [], ◌∷◌, Option, Some, None, is_some, unwrap_or}
use Rattle.std.specs.Option.{option_map, option_and_then}
use Rattle.core_store.specs.declared.registers.Compared.{Compared}
use Rattle.core_store.specs.declared.registers.Compared.TheVariants.{Equal, Low, High}
use Rattle.machine.specs.declared.branches.Condition.{Condition}
use Rattle.machine.specs.declared.branches.Condition.TheVariants.{Always}
use Rattle.machine.specs.declared.named.Operation.{Operation}
use Rattle.machine.specs.declared.named.Operation.TheVariants.{NoOperation}
use Rattle.machine.specs.declared.named.Modifier.{Modifier}
use Rattle.machine.specs.declared.named.Modifier.TheVariants.{Plain}
use Rattle.machine.specs.declared.named.Decoded.{Decoded}
use Rattle.machine.specs.declared.instruction.Instruction.{Instruction}
use Rattle.machine.specs.Branches.{condition_of}
use Rattle.machine.specs.Operations.{Form, row_of, form_among, form_of, meant, modifier_at}

-- the operation that a character names, or No Operation if it names none
unfoldable pub operation_by : ℕ → Operation
operation_by first = unwrap_or (option_map (λ row. row.operation) (row_of first)) NoOperation

-- the form of so many characters among these, or the first of them if none has so many
abbrev pub form_or_first : List Form → ℕ → Option Form
form_or_first [] count = None
form_or_first (first ∷ rest) count =
    Some (unwrap_or (form_among (first ∷ rest) count) first)

-- what the last character of an instruction means in its form, or in the first form of its operation
-- if none has its length; nothing if it is not allowed there
unfoldable pub modifier_by : ℕ → ℕ → ℕ → Modifier
modifier_by first count last =
    unwrap_or
    (option_and_then (λ form. meant form.last last)
    (option_and_then (λ row. form_or_first row.forms count) (row_of first)))
    Plain

-- the condition that a character names, or the one that is always met if it names none
unfoldable pub condition_by : ℕ → Condition
condition_by last = unwrap_or (condition_of last) Always

-- the place of a comparison's result among the three, from 0
abbrev pub place_of : Compared → ℕ
place_of Equal = 0
place_of Low = 1
place_of High = 2

-- whether the operation that a character names has a form of so many characters
unfoldable pub is_form : ℕ → ℕ → Bool
is_form first count = is_some (form_of first count)

-- whether an instruction of so many characters allows its last character
unfoldable pub is_last : ℕ → ℕ → ℕ → Bool
is_last first count last = is_some (modifier_at first count last)

-- how many addresses of an instruction are read, by its first character and its length
unfoldable pub addresses_by : ℕ → ℕ → ℕ
addresses_by first count = unwrap_or (option_map (λ form. form.addresses) (form_of first count)) 0

-- the decoded instruction that the characters of an instruction name
abbrev pub decoded_by : Instruction → Decoded
decoded_by i = record {
  operation = operation_by i.first;
  length = i.length;
  a = i.a;
  b = i.b;
  modifier = modifier_by i.first i.length i.last;
}

-- the characters of an instruction name this operation and this modifier, and it works at the same
-- positions
pub record Names (i : Instruction) (d : Decoded) : Type 0 where
  pub operation : option_map (λ row. row.operation) (row_of i.first) ≡ Some d.operation
  pub modifier : modifier_at i.first i.length i.last ≡ Some d.modifier
  pub length : d.length ≡ i.length
  pub a : d.a ≡ i.a
  pub b : d.b ≡ i.b
