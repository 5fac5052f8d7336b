-- what holds of the tables of operations and of the operand forms
use Rattle.std.specs.Prelude.{ℕ, zero, suc, ◌/◌, ◌%◌, ◌^◌, ◌≡◌, ◌<◌, Bool, true, List, [], ◌∷◌, ◌++◌, length, map, slice_index_or, is_some}
use Rattle.bcd.specs.declared.Zone.TheVariants.{Bare}
use Rattle.addresses.specs.Digits.{digit_under}
use Rattle.autocoder_statements.specs.Characters.{begins}
use Rattle.autocoder_statements.specs.Operands.{operands}
use Rattle.autocoder_statements.specs.Mnemonics.{orders, mnemonics}
use Rattle.autocoder_statements.specs.declared.operand_forms.OperandForm.{OperandForm}

-- the names of all operations, orders and mnemonics
unfoldable pub names : List (List ℕ)
names = map (λ row. row.0) orders ++ map (λ row. row.0) mnemonics

-- no word is the name of two operations
abbrev pub IsOneOperation : List ℕ → Type 0
IsOneOperation word =
    (i j : ℕ) → i < length names → j < length names →
    begins (slice_index_or names i []) word ≡ true →
    begins (slice_index_or names j []) word ≡ true → i ≡ j

-- whether an operand field has this form
abbrev pub fits : OperandForm → List ℕ → Bool
fits form text = is_some (operands form text)

-- a number in so many digits, the highest first
unfoldable pub digits_of : ℕ → ℕ → List ℕ
digits_of zero n = []
digits_of (suc count) n = digit_under Bare (n / 10 ^ count % 10) ∷ digits_of count n
