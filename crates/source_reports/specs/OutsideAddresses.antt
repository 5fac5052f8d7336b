-- an address outside the storage: its number, and the size of the storage
use Rattle.std.specs.Prelude.{ℕ, ◌+◌, ◌-◌, nat_lt, Bool, true, false, if◌then◌else◌, List, [], ◌++◌, Option, Some, None, Ok, codes, decimal}
use Rattle.core_store.specs.Storage.{positions_of}
use Rattle.autocoder_statements.specs.declared.expressions.Adjustment.{Adjustment}
use Rattle.autocoder_statements.specs.declared.expressions.Adjustment.TheVariants.{Nothing, Plus, Minus}
use Rattle.autocoder_statements.specs.declared.expressions.Expression.{Expression}
use Rattle.autocoder_statements.specs.declared.reading.Statement.TheVariants as statement
use Rattle.autocoder_layout.specs.Source.{Line}
use Rattle.autocoder_layout.specs.Layout.{Layout}
use Rattle.autocoder_layout.specs.Names.{base_number}
use Rattle.autocoder_layout.specs.Judging.{expressions_of, has_value_outside}
use Rattle.autocoder_layout.specs.declared.slots.Slot.{Slot}

-- the first of two expressions if that one is at fault, or the second if that one is, or none
abbrev pub either_expression : Bool → Bool → Option Expression → Option Expression →
    Option Expression
either_expression first second one other = if first then one else (if second then other else None)

-- the first expression of a card that is outside the storage, where the card has fault 46
unfoldable pub outside_expression : Layout → Line → Option Expression
outside_expression layout (Ok (statement.Origin expression)) = Some expression
outside_expression layout (Ok (statement.Equate label expression)) = Some expression
outside_expression layout line = either_expression
    (has_value_outside (positions_of layout.source.size) layout.slots (expressions_of line).0)
    (has_value_outside (positions_of layout.source.size) layout.slots (expressions_of line).1)
    (expressions_of line).0 (expressions_of line).1

-- a number with its sign, if it is negative
abbrev pub number_text : Bool → ℕ → List ℕ
number_text negative number = (if negative then codes "-" else []) ++ decimal number

-- the number of a base with an adjustment, which may be negative
abbrev pub reached_text : Adjustment → ℕ → List ℕ
reached_text Nothing number = number_text false number
reached_text (Plus more) number = number_text false (number + more)
reached_text (Minus less) number = if nat_lt number less then number_text true (less - number)
    else number_text false (number - less)

-- the size of the storage, where no address is outside it but a position of the card
abbrev pub size_text : ℕ → List ℕ
size_text size = codes "; the size is " ++ decimal size

-- the number of an address and the size of the storage
abbrev pub number_hint : ℕ → Adjustment → Option ℕ → List ℕ
number_hint size adjustment None = size_text size
number_hint size adjustment (Some number) = codes ": " ++ reached_text adjustment number
    ++ (codes ", and the size is " ++ decimal size)

-- the number of an expression, if there is one, and the size of the storage
abbrev pub reached_hint : ℕ → List Slot → Option Expression → List ℕ
reached_hint size slots None = size_text size
reached_hint size slots (Some expression) =
    number_hint size expression.adjustment (base_number slots expression.base)

-- of an address outside the storage: its number, and the size of the storage
unfoldable pub outside_hint : Layout → Line → List ℕ
outside_hint layout line =
    reached_hint (positions_of layout.source.size) layout.slots (outside_expression layout line)
