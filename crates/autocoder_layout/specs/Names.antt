-- names, and the values of addresses
use Rattle.std.specs.Prelude.{ℕ, ◌+◌, ◌-◌, ◌<◌, nat_lt, Bool, false, if◌then◌else◌, List, find, Option, Some, None, option_map, option_and_then, bytes_eq}
use Rattle.autocoder_statements.specs.declared.names.Name as name
use Rattle.autocoder_statements.specs.declared.expressions.Base.{Base}
use Rattle.autocoder_statements.specs.declared.expressions.Base.TheVariants.{Number, Name}
use Rattle.autocoder_statements.specs.declared.expressions.Adjustment.{Adjustment}
use Rattle.autocoder_statements.specs.declared.expressions.Adjustment.TheVariants.{Nothing, Plus, Minus}
use Rattle.autocoder_statements.specs.declared.expressions.Expression.{Expression}
use Rattle.autocoder_layout.specs.declared.names.Value.{Value}
use Rattle.autocoder_layout.specs.declared.names.Value.TheVariants.{Unknown, Outside, At}
use Rattle.autocoder_layout.specs.declared.slots.Definition.{Definition}
use Rattle.autocoder_layout.specs.declared.slots.Slot.{Slot}

-- whether a definition, if there is one, is of this name
abbrev pub is_of : name.Name → Option Definition → Bool
is_of wanted None = false
is_of wanted (Some definition) = bytes_eq definition.name.characters wanted.characters

-- whether a card defines this name
abbrev pub defines : name.Name → Slot → Bool
defines wanted slot = is_of wanted slot.defines

-- the address of a name, as defined by the first card that defines it
unfoldable pub address_of : name.Name → List Slot → Option ℕ
address_of wanted slots =
    option_and_then (λ slot. option_map (λ definition. definition.address) slot.defines)
    (find (defines wanted) slots)

-- ---- values

-- a number as the value of an address: a position, or outside storage
unfoldable pub within : ℕ → ℕ → Value
within size number = if nat_lt number size then At number else Outside

-- the number of a base: itself, or the address of its name if this is defined
abbrev pub base_number : List Slot → Base → Option ℕ
base_number slots (Number number) = Some number
base_number slots (Name wanted) = address_of wanted slots

-- the value of an address by its base's number and its adjustment
abbrev pub value_with : ℕ → Adjustment → ℕ → Value
value_with size Nothing number = within size number
value_with size (Plus more) number = within size (number + more)
value_with size (Minus less) number = if nat_lt number less then Outside
    else within size (number - less)

-- the value of an address by its base's number, or unknown if the base's name is not defined
abbrev pub value_by : ℕ → Adjustment → Option ℕ → Value
value_by size adjustment None = Unknown
value_by size adjustment (Some number) = value_with size adjustment number

-- the value of an expression: its base plus or minus a number
unfoldable pub value_in : ℕ → List Slot → Expression → Value
value_in size slots expression =
    value_by size expression.adjustment (base_number slots expression.base)

-- a value that is a position is one of storage
abbrev pub IsValueWithin : ℕ → Value → Type 0
IsValueWithin size Unknown = Unit {0}
IsValueWithin size Outside = Unit {0}
IsValueWithin size (At position) = position < size
