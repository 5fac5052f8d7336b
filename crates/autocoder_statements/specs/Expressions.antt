-- the number or the address that a text begins with, and how many characters it takes
use Rattle.std.specs.Prelude.{ℕ, ◌+◌, ◌==◌, nat_lt, Bool, if◌then◌else◌, List, take, drop, Option, Some, None, option_map, option_and_then, codes}
use Rattle.addresses.specs.declared.tagged.IndexLocation.{IndexLocation}
use Rattle.addresses.specs.declared.tagged.IndexLocation.TheVariants.{First, Second, Third}
use Rattle.autocoder_statements.specs.Characters.{run, begins, begins_with_letter, number_of}
use Rattle.autocoder_statements.specs.Names.{name_run, name_of}
use Rattle.autocoder_statements.specs.declared.characters.Class.TheVariants.{Digit}
use Rattle.autocoder_statements.specs.declared.expressions.Base.{Base}
use Rattle.autocoder_statements.specs.declared.expressions.Base.TheVariants.{Number, Name}
use Rattle.autocoder_statements.specs.declared.expressions.Adjustment.{Adjustment}
use Rattle.autocoder_statements.specs.declared.expressions.Adjustment.TheVariants.{Nothing, Plus, Minus}
use Rattle.autocoder_statements.specs.declared.expressions.Expression.{Expression}
use Rattle.autocoder_statements.specs.declared.expressions.Address.{Address}

-- the most digits of a number in a source
abbrev pub most_digits : ℕ
most_digits = 5

infixl 10 ◌>>=◌
-- the rest of the reading on what was found so far, if it was found
abbrev pub ◌>>=◌ : {A B : Type 0} → Option A → (A → Option B) → Option B
found >>= rest = option_and_then rest found

-- how many digits a text begins with
abbrev pub digit_run : List ℕ → ℕ
digit_run text = run Digit text

-- a number of one to five digits
unfoldable pub number : List ℕ → Option (ℕ × ℕ)
number text =
    if digit_run text == 0 then None
    else (if nat_lt most_digits (digit_run text) then None
    else Some (number_of (take (digit_run text) text), digit_run text))

-- a number of one to five digits that is not 0
unfoldable pub positive : List ℕ → Option (ℕ × ℕ)
positive text = do
  found ← number text
  if found.0 == 0 then None else Some found

-- how many digits follow the sign at the beginning of a text, 0 if there is no sign
unfoldable pub signed_run : List ℕ → ℕ
signed_run text = if begins (codes "&") text then digit_run (drop 1 text)
    else (if begins (codes "-") text then digit_run (drop 1 text) else 0)

-- the base of an address: a name if the text begins with a letter, else a number
unfoldable pub base : List ℕ → Option (Base × ℕ)
base text =
    if begins_with_letter text
    then option_map (λ name. (Name name, name_run text)) (name_of (take (name_run text) text))
    else option_map (λ found. (Number found.0, found.1)) (number text)

-- the adjustment by a number: added after &, taken away after -
abbrev pub adjustment_by : Bool → ℕ → Adjustment
adjustment_by plus n = if plus then Plus n else Minus n

-- the adjustment of an address: a number after a sign, or nothing if no digit follows a sign
unfoldable pub adjustment : List ℕ → Option (Adjustment × ℕ)
adjustment text =
    if signed_run text == 0 then Some (Nothing, 0)
    else option_map (λ found. (adjustment_by (begins (codes "&") text) found.0, 1 + found.1))
    (number (drop 1 text))

-- the index location after &: X1, X2, X3 or none
unfoldable pub index : List ℕ → Option IndexLocation × ℕ
index text =
    if begins (codes "&X1") text then (Some First, 3)
    else (if begins (codes "&X2") text then (Some Second, 3)
    else (if begins (codes "&X3") text then (Some Third, 3)
    else (None, 0)))

-- an expression: a base and its adjustment
unfoldable pub expression : List ℕ → Option (Expression × ℕ)
expression text = do
  base ← base text
  adjustment ← adjustment (drop base.1 text)
  Some (record { base = base.0; adjustment = adjustment.0 }, base.1 + adjustment.1)

-- an address: an expression and its index location, and how many characters both take
abbrev pub address_with : Expression → ℕ → Option IndexLocation × ℕ → Address × ℕ
address_with expression count index =
    (record { expression = expression; index = index.0 }, count + index.1)

-- an address: an expression and an index location, if one is given
unfoldable pub address : List ℕ → Option (Address × ℕ)
address text = do
  found ← expression text
  Some (address_with found.0 found.1 (index (drop found.1 text)))
