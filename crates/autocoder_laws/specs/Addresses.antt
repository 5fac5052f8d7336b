-- addresses as they are spelled
use Rattle.std.specs.Prelude.{ℕ, ◌≡◌, ◌<◌, List, [], Option, Some, None, codes}
use Rattle.addresses.specs.declared.tagged.IndexLocation.{IndexLocation}
use Rattle.addresses.specs.declared.tagged.IndexLocation.TheVariants.{First, Second, Third}
use Rattle.autocoder_statements.specs.declared.expressions.Base.{Base}
use Rattle.autocoder_statements.specs.declared.expressions.Base.TheVariants.{Number, Name}
use Rattle.autocoder_statements.specs.declared.expressions.Adjustment.{Adjustment}
use Rattle.autocoder_statements.specs.declared.expressions.Adjustment.TheVariants.{Nothing, Plus, Minus}
use Rattle.autocoder_statements.specs.declared.expressions.Expression.{Expression}
use Rattle.autocoder_statements.specs.declared.expressions.Address.{Address}
use Rattle.autocoder_laws.specs.Texts.{Joined, IsTyped}
use Rattle.autocoder_laws.specs.Numbers.{IsNumber}
use Rattle.autocoder_laws.specs.Names.{IsName}

-- a base: a number, or a name
abbrev pub IsBase : Base → List ℕ → Type 0
IsBase (Number n) text = IsNumber n text
IsBase (Name name) text = IsName name text

-- a base that can be spelled: a number below 100,000, or a name that some word spells
abbrev pub HasSpelling : Base → Type 0
HasSpelling (Number n) = n < 100000
HasSpelling (Name name) = (word : List ℕ) × IsName name word

-- an adjustment: nothing, or & or - and a number
abbrev pub IsAdjustment : Adjustment → List ℕ → Type 0
IsAdjustment Nothing text = text ≡ []
IsAdjustment (Plus n) text = Joined (IsTyped (codes "&")) (IsNumber n) text
IsAdjustment (Minus n) text = Joined (IsTyped (codes "-")) (IsNumber n) text

-- an expression: a base and its adjustment
abbrev pub IsExpression : Expression → List ℕ → Type 0
IsExpression expression text =
    Joined (IsBase expression.base) (IsAdjustment expression.adjustment) text

-- an index location, if there is one: &X1, &X2 or &X3
abbrev pub IsIndex : Option IndexLocation → List ℕ → Type 0
IsIndex None text = text ≡ []
IsIndex (Some First) text = IsTyped (codes "&X1") text
IsIndex (Some Second) text = IsTyped (codes "&X2") text
IsIndex (Some Third) text = IsTyped (codes "&X3") text

-- an address: an expression and its index location
abbrev pub IsAddress : Address → List ℕ → Type 0
IsAddress address text = Joined (IsExpression address.expression) (IsIndex address.index) text
