-- literals and constants as they are spelled
use Rattle.std.specs.Prelude.{ℕ, ◌≡◌, ◌<◌, ◌⊎◌, not, true, List, [], ◌∷◌, ◌++◌, length, codes}
use Rattle.std.specs.List.{list_all}
use Rattle.bcd.specs.declared.Zone.{Zone}
use Rattle.bcd.specs.declared.Zone.TheVariants.{Bare, B, AB}
use Rattle.addresses.specs.Digits.{digit_under}
use Rattle.autocoder_statements.specs.declared.constants.Constant.{Constant}
use Rattle.autocoder_statements.specs.declared.constants.Constant.TheVariants.{Characters, Blanks}
use Rattle.autocoder_laws.specs.Texts.{characters, is_one_of, digits, Joined, IsTyped}
use Rattle.autocoder_laws.specs.Numbers.{IsPositive}

-- characters spelled between two @: one or more of them, none an @
pub record IsQuoted (held text : List ℕ) : Type 0 where
  pub some : 0 < length held
  pub others : list_all (λ code. not (is_one_of (codes "@") code)) held ≡ true
  pub said : text ≡ characters (codes "@") ++ held ++ characters (codes "@")

-- digits, at least one, spelled after a sign; the last digit is held with the zone of the sign
pub record IsSigned (sign : List ℕ) (zone : Zone) (held text : List ℕ) : Type 0 where
  pub front : List ℕ
  pub last : ℕ
  pub are_digits : list_all (is_one_of digits) front ≡ true
  pub is_digit : last < 10
  pub said : text ≡ characters sign ++ front ++ (digit_under Bare last ∷ [])
  pub holds : held ≡ front ++ (digit_under zone last ∷ [])

-- a literal: characters between two @, or a number of any length after & or -
abbrev pub IsLiteral : List ℕ → List ℕ → Type 0
IsLiteral held text = IsQuoted held text
    ⊎ (IsSigned (codes "&") AB held text ⊎ IsSigned (codes "-") B held text)

-- digits, at least one, held as they are spelled
pub record IsUnsigned (held text : List ℕ) : Type 0 where
  pub some : 0 < length held
  pub are_digits : list_all (is_one_of digits) held ≡ true
  pub said : text ≡ held

-- a constant: a literal or digits for the characters that it holds, or # and a number of blanks
abbrev pub IsConstant : Constant → List ℕ → Type 0
IsConstant (Characters held) text = IsLiteral held text ⊎ IsUnsigned held text
IsConstant (Blanks n) text = Joined (IsTyped (codes "#")) (IsPositive n) text
