-- the literal or the constant that a text begins with, and how many characters it takes
use Rattle.std.specs.Prelude.{ℕ, ◌+◌, ◌-◌, ◌==◌, if◌then◌else◌, List, length, take, drop, slice_index, slice_set, Option, Some, None, option_map, codes}
use Rattle.bcd.specs.declared.Zone.{Zone}
use Rattle.bcd.specs.declared.Zone.TheVariants.{Bare, B, AB}
use Rattle.addresses.specs.Digits.{digit_under}
use Rattle.autocoder_statements.specs.Characters.{run, begins, digit_value}
use Rattle.autocoder_statements.specs.Expressions.{digit_run, signed_run, positive}
use Rattle.autocoder_statements.specs.declared.characters.Class.TheVariants.{Quoted}
use Rattle.autocoder_statements.specs.declared.constants.Constant.{Constant}
use Rattle.autocoder_statements.specs.declared.constants.Constant.TheVariants.{Characters, Blanks}

-- how many characters are between an @ at the beginning of a text and the next @ or the field's end
unfoldable pub quoted_run : List ℕ → ℕ
quoted_run text = if begins (codes "@") text then run Quoted (drop 1 text) else 0

-- one or more characters between two @, without these
unfoldable pub quoted_text : List ℕ → Option (List ℕ × ℕ)
quoted_text text =
    if quoted_run text == 0 then None
    else (if begins (codes "@") (drop (1 + quoted_run text) text)
    then Some (take (quoted_run text) (drop 1 text), 2 + quoted_run text)
    else None)

-- the zone that a sign puts over the last digit of a number
abbrev pub sign_zone : List ℕ → Zone
sign_zone text = if begins (codes "&") text then AB
    else (if begins (codes "-") text then B else Bare)

-- these digits with a zone over the last of them
unfoldable pub with_zone : Zone → List ℕ → List ℕ
with_zone zone digits = slice_set digits (length digits - 1)
    (digit_under zone (digit_value (slice_index digits (length digits - 1))))

-- a sign and one or more digits, as digits with the sign's zone over the last
unfoldable pub signed_digits : List ℕ → Option (List ℕ × ℕ)
signed_digits text =
    if signed_run text == 0 then None
    else Some (
      with_zone (sign_zone text) (take (signed_run text) (drop 1 text)),
      1 + signed_run text,
    )

-- a literal: characters between two @, or digits with a sign, in place of the address of a field
-- that holds them
unfoldable pub literal : List ℕ → Option (List ℕ × ℕ)
literal text = if begins (codes "@") text then quoted_text text else signed_digits text

-- a constant: a number of blanks, digits with a sign or without, or characters between two @
unfoldable pub constant : List ℕ → Option (Constant × ℕ)
constant text =
    if begins (codes "#") text
    then option_map (λ found. (Blanks found.0, 1 + found.1)) (positive (drop 1 text))
    else (if digit_run text == 0
    then option_map (λ found. (Characters found.0, found.1)) (literal text)
    else Some (Characters (take (digit_run text) text), digit_run text))

-- how many positions a constant takes
abbrev pub constant_length : Constant → ℕ
constant_length (Characters text) = length text
constant_length (Blanks n) = n
