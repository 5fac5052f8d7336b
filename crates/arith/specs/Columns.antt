-- numbers by the digits of their columns
use Rattle.std.specs.Prelude.{Bool, ℕ, ◌+◌, ◌*◌, ◌^◌, ◌==◌, List, [], ◌∷◌, length, if◌then◌else◌}
use Rattle.bcd.specs.Table.{zone_number}
use Rattle.bcd.specs.declared.Zone.{Zone}
use Rattle.bcd.specs.declared.Zone.TheVariants.{Bare}
use Rattle.addresses.specs.Digits.{digit_under}
use Rattle.arith.specs.Decimal.{sign_zone}

-- the digit of a character's numeric part: part 10 is the digit 0
abbrev pub digit_of_part : ℕ → ℕ
digit_of_part part = if part == 10 then 0 else part

-- the number with these digits, the highest first, where a digit may be more than 9
unfoldable pub number : List ℕ → ℕ
number [] = 0
number (digit ∷ digits) = digit * 10 ^ length digits + number digits

-- the characters of these digits, with this zone over the units position alone
unfoldable pub characters : Zone → List ℕ → List ℕ
characters zone [] = []
characters zone (digit ∷ digits) =
    digit_under (if length digits == 0 then zone else Bare) digit ∷ characters zone digits

-- the bits of a sign in a character
abbrev pub sign_bits : Bool → ℕ
sign_bits minus = 16 * zone_number (sign_zone minus)
