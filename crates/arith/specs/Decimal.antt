-- decimal numbers as lists of characters, the highest digit first
use Rattle.std.specs.Prelude.{◌≡◌, ◌<◌, ◌≤◌, ℕ, zero, suc, ◌+◌, ◌-◌, ◌*◌, ◌/◌, ◌%◌, ◌^◌, ◌==◌, List, [], ◌∷◌, length, Bool, true, ◌&&◌, if◌then◌else◌, unwrap_or, is_some, slice_index}
use Rattle.bcd.specs.Table.{digit_of, zone_of}
use Rattle.bcd.specs.declared.Zone.{Zone}
use Rattle.bcd.specs.declared.Zone.TheVariants.{Bare, B, AB}
use Rattle.core_store.specs.Operands.{is_minus_zone}
use Rattle.addresses.specs.Digits.{digit_under}

-- the value of a character's digit, 0 if it has none
abbrev pub digit_value : ℕ → ℕ
digit_value code = unwrap_or (digit_of code) 0

-- whether each character has a digit
unfoldable pub is_number : List ℕ → Bool
is_number [] = true
is_number (code ∷ codes) = is_some (digit_of code) && is_number codes

-- the number in these characters by their digits, whatever their zones
unfoldable pub value : List ℕ → ℕ
value [] = 0
value (code ∷ codes) = digit_value code * 10 ^ length codes + value codes

-- the units character of a field, its last
abbrev pub units : List ℕ → ℕ
units codes = slice_index codes (length codes - 1)

-- whether a field is minus: the zone of its units position is B alone
abbrev pub is_minus : List ℕ → Bool
is_minus codes = is_minus_zone (zone_of (units codes))

-- the zone for the sign of a result: B for minus, A and B for plus
abbrev pub sign_zone : Bool → Zone
sign_zone minus = if minus then B else AB

-- the lowest k digits of the number t as characters, with this zone over the units position alone
unfoldable pub spelled : ℕ → ℕ → Zone → List ℕ
spelled t zero zone = []
spelled t (suc k) zone =
    digit_under (if k == 0 then zone else Bare) (t / 10 ^ k % 10) ∷ spelled t k zone

-- these characters are the lowest k digits of the number t, with this zone over the units position
-- alone
pub record IsSpelled (t k : ℕ) (zone : Zone) (codes : List ℕ) : Type 0 where
  pub long : length codes ≡ k
  pub number : is_number codes ≡ true
  pub value : value codes ≡ t % 10 ^ k
  pub sign : 1 ≤ k → zone_of (units codes) ≡ zone
  pub bare : (i : ℕ) → i + 1 < k → zone_of (slice_index codes i) ≡ Bare
