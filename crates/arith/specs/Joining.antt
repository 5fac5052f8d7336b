-- the digits and totals on the way to a sum
use Rattle.std.specs.Prelude.{ℕ, ◌+◌, ◌-◌, ◌^◌, nat_lt, if◌then◌else◌}
use Rattle.core_store.specs.Storage.{Storage, code_at, codes_ending}
use Rattle.arith.specs.Decimal.{value, digit_value}
use Rattle.arith.specs.declared.joining.Joined.{Joined}
use Rattle.arith.specs.declared.joining.Joined.TheVariants.{Sum, Difference, Complement, Copy}

-- the amount at one digit place of two digits that are added or subtracted
abbrev pub amount_of : Joined → ℕ → ℕ → ℕ
amount_of Sum a b = a + b
amount_of Difference a b = 9 - a + b
amount_of Complement a b = 9 - b
amount_of Copy a b = a

-- the total of two numbers that are added or subtracted, where a complement is to 10 ^ k
abbrev pub total_of : Joined → ℕ → ℕ → ℕ → ℕ
total_of Sum k u v = u + v
total_of Difference k u v = 10 ^ k + v - u
total_of Complement k u v = 10 ^ k - v
total_of Copy k u v = u

-- the total of the a_count digits that end at position a and the b_count digits that end at
-- position b
unfoldable pub joined_total : Joined → Storage → ℕ → ℕ → ℕ → ℕ → ℕ
joined_total joined s a a_count b b_count =
    total_of joined b_count (value (codes_ending s a a_count)) (value (codes_ending s b b_count))

-- the digit at this place from the right of the count digits that end at p, 0 to the left of them
abbrev pub digit_from : Storage → ℕ → ℕ → ℕ → ℕ
digit_from s p count place = if nat_lt place count then digit_value (code_at s (p - place)) else 0
