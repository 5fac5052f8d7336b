-- the position that an address names in a storage
use Rattle.std.specs.Prelude.{ℕ, ◌+◌, ◌-◌, ◌%◌, nat_lt, length, Option, Some, None, Result, Ok}
use Rattle.core_store.specs.Storage.{Storage, code_at}
use Rattle.core_store.specs.Checked.{require, find_or, and_then}
use Rattle.core_store.specs.declared.checks.Check.{Check}
use Rattle.core_store.specs.declared.checks.Check.TheVariants.{Address}
use Rattle.addresses.specs.Addresses.{Tagged, base, tagged}
use Rattle.addresses.specs.declared.tagged.IndexLocation.{IndexLocation}
use Rattle.addresses.specs.declared.tagged.IndexLocation.TheVariants.{First, Second, Third}

-- the units position of an index location: 89, 94 or 99
abbrev pub units_position : IndexLocation → ℕ
units_position First = 89
units_position Second = 94
units_position Third = 99

-- the number that the three address characters up to a position give, whatever their tag
unfoldable pub base_ending : Storage → ℕ → Option ℕ
base_ending s p = base (code_at s (p - 2)) (code_at s (p - 1)) (code_at s p)

-- a base with the contents of an index location added modulo 16000, or the check if the location is
-- not in storage or has no address
unfoldable pub with_index : Storage → ℕ → Option IndexLocation → Result ℕ Check
with_index s n None = Ok n
with_index s n (Some location) =
    require (nat_lt (units_position location) (length s)) Address
    (find_or (base_ending s (units_position location)) Address (λ index. Ok ((n + index) % 16000)))

-- the effective address: the base, with the contents of its index location added if it names one
abbrev pub effective : Storage → Tagged → Result ℕ Check
effective s address = with_index s address.base address.index

-- the position in storage that an address names, or the check
abbrev pub position_of : Storage → Tagged → Result ℕ Check
position_of s address =
    and_then (effective s address) (λ position.
    require (nat_lt position (length s)) Address (Ok position))

-- the position in storage that three address characters name, or the check
unfoldable pub operand : Storage → ℕ → ℕ → ℕ → Result ℕ Check
operand s first second third =
    find_or (tagged first second third) Address (λ address. position_of s address)
