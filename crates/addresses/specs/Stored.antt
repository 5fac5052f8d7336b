-- addresses written to storage
use Rattle.std.specs.Prelude.{ℕ, ◌-◌, ◌%◌, nat_lt, nat_le, length, Bool, ◌&&◌, Result, Ok}
use Rattle.core_store.specs.Storage.{Storage, put_codes}
use Rattle.core_store.specs.Checked.{require}
use Rattle.core_store.specs.declared.checks.Check.{Check}
use Rattle.core_store.specs.declared.checks.Check.TheVariants.{Address}
use Rattle.addresses.specs.Addresses.{encoded}

-- whether three characters can end at a position of storage
abbrev pub has_three : Storage → ℕ → Bool
has_three s p = nat_lt p (length s) && nat_le 2 p

-- the storage with a number modulo 16000 written as an address that ends at a position; word marks
-- stay
unfoldable pub address_stored : Storage → ℕ → ℕ → Result Storage Check
address_stored s p n =
    require (has_three s p) Address (Ok (put_codes s (p - 2) (encoded (n % 16000))))
