-- addresses of three characters
use Rattle.std.specs.Prelude.{ℕ, ◌+◌, ◌*◌, ◌/◌, ◌%◌, ◌<◌, ◌≤◌, ◌≡◌, ◌==◌, if◌then◌else◌, List, [], ◌∷◌, Option, Some, None, MatchOption, slice_index}
use Rattle.std.specs.Option.{option_map}
use Rattle.bcd.specs.Table.{digit_of, zone_of, zone_number}
use Rattle.bcd.specs.declared.Zone.{Zone}
use Rattle.bcd.specs.declared.Zone.TheVariants.{Bare, A, B, AB}
use Rattle.core_store.specs.Storage.{largest_size}
use Rattle.addresses.specs.Digits.{digit_under}
use Rattle.addresses.specs.declared.tagged.IndexLocation.{IndexLocation}
use Rattle.addresses.specs.declared.tagged.IndexLocation.TheVariants.{First, Second, Third}

-- a number greater than any address, for three characters that are no address
abbrev pub unreadable : ℕ
unreadable = 20000

-- the part of an address that one character gives: its digit and its zone, each times this weight,
-- if it has a digit
unfoldable pub weighed : ℕ → ℕ → ℕ → Option ℕ
weighed of_digit of_zone code =
    option_map (λ digit. of_digit * digit + of_zone * zone_number (zone_of code)) (digit_of code)

-- the sum of three numbers, if all are there
abbrev pub sum_of : Option ℕ → Option ℕ → Option ℕ → Option ℕ
sum_of (Some x) (Some y) (Some z) = Some (x + y + z)
sum_of (Some x) (Some y) None = None
sum_of (Some x) None z = None
sum_of None y z = None

-- the number that three address characters give: their digits, 1000 for each step of the first
-- one's zone and 4000 for each of the third's
unfoldable pub base : ℕ → ℕ → ℕ → Option ℕ
base first second third =
    sum_of (weighed 100 1000 first) (weighed 10 0 second) (weighed 1 4000 third)

-- the number is that of the address characters, or greater than any address if they are none
abbrev pub Spells : Option ℕ → ℕ → Type 0
Spells spelled number =
    MatchOption spelled (unreadable ≤ number) (λ n. (number ≡ n) × (n < largest_size))

-- the index location that the zone of an address's second character names, if it names one
abbrev pub location_of : Zone → Option IndexLocation
location_of Bare = None
location_of A = Some First
location_of B = Some Second
location_of AB = Some Third

-- an address: its base, and its index location if it names one
pub record Tagged : Type 0 where
  pub base : ℕ
  pub index : Option IndexLocation

-- the address of three characters, if they are one: its base and its index location
unfoldable pub tagged : ℕ → ℕ → ℕ → Option Tagged
tagged first second third =
    option_map (λ n. record { base = n; index = location_of (zone_of second) })
    (base first second third)

-- the address of the three characters of a list, if they are one
abbrev pub decoded : List ℕ → Option Tagged
decoded codes = tagged (slice_index codes 0) (slice_index codes 1) (slice_index codes 2)

-- the zone of this number, 0 to 3
abbrev pub zone_numbered : ℕ → Zone
zone_numbered n = if n == 0 then Bare else (if n == 1 then A else (if n == 2 then B else AB))

-- the three characters of an address below 16000 with this zone as its tag, the thousands modulo 4
-- in the first one's zone and the four thousands in the third one's
unfoldable pub written : Zone → ℕ → List ℕ
written tag n =
    digit_under (zone_numbered (n / 1000 % 4)) (n / 100 % 10)
    ∷ digit_under tag (n / 10 % 10)
    ∷ digit_under (zone_numbered (n / 4000)) (n % 10)
    ∷ []

-- the three characters of an address below 16000 without a tag
abbrev pub encoded : ℕ → List ℕ
encoded n = written Bare n
