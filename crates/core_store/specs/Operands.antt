-- the positions of operands, and the registers after them
use Rattle.std.specs.Prelude.{ℕ, ◌+◌, ◌-◌, ◌%◌, ◌<◌, ◌≤◌, nat_lt, nat_le, min, List, length, Bool, true, false, ◌&&◌, if◌then◌else◌, Option, Some, None}
use Rattle.std.specs.Option.{option_map}
use Rattle.bcd.specs.declared.Zone.{Zone}
use Rattle.bcd.specs.declared.Zone.TheVariants.{Bare, A, B, AB}
use Rattle.core_store.specs.Storage.{Storage, field_length, codes_ending, largest_size}
use Rattle.core_store.specs.declared.registers.Registers.{Registers}

-- a register lowered by so many positions, modulo 16000
abbrev pub lowered : ℕ → ℕ → ℕ
lowered register count = (register + largest_size - count) % largest_size

-- the registers with A and B each lowered by so many positions
abbrev pub lowered_by : Registers → ℕ → ℕ → Registers
lowered_by r a_count b_count = record r { a = lowered r.a a_count; b = lowered r.b b_count }

-- whether both are positions of storage
abbrev pub are_inside : Storage → ℕ → ℕ → Bool
are_inside s a b = nat_lt a (length s) && nat_lt b (length s)

-- whether a and b are positions of storage, with more than sixteen characters up to each
abbrev pub are_clear : Storage → ℕ → ℕ → Bool
are_clear s a b = (are_inside s a b && nat_le 16 a) && nat_le 16 b

-- a and b are positions of storage, and position 0 is clear of the sixteen characters that end at
-- each
pub record AreClear (s : Storage) (a b : ℕ) : Type 0 where
  pub a_in : a < length s
  pub b_in : b < length s
  pub a_below : a < largest_size
  pub b_below : b < largest_size
  pub a_room : 16 ≤ a
  pub b_room : 16 ≤ b

-- whether characters read at a, from right to left, are written over by those put at b before they
-- are read
abbrev pub is_overlapping : ℕ → ℕ → ℕ → Bool
is_overlapping a b count = nat_lt b a && nat_lt (a - b) count

-- whether there is a number and it is at most this limit
abbrev pub is_within : Option ℕ → ℕ → Bool
is_within (Some count) limit = nat_le count limit
is_within None limit = false

-- the smaller of two counts, or the one that is there
abbrev pub least_of : Option ℕ → Option ℕ → Option ℕ
least_of (Some m) (Some n) = Some (min m n)
least_of (Some m) None = Some m
least_of None found = found

-- a count, if there is one and it is at most this limit
abbrev pub up_to : ℕ → Option ℕ → Option ℕ
up_to limit found = if is_within found limit then found else None

-- how many characters two fields share: counted from a and from b side by side, up to the first
-- word mark in either; none if one of the two fields passes position 0 before
unfoldable pub shared_length : Storage → ℕ → ℕ → Option ℕ
shared_length s a b = up_to (min a b + 1) (least_of (field_length s a) (field_length s b))

-- a length, or 17 if it is more than 16 or there is none
abbrev pub sought_near : Option ℕ → ℕ
sought_near (Some count) = min 17 count
sought_near None = 17

-- how many characters the field at p has, or 17 if it has more than 16 or there is no field
unfoldable pub near_length : Storage → ℕ → ℕ
near_length s p = sought_near (field_length s p)

-- how many characters are read at p if at most `limit` are required: the field's, or `limit` if it
-- is longer or there is none, unless that passes position 0
unfoldable pub cut_length : Storage → ℕ → ℕ → Option ℕ
cut_length s p limit =
    if is_within (field_length s p) limit then field_length s p
    else (if nat_le limit (p + 1) then Some limit else None)

-- the characters that are read at p if at most `limit` are required
unfoldable pub cut : Storage → ℕ → ℕ → Option (List ℕ)
cut s p limit = option_map (codes_ending s p) (cut_length s p limit)

-- whether a zone in the units position makes a field minus: B alone does
abbrev pub is_minus_zone : Zone → Bool
is_minus_zone Bare = false
is_minus_zone A = false
is_minus_zone B = true
is_minus_zone AB = false
