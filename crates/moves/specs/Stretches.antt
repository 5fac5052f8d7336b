-- stretches of characters, by the position at which they end and how many they are
use Rattle.std.specs.Prelude.{ℕ, ◌+◌, ◌<◌, ◌≤◌, length}
use Rattle.core_store.specs.Storage.{Storage, largest_size}

-- so many characters of the storage end at a position
pub record IsIn (s : Storage) (p count : ℕ) : Type 0 where
  pub within : p < length s
  pub from : count ≤ p + 1
  pub below : p < largest_size

-- so many characters of the storage end at a, and so many at b
pub record AreIn (s : Storage) (a b a_count b_count : ℕ) : Type 0 where
  pub a_in : a < length s
  pub b_in : b < length s
  pub a_from : a_count ≤ a + 1
  pub b_from : b_count ≤ b + 1

-- sixteen characters of the storage end at a and at b, and so many of them are meant
pub record AreNear (s : Storage) (a b count : ℕ) : Type 0 where
  pub a_in : a < length s
  pub b_in : b < length s
  pub a_room : 15 ≤ a
  pub b_room : 15 ≤ b
  pub most : count ≤ 16
