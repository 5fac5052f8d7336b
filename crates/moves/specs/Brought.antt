-- lanes brought from the right
use Rattle.std.specs.Prelude.{ℕ, ◌≡◌, ◌<◌, ◌+◌, nat_lt, slice_index, List, length, if◌then◌else◌}

-- each lane is the one of the amount that is as many lanes to its right as its number says, or zero
-- if that is past the amount or the number is not below the limit
pub record IsBrought (limit : ℕ) (amount far lanes : List ℕ) : Type 0 where
  pub sixteen : length lanes ≡ 16
  pub each : (lane : ℕ) → lane < 16 →
      slice_index lanes lane
      ≡ (if nat_lt (slice_index far lane) limit then slice_index amount (lane + slice_index far lane)
      else 0)
