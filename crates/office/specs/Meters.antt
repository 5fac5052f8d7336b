-- by how much the meter has risen
use Rattle.std.specs.Prelude.{◌≡◌, ◌≤◌, ℕ}
use Rattle.machine.specs.Run.{risen}

-- the meter has risen from the old count to the new by at most so many ticks
pub record RisenAtMost (limit old new : ℕ) : Type 0 where
  pub ticks : ℕ
  pub most : ticks ≤ limit
  pub is : new ≡ risen old ticks
