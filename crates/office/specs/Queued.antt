-- a row of the queue
use Rattle.std.specs.Prelude.{ℕ, List}

-- a job in the queue: its customer and number
pub record QueuedJob : Type 0 where
  pub customer : List ℕ
  pub number : ℕ
