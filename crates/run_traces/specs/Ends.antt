-- how far a run goes
use Rattle.std.specs.Prelude.{ℕ, zero, suc, ◌≡◌, ◌+◌, ◌<◌, ◌≤◌, ◌==◌, ◌&&◌, ◌⊎◌, not, Bool, true, false, if◌then◌else◌, Option, Some, None}
use Rattle.machine.specs.Run.{State, after, attempts, is_running, most_instructions, step}

-- whether a machine stands at a stop: it is running, and register I is the stop's address
abbrev pub stands_at : Option ℕ → State → Bool
stands_at None m = false
stands_at (Some address) m = is_running m.standing && m.works.registers.i == address

-- whether a machine goes on: it is running, and does not stand at the stop
abbrev pub goes_on : Option ℕ → State → Bool
goes_on stop m = is_running m.standing && not (stands_at stop m)

-- how many attempts a machine makes of at most so many, before it stops or comes to the stop
unfoldable pub end_of : State → ℕ → Option ℕ → ℕ
end_of m zero stop = 0
end_of m (suc limit) stop = if goes_on stop m then 1 + end_of (step m) limit stop else 0

-- a run of at most so many attempts ends after n of them: these are all, or the machine stands at
-- the stop; and it did so after no fewer
pub record IsEnd (m : State) (limit : ℕ) (stop : Option ℕ) (n : ℕ) : Type 0 where
  pub within : n ≤ attempts m limit
  pub none_before : (k : ℕ) → k < n → stands_at stop (after m k) ≡ false
  pub reached : (n ≡ attempts m limit) ⊎ (stands_at stop (after m n) ≡ true)

-- a machine at the end of its run
abbrev pub ended : State → Option ℕ → State
ended m stop = after m (end_of m most_instructions stop)
