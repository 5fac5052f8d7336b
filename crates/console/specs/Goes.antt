-- how far a machine goes
use Rattle.std.specs.Prelude.{ℕ, zero, suc, ◌≡◌, ◌+◌, ◌-◌, ◌<◌, ◌≤◌, ◌==◌, ◌&&◌, ◌||◌, ◌⊎◌, not, Bool, true, false, if◌then◌else◌, List, Option, Some, None}
use Rattle.std.specs.List.{list_any}
use Rattle.core_store.specs.Storage.{Storage, cell_at}
use Rattle.machine.specs.Run.{State, after, is_running, step}

-- the contents of the watched position; past the end, or where none is, a blank without a mark
abbrev pub watched_cell : Option ℕ → Storage → ℕ × Bool
watched_cell None s = (0, false)
watched_cell (Some position) s = cell_at s position

-- whether one of two has a word mark and the other has none
abbrev pub marks_differ : Bool → Bool → Bool
marks_differ true marked = not marked
marks_differ false marked = marked

-- whether the contents of a position are others: the character or the word mark
abbrev pub cells_differ : ℕ × Bool → ℕ × Bool → Bool
cells_differ before now = not (before.0 == now.0) || marks_differ before.1 now.1

-- whether a machine stands at one of the stops: it is running, and register I is the stop's address
abbrev pub stands_at : List ℕ → State → Bool
stands_at stops m = is_running m.standing && list_any (λ stop. stop == m.works.registers.i) stops

-- whether the watched position has changed since it had these contents
abbrev pub has_changed : Option ℕ → ℕ × Bool → State → Bool
has_changed watched before m = cells_differ before (watched_cell watched m.works.storage)

-- whether a machine goes on whose watched position had these contents before: it is running, the
-- position is as it was, and it stands at no stop
abbrev pub goes_on_from : List ℕ → Option ℕ → ℕ × Bool → State → Bool
goes_on_from stops watched seen m =
    is_running m.standing && not (has_changed watched seen m) && not (stands_at stops m)

-- whether a machine goes on that has come from one to this one
abbrev pub goes_on : List ℕ → Option ℕ → State → State → Bool
goes_on stops watched before m =
    goes_on_from stops watched (watched_cell watched before.works.storage) m

-- how many instructions a machine attempts that goes on for so many at most
unfoldable pub went : List ℕ → Option ℕ → State → ℕ → ℕ
went stops watched m zero = 0
went stops watched m (suc limit) = if is_running m.standing
    then 1 + (if goes_on stops watched m (step m) then went stops watched (step m) limit else 0)
    else 0

-- a machine that goes on for so many instructions at most stands after n of them: it ran and went
-- on after each one before the last; and these are all, or it does not run, or it does not go on
-- after the last
pub record IsWent (stops : List ℕ) (watched : Option ℕ) (m : State) (limit n : ℕ) : Type 0 where
  pub within : n ≤ limit
  pub running : (k : ℕ) → k < n → is_running (after m k).standing ≡ true
  pub none_before : (k : ℕ) → k + 1 < n →
      goes_on stops watched (after m k) (after m (k + 1)) ≡ true
  pub reached : (n ≡ limit) ⊎ (is_running (after m n).standing ≡ false)
      ⊎ ((0 < n) × (goes_on stops watched (after m (n - 1)) (after m n) ≡ false))
