-- by how much the meter rises over many commands
use Rattle.std.specs.Prelude.{◌≡◌, ℕ, ◌+◌, ◌≤◌, List, [], ◌∷◌}
use Rattle.machine.specs.Run.{risen}
use Rattle.office.specs.Office.{Office, take, attempted}
use Rattle.office.specs.declared.commands.Command.{Command}

-- the meter has risen from the old count to the new by `fewest` ticks at least and `limit` at most
pub record RisenWithin (fewest limit old new : ℕ) : Type 0 where
  pub ticks : ℕ
  pub least : fewest ≤ ticks
  pub most : ticks ≤ limit
  pub is : new ≡ risen old ticks

-- how many instructions a list of commands attempts together
unfoldable pub attempted_by_all : List Command → Office → ℕ
attempted_by_all [] office = 0
attempted_by_all (command ∷ commands) office =
    attempted command office + attempted_by_all commands (take command office).0
