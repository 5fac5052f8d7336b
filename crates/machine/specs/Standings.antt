-- the standing of a machine with its address, and the words for it
use Rattle.std.specs.Prelude.{ℕ, List, ◌++◌, Bool, true, false, codes, decimal}
use Rattle.core_store.specs.Checks.{check_name}
use Rattle.machine.specs.Run.{State}
use Rattle.machine.specs.declared.standings.Standing.{Standing}
use Rattle.machine.specs.declared.standings.Standing.TheVariants as standing
use Rattle.machine.specs.declared.standings.StandingAt.{StandingAt}
use Rattle.machine.specs.declared.standings.StandingAt.TheVariants.{Running, Halted, Checked}

-- the standing of a machine whose register I holds this address: running, at a halt with the
-- address of the next instruction, or at a check with the address of the instruction that met it
abbrev pub standing_at : Standing → ℕ → StandingAt
standing_at standing.Running i = Running
standing_at standing.Halted i = Halted i
standing_at (standing.Checked check) i = Checked check i

-- the standing of a machine in this state
abbrev pub standing_of : State → StandingAt
standing_of m = standing_at m.standing m.works.registers.i

-- whether a machine with this standing is running
abbrev pub goes_on : StandingAt → Bool
goes_on Running = true
goes_on (Halted next) = false
goes_on (Checked check at) = false

-- whether a machine with this standing is at a halt, and so may be started
abbrev pub is_at_halt : StandingAt → Bool
is_at_halt Running = false
is_at_halt (Halted next) = true
is_at_halt (Checked check at) = false

-- the standing of a machine, as reports and replies print it
abbrev pub standing_words : StandingAt → List ℕ
standing_words Running = codes "running"
standing_words (Halted next) = codes "halted next " ++ decimal next
standing_words (Checked check at) = codes "check " ++ check_name check ++ codes " at " ++ decimal at
