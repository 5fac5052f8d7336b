-- the exit status after a run
use Rattle.machine.specs.declared.standings.StandingAt.{StandingAt}
use Rattle.machine.specs.declared.standings.StandingAt.TheVariants.{Running, Halted, Checked}
use Rattle.command_line.specs.declared.statuses.Status.{Status}
use Rattle.command_line.specs.declared.statuses.Status.TheVariants as status

-- the exit status after a run that ended with this standing: 0 at a halt, else 1
abbrev pub status_at : StandingAt → Status
status_at (Halted next) = status.Done
status_at Running = status.NotDone
status_at (Checked check at) = status.NotDone
