-- the outcomes of the subcommands on a bureau's file
use Rattle.std.specs.Prelude.{Result, Ok, Err}
use Rattle.sqlite_disk.specs.declared.Disk.{Ghosts}
use Rattle.ledger_files.specs.Unfinished.{fault_in}
use Rattle.ledger_files.specs.declared.closed.Closed.{Closed}
use Rattle.ledger_files.specs.declared.unfinished.Unfinished.{Unfinished}
use Rattle.ledger_tables.specs.declared.openings.OpenFault.{OpenFault}
use Rattle.bureau_work.specs.Outcomes.{closing_with}
use Rattle.bureau_work.specs.declared.outcomes.Outcome.{Outcome}
use Rattle.bureau_work.specs.declared.outcomes.Outcome.TheVariants as outcome

-- the outcome of a subcommand, by that of its work and by what came of the bureau's file
abbrev pub with_file : {D : Type 0} {g : Ghosts D} → Result (Closed D g) (Unfinished D g)
    → Outcome → Outcome
with_file (Ok closed) outcome = outcome
with_file (Err left) outcome = closing_with (fault_in left) outcome

-- the outcome where a file was made, or not, for this fault
abbrev pub made_with : {D : Type 0} {g : Ghosts D} → Result (Closed D g) OpenFault → Outcome
made_with (Ok closed) = outcome.Done
made_with (Err fault) = outcome.Fault fault
