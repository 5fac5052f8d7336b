-- what the program does by its arguments
use Rattle.std.specs.Prelude.{◌≡◌, ◌⊎◌, ℕ, List, codes}
use Rattle.std.specs.Io.KnownBytes.{Appends, Keeps}
use Rattle.local_runs.specs.Assembling.{Assembles}
use Rattle.local_runs.specs.Runs.{Tells}
use Rattle.command_line.specs.Tasks.{IsMistake, Wants}
use Rattle.command_line.specs.Mistakes.{mistake_message, mistake_status}
use Rattle.command_line.specs.Printed.{IsTextShown, version_text}
use Rattle.command_line.specs.declared.statuses.Status.{Status}
use Rattle.command_line.specs.declared.mistakes.Mistake.{Mistake}
use Rattle.command_line.specs.declared.tasks.Task.{Task}
use Rattle.command_line.specs.declared.tasks.Task.TheVariants as task
use Rattle.local_runs.specs.declared.Assembled.{Assembled}
use Rattle.local_runs.specs.Put.{IsPut}
use Rattle.command_line.specs.Asked.{page_of}
use Rattle.bureau.specs.Migrating.{HasMigrated}
use Rattle.bureau.specs.Work.{HasApplied}
use Rattle.bureau_work.specs.Outcomes.{HasShown, status_of}
use Rattle.bureau_work.specs.Work.{Bytes}
use Rattle.bureau_work.specs.declared.outcomes.Outcome.{Outcome}

-- the assembly of a text ended, or a fault kept it from being read, and its bytes for OUT were
-- written or that failed
pub record HasAssembled (status : Status) (output_old output_new errors_old errors_new : Bytes)
    : Type 0 where
  pub text : List ℕ
  pub answer : Assembled
  pub between : Bytes
  pub assembles : Assembles text answer output_old output_new errors_old between
  pub put : IsPut answer.status status between errors_new

-- a subcommand for a bureau's file had this exit status, and its outcome was printed
pub record HasEnded (status : Status) (errors_old errors_new : Bytes) : Type 0 where
  pub outcome : Outcome
  pub status_is : status ≡ status_of outcome
  pub shown : HasShown outcome errors_old errors_new

-- a script was applied to a bureau in a file with this exit status: the lines of its replies are on
-- the output, and its outcome was printed
pub record HasEndedScript (status : Status) (output_old output_new errors_old errors_new : Bytes)
    : Type 0 where
  pub outcome : Outcome
  pub applied : HasApplied outcome output_old output_new
  pub status_is : status ≡ status_of outcome
  pub shown : HasShown outcome errors_old errors_new

-- a bureau's file was migrated with this exit status: the line for its version is on the output,
-- and the outcome was printed
pub record HasEndedMigration (status : Status)
    (output_old output_new errors_old errors_new : Bytes) : Type 0 where
  pub outcome : Outcome
  pub migrated : HasMigrated outcome output_old output_new
  pub status_is : status ≡ status_of outcome
  pub shown : HasShown outcome errors_old errors_new

-- the task was done, with this exit status and with what it prints
abbrev pub HasDone : Task → Status → Bytes → Bytes → Bytes → Bytes → Type 0
HasDone (task.Help subcommand) status output_old output_new errors_old errors_new =
    IsTextShown (page_of subcommand) status output_old output_new errors_old errors_new
HasDone task.Version status output_old output_new errors_old errors_new =
    IsTextShown version_text status output_old output_new errors_old errors_new
HasDone (task.Run deck size switches) status output_old output_new errors_old errors_new =
    (text : List ℕ) × Tells text size switches status output_old output_new errors_old errors_new
HasDone (task.Assemble source out) status output_old output_new errors_old errors_new =
    HasAssembled status output_old output_new errors_old errors_new
HasDone (task.Apply file script) status output_old output_new errors_old errors_new =
    HasEndedScript status output_old output_new errors_old errors_new
HasDone (task.Migrate file) status output_old output_new errors_old errors_new =
    HasEndedMigration status output_old output_new errors_old errors_new
HasDone other status output_old output_new errors_old errors_new =
    Keeps output_old output_new × HasEnded status errors_old errors_new

-- the task that the arguments ask for was done
pub record HasDoneTask (arguments : List (List ℕ)) (status : Status)
    (output_old output_new errors_old errors_new : Bytes) : Type 0 where
  pub it : Task
  pub asked : Wants arguments it
  pub done : HasDone it status output_old output_new errors_old errors_new

-- what is wrong with the arguments was printed
pub record HasToldMistake (arguments : List (List ℕ)) (status : Status)
    (output_old output_new errors_old errors_new : Bytes) : Type 0 where
  pub mistake : Mistake
  pub is : IsMistake arguments mistake
  pub status_is : status ≡ mistake_status mistake
  pub kept : Keeps output_old output_new
  pub told : Appends errors_old errors_new (mistake_message (codes "bureau") mistake)

-- the task that the arguments ask for was done, or what is wrong with them was printed
abbrev pub HasAnswered : List (List ℕ) → Status → Bytes → Bytes → Bytes → Bytes → Type 0
HasAnswered arguments status output_old output_new errors_old errors_new =
    HasDoneTask arguments status output_old output_new errors_old errors_new
    ⊎ HasToldMistake arguments status output_old output_new errors_old errors_new
