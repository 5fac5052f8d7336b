-- What is told of a script, and of a migration.
use Rattle.std.proofs.Common.{◌≡◌, Result, Ok, Err}
use Rattle.std.specs.Prelude.{IfOk}
use Rattle.command_line.specs.declared.statuses.Status.{Status}
use Rattle.bureau.specs.Migrating.{HasMigrated}
use Rattle.bureau_work.specs.Outcomes.{HasShown, status_of}
use Rattle.bureau_work.specs.Work.{Bytes}
use Rattle.bureau_work.specs.declared.outcomes.Outcome.{Outcome}
use Rattle.bureau.specs.Work.{HasApplied}
use Rattle.bureau.specs.Answers.{HasEndedMigration, HasEndedScript}

pub ended_script : {X : Type 0} (result : Result Status X) (outcome : Outcome) (output_old output_new errors_old errors_new : Bytes) → HasApplied outcome output_old output_new
    → IfOk result (λ status. (status ≡ status_of outcome) × HasShown outcome errors_old errors_new) → IfOk result (λ status. HasEndedScript status output_old output_new errors_old errors_new)
ended_script (Ok status) outcome output_old output_new errors_old errors_new applied shown = record { outcome = outcome; applied = applied; status_is = shown.0; shown = shown.1 }
ended_script (Err error) outcome output_old output_new errors_old errors_new applied shown = tt

pub ended_migration : {X : Type 0} (result : Result Status X) (outcome : Outcome) (output_old output_new errors_old errors_new : Bytes) → HasMigrated outcome output_old output_new
    → IfOk result (λ status. (status ≡ status_of outcome) × HasShown outcome errors_old errors_new) → IfOk result (λ status. HasEndedMigration status output_old output_new errors_old errors_new)
ended_migration (Ok status) outcome output_old output_new errors_old errors_new migrated shown = record { outcome = outcome; migrated = migrated; status_is = shown.0; shown = shown.1 }
ended_migration (Err error) outcome output_old output_new errors_old errors_new migrated shown = tt
