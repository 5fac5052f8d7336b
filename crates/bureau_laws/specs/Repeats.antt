-- what may come between a submission and its repeat
use Rattle.std.specs.Prelude.{◌≡◌, true, false, None, Some, string_bytes}
use Rattle.core_store.specs.Storage.{positions_of}
use Rattle.units.specs.Switches.{seven}
use Rattle.office.specs.Jobs.{Job}
use Rattle.office.specs.Office.{Office, began_with, job_of, has_most_jobs}
use Rattle.office.specs.declared.commands.Command.{Command}
use Rattle.office.specs.declared.commands.Command.TheVariants.{Submit, Job as OnJob, Jobs, Queue}
use Rattle.office.specs.declared.commands.Contents.{Contents}

-- both commands are submissions of the same contents under the same name
abbrev pub IsRepeatOf : Command → Command → Type 0
IsRepeatOf (Submit customer number contents) (Submit again_customer again_number again_contents) =
    (string_bytes again_customer ≡ string_bytes customer) × (again_number ≡ number)
    × (again_contents ≡ contents)
IsRepeatOf first again = ⊥

-- the job has these contents: the same kind, size and deck, and the same switches at its first
-- start
pub record HasContents (contents : Contents) (job : Job) : Type 0 where
  pub kind : job.kind ≡ contents.kind
  pub size : positions_of job.size ≡ contents.size
  pub switches : began_with (seven contents.switches) job.stretches ≡ true
  pub deck : job.deck ≡ contents.deck

-- the submission's name was free before, and a job with other contents has it after
abbrev pub IsNumberTaken : Command → Office → Office → Type 0
IsNumberTaken (Submit customer number contents) before after =
    (job_of (string_bytes customer) number before ≡ None)
    × ((job : Job) × (job_of (string_bytes customer) number after ≡ Some job)
    × (HasContents contents job → ⊥))
IsNumberTaken (OnJob customer number c) before after = ⊥
IsNumberTaken (Jobs customer) before after = ⊥
IsNumberTaken Queue before after = ⊥

-- the submission's name is free after, and its customer could have one job more before and has the
-- most after
abbrev pub IsLastPlaceTaken : Command → Office → Office → Type 0
IsLastPlaceTaken (Submit customer number contents) before after =
    (job_of (string_bytes customer) number after ≡ None)
    × (has_most_jobs (string_bytes customer) before ≡ false)
    × (has_most_jobs (string_bytes customer) after ≡ true)
IsLastPlaceTaken (OnJob customer number c) before after = ⊥
IsLastPlaceTaken (Jobs customer) before after = ⊥
IsLastPlaceTaken Queue before after = ⊥
