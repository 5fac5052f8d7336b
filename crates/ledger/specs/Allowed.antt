-- whether a command on a job is refused, found without the job's machine
use Rattle.std.specs.Prelude.{◌≡◌, Some, None, Result, Ok, Err}
use Rattle.office.specs.Jobs.{Job}
use Rattle.office.specs.Kept.{kept_of, summary_of, job_refusal}
use Rattle.office.specs.Office.{Office}
use Rattle.office.specs.declared.commands.JobCommand.{JobCommand}
use Rattle.office.specs.declared.refusals.Refusal.{Refusal}
use Rattle.office.specs.declared.replies.Reply.TheVariants as reply
use Rattle.office.specs.declared.summaries.Summary.{Summary}
use Rattle.texts.specs.declared.names.JobName.{JobName}
use Rattle.ledger.specs.Saving.{job_in}
use Rattle.ledger.specs.Serving.{with_commanded}

-- the summary of the job of this name, for which the command is not refused; or the reason why it
-- is refused, and then it changes nothing
abbrev pub IsAllowed : JobName → JobCommand → Office → Result Summary Refusal → Type 0
IsAllowed name c office (Ok summary) =
    (job : Job) × (job_in name office ≡ Some job) × (summary ≡ summary_of (kept_of job))
    × (job_refusal c summary ≡ None)
IsAllowed name c office (Err reason) =
    with_commanded name c office ≡ (office, reply.Refused reason)
