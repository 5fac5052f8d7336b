-- the office after a command, by the name of the command's job
use Rattle.std.specs.Prelude.{◌≡◌, ◌⊎◌, ℕ, true, Some, None, string_bytes}
use Rattle.office.specs.Jobs.{Job}
use Rattle.office.specs.Kept.{is_query}
use Rattle.office.specs.New.{job_or_refusal}
use Rattle.office.specs.Office.{Office, added, submitted, submitted_as, commanded, attempted_of, job_of}
use Rattle.office.specs.declared.commands.Command.{Command}
use Rattle.office.specs.declared.commands.Command.TheVariants.{Submit, Job as OnJob, Jobs, Queue}
use Rattle.office.specs.declared.commands.Contents.{Contents}
use Rattle.office.specs.declared.commands.JobCommand.{JobCommand}
use Rattle.office.specs.declared.replies.Reply.{Reply}
use Rattle.texts.specs.declared.names.JobName.{JobName}
use Rattle.ledger.specs.Listed.{AreListable}
use Rattle.ledger.specs.Saving.{job_in}

-- the office after a new job is added, and the reply: it is refused if its customer has as many
-- as one may have
abbrev pub with_added : JobName → Job → Office → Office × Reply
with_added name job office = added name.customer.now name.number office job

-- the office after a submission under a free name, and the reply
abbrev pub with_taken : JobName → Contents → Office → Office × Reply
with_taken name contents office =
    submitted_as name.customer.now name.number office (job_or_refusal contents)

-- the office after a submission, and the reply
abbrev pub with_submitted : JobName → Contents → Office → Office × Reply
with_submitted name contents office =
    submitted name.customer.now name.number contents office (job_in name office)

-- the office after a command on a job, and the reply
abbrev pub with_commanded : JobName → JobCommand → Office → Office × Reply
with_commanded name c office =
    commanded name.customer.now name.number c office (job_in name office)

-- how many instructions a command on the job of this name attempts
abbrev pub attempted_as : JobName → JobCommand → Office → ℕ
attempted_as name c office = attempted_of c (job_in name office)

-- the command writes nothing: a query of a job, a job that is handed in again, a command on a job
-- that is not there, or a list of jobs whose names can be read
abbrev pub OnlyReads : Command → Office → Type 0
OnlyReads (Submit customer number contents) office =
    (job : Job) × (job_of (string_bytes customer) number office ≡ Some job)
OnlyReads (OnJob customer number c) office =
    (is_query c ≡ true) ⊎ (job_of (string_bytes customer) number office ≡ None)
OnlyReads (Jobs customer) office = AreListable office
OnlyReads Queue office = AreListable office
