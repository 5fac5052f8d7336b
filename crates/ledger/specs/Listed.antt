-- what is read from the tables for the lists of jobs
use Rattle.std.specs.Prelude.{◌≡◌, ◌<◌, ◌^◌, ℕ, List, [], ◌∷◌, ◌++◌, map, Some, IsUtf8}
use Rattle.std.specs.List.{AllByRecursion}
use Rattle.office.specs.Office.{Entry, Office, free_jobs, job_of, job_line, jobs_listed, queued_job, queue_listed}
use Rattle.office.specs.Queued.{QueuedJob}
use Rattle.office.specs.declared.lists.JobLine.{JobLine}
use Rattle.office.specs.declared.replies.Reply.{Reply}
use Rattle.office.specs.declared.replies.Reply.TheVariants as reply
use Rattle.ledger_tables.specs.Cells.{QueuedName}
use Rattle.ledger_tables.specs.Listed.{name_row, queued_name}
use Rattle.ledger_tables.specs.declared.rows.NameRow.{NameRow}
use Rattle.office_tables.specs.Standing.{named}

-- the entry's name can be read from a row: its customer is a text, and its number has 32 bits
abbrev pub CanBeListed : Entry → Type 0
CanBeListed e = IsUtf8 e.customer × (e.number < 2 ^ 32)

-- the names of all jobs of the office can be read from their rows
abbrev pub AreListable : Office → Type 0
AreListable = AllByRecursion CanBeListed

-- ---- a customer's jobs

-- the entry's job is the one that the office has under the customer and the entry's number
abbrev pub IsHis : List ℕ → Office → Entry → Type 0
IsHis customer office e = job_of customer e.number office ≡ Some e.job

-- if the row is that of one of the customer's jobs, this is the job's row in the list of jobs
abbrev pub HasLine : List ℕ → NameRow → Office → JobLine → Type 0
HasLine customer row office found =
    (e : Entry) → row ≡ name_row (named e) → IsHis customer office e → found ≡ job_line e

-- if the rows are those of some of the customer's jobs, these are their rows in the list of jobs
abbrev pub HasLines : List ℕ → List NameRow → Office → List JobLine → Type 0
HasLines customer rows office found =
    (entries : Office) → rows ≡ map (λ e. name_row (named e)) entries
    → AllByRecursion (IsHis customer office) entries → found ≡ map job_line entries

-- the office, unchanged, and the reply with the list of a customer's jobs
abbrev pub with_jobs_told : List ℕ → Office → Office × Reply
with_jobs_told customer office = (office, reply.Jobs (jobs_listed customer office))

-- ---- the queue

-- the entry's job is the one that the office has under the entry's name
abbrev pub IsIts : Office → Entry → Type 0
IsIts office e = job_of e.customer e.number office ≡ Some e.job

-- if the row is that of a job of the office, the queue has this job added unless it is held
abbrev pub IsQueued : QueuedName → Office → List QueuedJob → List QueuedJob → Type 0
IsQueued row office old new =
    (e : Entry) → row ≡ queued_name (named e) → IsIts office e
    → new ≡ old ++ map queued_job (free_jobs (e ∷ []))

-- if the rows are those of jobs of the office, the queue has those of them that are not held
abbrev pub AreQueued : List QueuedName → Office → List QueuedJob → Type 0
AreQueued rows office found =
    (entries : Office) → rows ≡ map (λ e. queued_name (named e)) entries
    → AllByRecursion (IsIts office) entries → found ≡ map queued_job (free_jobs entries)

-- the office, unchanged, and the reply with the queue
abbrev pub with_queue_told : Office → Office × Reply
with_queue_told office = (office, reply.Queue (queue_listed office))
