-- the office: the jobs of all customers, and what commands make of it
use Rattle.std.specs.Prelude.{◌≡◌, ℕ, ◌≤◌, nat_le, ◌==◌, ◌&&◌, not, Bool, true, false, List, [], ◌∷◌, ◌++◌, length, map, filter, find, take as beginning_of, if◌then◌else◌, bytes_eq, Option, Some, None, option_map, Result, Ok, Err, string_bytes}
use Rattle.std.specs.List.{AllByRecursion}
use Rattle.std.specs.declared.cmp.Ordering.{Ordering}
use Rattle.std.specs.Cmp.Lexicographic.{slice_cmp}
use Rattle.std.specs.Ordering.{nat_cmp, ordering_then}
use Rattle.cards.specs.Decks.{deck_bytes}
use Rattle.core_store.specs.Storage.{positions_of}
use Rattle.machine.specs.Run.{is_running}
use Rattle.units.specs.Switches.{seven}
use Rattle.units.specs.declared.switches.Switches.{Switches}
use Rattle.office.specs.Limits.{most_jobs, is_limit}
use Rattle.texts.specs.Names.{is_customer, is_number}
use Rattle.office.specs.Jobs.{Job, loaded_deck, picture}
use Rattle.machine.specs.Standings.{standing_of}
use Rattle.office.specs.Kept.{kept_of, take_kept, job_after, attempted_on}
use Rattle.office.specs.New.{job_or_refusal}
use Rattle.bcd.specs.Orders.{in_order}
use Rattle.office.specs.declared.commands.Command.{Command}
use Rattle.office.specs.declared.commands.Command.TheVariants.{Submit, Job as OnJob, Jobs, Queue}
use Rattle.office.specs.declared.commands.Contents.{Contents}
use Rattle.office.specs.declared.commands.JobCommand.{JobCommand}
use Rattle.office.specs.declared.commands.JobCommand.TheVariants.{Slice, Cards}
use Rattle.office.specs.declared.commands.Kind.{Kind}
use Rattle.office.specs.declared.commands.Kind.TheVariants.{Object, Autocoder}
use Rattle.office.specs.declared.lists.JobLine.{JobLine}
use Rattle.office.specs.Queued.{QueuedJob}
use Rattle.office.specs.declared.refusals.Refusal.{Refusal}
use Rattle.office.specs.declared.refusals.Refusal.TheVariants as refusal
use Rattle.office.specs.declared.replies.Reply.{Reply}
use Rattle.office.specs.declared.replies.Reply.TheVariants as reply
use Rattle.office.specs.declared.stackers.Stacker.TheVariants.{Unknown}
use Rattle.office.specs.declared.stretches.Stretch.{Stretch}

-- a job with its name: a customer and a number
pub record Entry : Type 0 where
  pub customer : List ℕ
  pub number : ℕ
  pub job : Job

-- an office: its jobs in the order in which they were taken; no two have the same name
abbrev pub Office : Type 0
Office = List Entry

-- ---- one job among all

-- whether an entry has this name
abbrev pub is_entry : List ℕ → ℕ → Entry → Bool
is_entry customer number e = bytes_eq e.customer customer && (e.number == number)

-- the first entry of this name, if there is one
abbrev pub entry_of : List ℕ → ℕ → Office → Option Entry
entry_of customer number = find (is_entry customer number)

-- the job of this name, if there is one
abbrev pub job_of : List ℕ → ℕ → Office → Option Job
job_of customer number office = option_map (λ e. e.job) (entry_of customer number office)

-- a customer's jobs
abbrev pub own : List ℕ → Office → Office
own customer = filter (λ e. bytes_eq e.customer customer)

-- no job of the office has this name
abbrev pub IsFree : List ℕ → ℕ → Office → Type 0
IsFree customer number = AllByRecursion (λ e. is_entry customer number e ≡ false)

-- no two jobs of the office have the same name
abbrev pub AreDistinct : Office → Type 0
AreDistinct [] = Unit {0}
AreDistinct (e ∷ office) = IsFree e.customer e.number office × AreDistinct office

-- the office with another job in the place of the one of this name
abbrev pub with_job : List ℕ → ℕ → Job → Office → Office
with_job customer number job =
    map (λ e. if is_entry customer number e then record e { job = job } else e)

-- ---- a submission

-- the office with one job more, after the others
abbrev pub and_job : List ℕ → ℕ → Job → Office → Office
and_job customer number job office =
    office ++ (record { customer = customer; number = number; job = job }) ∷ []

-- whether the customer has as many jobs as one may have
abbrev pub has_most_jobs : List ℕ → Office → Bool
has_most_jobs customer office = nat_le most_jobs (length (own customer office))

-- the office after a new job is added, and the reply: it is refused if its customer has as many
-- as one may have
abbrev pub added : List ℕ → ℕ → Office → Job → Office × Reply
added customer number office job =
    if has_most_jobs customer office then (office, reply.Refused refusal.TooManyJobs) else
    (and_job customer number job office, reply.Taken (length (loaded_deck job)))

-- the office after a submission under a free name, and the reply, by its job or its refusal
abbrev pub submitted_as : List ℕ → ℕ → Office → Result Job Refusal → Office × Reply
submitted_as customer number office (Ok job) = added customer number office job
submitted_as customer number office (Err reason) = (office, reply.Refused reason)

-- whether the first stretch has these switches
abbrev pub began_with : Switches → List Stretch → Bool
began_with switches [] = false
began_with switches (s ∷ stretches) = s.switches.0 == switches.0

-- whether two kinds are the same
abbrev pub is_same_kind : Kind → Kind → Bool
is_same_kind Object Object = true
is_same_kind Object Autocoder = false
is_same_kind Autocoder Object = false
is_same_kind Autocoder Autocoder = true

-- whether the job was submitted with these contents
abbrev pub is_of : Contents → Job → Bool
is_of contents job =
    is_same_kind job.kind contents.kind
    && positions_of job.size == contents.size
    && began_with (seven contents.switches) job.stretches
    && bytes_eq (deck_bytes job.deck) (deck_bytes contents.deck)

-- the reply to a submission under a name that a job has: the first reply again if the contents are
-- the same, else a refusal
abbrev pub repeated : Contents → Job → Reply
repeated contents job =
    if is_of contents job then reply.Taken (length (loaded_deck job)) else
    reply.Refused refusal.OtherContents

-- the office after a submission, and the reply, by the job that has the name already, if any
abbrev pub submitted : List ℕ → ℕ → Contents → Office → Option Job → Office × Reply
submitted customer number contents office None =
    submitted_as customer number office (job_or_refusal contents)
submitted customer number contents office (Some job) = (office, repeated contents job)

-- ---- a command on a job

-- the office after a command on a job, and the reply, by the job of that name, if any
abbrev pub commanded : List ℕ → ℕ → JobCommand → Office → Option Job → Office × Reply
commanded customer number c office None = (office, reply.Refused refusal.NoJob)
commanded customer number c office (Some job) =
    (with_job customer number (job_after c job) office, (take_kept c (kept_of job)).1)

-- ---- lists of jobs

-- a row of the list of a customer's jobs: number, flags and standing
abbrev pub job_line : Entry → JobLine
job_line e = record {
  number = e.number;
  held = e.job.held;
  collected = e.job.collected;
  standing = standing_of (picture e.job);
}

-- two jobs compared by their numbers
abbrev pub by_number : Entry → Entry → Ordering
by_number a b = nat_cmp a.number b.number

-- the list of a customer's jobs, in the order of their numbers
abbrev pub jobs_listed : List ℕ → Office → List JobLine
jobs_listed customer office = map job_line (in_order by_number (own customer office))

-- a row of the queue: the job's customer and number
abbrev pub queued_job : Entry → QueuedJob
queued_job e = record { customer = e.customer; number = e.number }

-- two jobs compared by the bytes of their customers, and then by their numbers
abbrev pub by_name : Entry → Entry → Ordering
by_name a b = ordering_then (slice_cmp nat_cmp a.customer b.customer) (nat_cmp a.number b.number)

-- the jobs that are not held
abbrev pub free_jobs : Office → Office
free_jobs = filter (λ e. not e.job.held)

-- whether the job's machine is running
abbrev pub runs : Entry → Bool
runs e = is_running (picture e.job).standing

-- the queue: the jobs that are running and not held, in the order of their names
abbrev pub queue_listed : Office → List QueuedJob
queue_listed office = map queued_job (filter runs (in_order by_name (free_jobs office)))

-- ---- any command

-- why no job can have this name: its customer or its number is not a valid one
abbrev pub name_refusal : List ℕ → ℕ → Option Refusal
name_refusal customer number =
    if not (is_customer customer) then Some refusal.Customer else
    if not (is_number number) then Some refusal.Number else
    None

-- why a command is refused for its name, or else for its value: a slice's limit out of range, or a
-- pocket that is none
abbrev pub value_refusal : JobCommand → Option Refusal → Option Refusal
value_refusal c (Some reason) = Some reason
value_refusal (Slice limit) None = if is_limit limit then None else Some refusal.Limit
value_refusal (Cards Unknown) None = Some refusal.NoSuchPocket
value_refusal c None = None

-- why no customer can have this name
abbrev pub customer_refusal : List ℕ → Option Refusal
customer_refusal customer = if is_customer customer then None else Some refusal.Customer

-- why a command is refused before any job is looked at
abbrev pub early_refusal : Command → Option Refusal
early_refusal (Submit customer number contents) = name_refusal (string_bytes customer) number
early_refusal (OnJob customer number c) =
    value_refusal c (name_refusal (string_bytes customer) number)
early_refusal (Jobs customer) = customer_refusal (string_bytes customer)
early_refusal Queue = None

-- the office after a command that is not refused early, and the reply
abbrev pub served : Command → Office → Office × Reply
served (Submit customer number contents) office =
    let name : List ℕ = string_bytes customer in
    submitted name number contents office (job_of name number office)
served (OnJob customer number c) office =
    let name : List ℕ = string_bytes customer in
    commanded name number c office (job_of name number office)
served (Jobs customer) office = (office, reply.Jobs (jobs_listed (string_bytes customer) office))
served Queue office = (office, reply.Queue (queue_listed office))

-- the office and the reply: an early refusal changes nothing
abbrev pub taken : Command → Office → Option Refusal → Office × Reply
taken command office (Some reason) = (office, reply.Refused reason)
taken command office None = served command office

-- the office after a command, and the reply
abbrev pub take : Command → Office → Office × Reply
take command office = taken command office (early_refusal command)

-- ---- many commands

-- the office and the replies of the later commands, with this reply put first
abbrev pub replied_first : Reply → Office × List Reply → Office × List Reply
replied_first reply rest = (rest.0, reply ∷ rest.1)

-- the office after a list of commands, and the replies
unfoldable pub fold : List Command → Office → Office × List Reply
fold [] office = (office, [])
fold (command ∷ commands) office =
    let done : Office × Reply = take command office in
    replied_first done.1 (fold commands done.0)

-- this is the office after a beginning of the commands that holds every acknowledged one
abbrev pub IsLeft : Office → List Command → ℕ → Office → Type 0
IsLeft office commands acknowledged left =
    (taken : ℕ) × (acknowledged ≤ taken) × (taken ≤ length commands)
    × (left ≡ (fold (beginning_of taken commands) office).0)

-- ---- what a command attempts

-- how many instructions a command on this job attempts, none if there is no job
abbrev pub attempted_of : JobCommand → Option Job → ℕ
attempted_of c None = 0
attempted_of c (Some job) = attempted_on c (kept_of job)

-- how many instructions a command attempts if it is not refused early
abbrev pub attempted_by : Command → Office → ℕ
attempted_by (Submit customer number contents) office = 0
attempted_by (OnJob customer number c) office =
    attempted_of c (job_of (string_bytes customer) number office)
attempted_by (Jobs customer) office = 0
attempted_by Queue office = 0

-- how many instructions a command attempts: none if it is refused early
abbrev pub attempted_unless : Command → Office → Option Refusal → ℕ
attempted_unless command office (Some reason) = 0
attempted_unless command office None = attempted_by command office

-- how many instructions a command attempts in this office
abbrev pub attempted : Command → Office → ℕ
attempted command office = attempted_unless command office (early_refusal command)

-- the most instructions that a command may attempt, whatever the office
abbrev pub limit_of : Command → ℕ
limit_of (OnJob customer number (Slice limit)) = limit
limit_of other = 0
