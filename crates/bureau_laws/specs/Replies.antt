-- what the operator reads of the bytes that the counter writes
use Rattle.std.specs.Prelude.{ℕ, ◌≡◌, ◌≢◌, ◌<◌, ◌^◌, List, Option, None, length, map, string_bytes, true}
use Rattle.autocoder_layout.specs.declared.card_faults.CardFault.{CardFault}
use Rattle.http_messages.specs.ReplyBodies.{body_of}
use Rattle.machine.specs.Standings.{standing_words}
use Rattle.machine.specs.declared.standings.StandingAt.{StandingAt}
use Rattle.texts.specs.Names.{is_customer, is_number}
use Rattle.office.specs.Queued.{QueuedJob}
use Rattle.office.specs.declared.lists.JobLine.{JobLine}
use Rattle.office.specs.declared.refusals.Refusal.{Refusal}
use Rattle.office.specs.declared.refusals.Refusal.TheVariants as refusal
use Rattle.office.specs.declared.replies.Reply as office
use Rattle.office.specs.declared.summaries.Summary.{Summary}
use Rattle.queue_rounds.specs.Answers.{Stands, Tells, standing_in}
use Rattle.queue_rounds.specs.Names.{Name, name_of}
use Rattle.queue_rounds.specs.Replies.{AreJobsRead, IsQueueRead, IsSliceRead}
use Rattle.queue_rounds.specs.Responses.{IsReplyIn}
use Rattle.queue_rounds.specs.declared.replies.Outcome.{Outcome}
use Rattle.queue_rounds.specs.declared.replies.Outcome.TheVariants as outcome
use Rattle.queue_rounds.specs.declared.replies.Reply.{Reply}
use Rattle.queue_rounds.specs.declared.replies.Reply.TheVariants as reply

-- the body of a reply has fewer than 2^64 bytes, as one that is in memory has
abbrev pub HasBody : office.Reply → Type 0
HasBody r = length (body_of r) < 2 ^ 64

-- this is the answer with this status and this body
abbrev pub IsAnswer : ℕ → List ℕ → Reply → Type 0
IsAnswer status body reply.Unsent = ⊥
IsAnswer status body reply.Lost = ⊥
IsAnswer status body (reply.Replied code bytes) = (code ≡ status) × (bytes.items ≡ body)

-- what is read of bytes that come as the answer to the request for the queue
abbrev pub ReadsQueue : List ℕ → Outcome → Type 0
ReadsQueue bytes it = (answer : Reply) × IsReplyIn bytes answer × IsQueueRead answer it

-- what is read of bytes that come as the answer to the request for a slice
abbrev pub ReadsSlice : List ℕ → Outcome → Type 0
ReadsSlice bytes it = (answer : Reply) × IsReplyIn bytes answer × IsSliceRead answer it

-- a reply says how a job stands, or does not: its body says it where the status is 200
pub record IsStandingReplied (status : ℕ) (body : List ℕ) (it : Option Stands) : Type 0 where
  pub told : status ≡ 200 → Tells standing_in body it
  pub other : status ≢ 200 → it ≡ None

-- what the reply to the request for a standing says
abbrev pub IsStandingRead : Reply → Option Stands → Type 0
IsStandingRead reply.Unsent it = it ≡ None
IsStandingRead reply.Lost it = it ≡ None
IsStandingRead (reply.Replied status body) it = IsStandingReplied status body.items it

-- what is read of bytes that come as the answer to the request for a standing
abbrev pub ReadsStanding : List ℕ → Option Stands → Type 0
ReadsStanding bytes it = (answer : Reply) × IsReplyIn bytes answer × IsStandingRead answer it

-- what is read of bytes that come as the answer to the request for a customer's jobs
abbrev pub ReadsJobs : List ℕ → Option (List ℕ) → Type 0
ReadsJobs bytes it = (answer : Reply) × IsReplyIn bytes answer × AreJobsRead answer it

-- a bureau's job can have this number
abbrev pub HasNumber : JobLine → Type 0
HasNumber job = is_number job.number ≡ true

-- the number of a job in the list of a customer's jobs
abbrev pub number_told : JobLine → ℕ
number_told job = job.number

-- a bureau can have this job
abbrev pub IsJob : QueuedJob → Type 0
IsJob job = (is_customer job.customer ≡ true) × (is_number job.number ≡ true)

-- the name of a job in the queue
abbrev pub name_told : QueuedJob → Name
name_told job = (job.customer, job.number)

-- it is read that the queue has these jobs, in this order
abbrev pub IsListed : List QueuedJob → Outcome → Type 0
IsListed jobs (outcome.Listed found) = map name_of found.items ≡ map name_told jobs
IsListed jobs other = ⊥

-- it is read that a slice executed so many instructions, and how its job stands
abbrev pub IsRan : ℕ → StandingAt → Outcome → Type 0
IsRan executed standing (outcome.Ran ran) =
    (ran.executed ≡ executed) × (string_bytes ran.standing ≡ standing_words standing)
IsRan executed standing other = ⊥

-- a refusal that a command on a job may have: not that of a source with faults
abbrev pub IsOfJob : Refusal → Type 0
IsOfJob reason = (faults : List CardFault) → reason ≢ refusal.Assembly faults

-- the counts of a job have 32 bits
pub record HasCounts (job : Summary) : Type 0 where
  pub granted : job.granted < 2 ^ 32
  pub cards : job.cards < 2 ^ 32
  pub lines : job.lines < 2 ^ 32

-- the standing of a job as it is told
abbrev pub stands_told : Summary → Stands
stands_told job = record {
  standing = standing_words job.standing;
  held = job.held;
  collected = job.collected;
  granted = job.granted;
  cards = job.cards;
  lines = job.lines;
}
