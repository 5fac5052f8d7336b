-- a job with its machine, and the job that a command makes of it
use Rattle.std.specs.Prelude.{◌≡◌, ℕ, ◌+◌, ◌&&◌, nat_lt, Bool, true, false, not, List, [], Option, Some, None, if◌then◌else◌}
use Rattle.cards.specs.declared.decks.Card.{Card}
use Rattle.core_store.specs.declared.sizes.Size.{Size}
use Rattle.machine.specs.Ranges.{IsInRange}
use Rattle.machine.specs.Run.{State, loaded, after, attempts, executed, lines_of, started}
use Rattle.machine.specs.Standings.{standing_of, goes_on, is_at_halt}
use Rattle.units.specs.Switches.{seven}
use Rattle.units.specs.Units.{Makes, made_in_all}
use Rattle.units.specs.declared.profiles.Profile.TheVariants.{Selecting}
use Rattle.units.specs.declared.switches.Switches.{Switches}
use Rattle.office.specs.Limits.{most_granted}
use Rattle.office.specs.Jobs.{Job, picture, granted, granted_more, one_more, sliced_job, started_job, AreStretches}
use Rattle.office.specs.Stackers.{cards_from}
use Rattle.office.specs.declared.commands.JobCommand.{JobCommand}
use Rattle.office.specs.declared.commands.JobCommand.TheVariants.{Slice, Start, Hold, Release, Collect, Standing as Tell, Cards, Lines}
use Rattle.office.specs.declared.drives.Drive.{Drive}
use Rattle.office.specs.declared.drives.Drive.TheVariants as drive
use Rattle.office.specs.declared.flags.FlagCommand.{FlagCommand}
use Rattle.office.specs.declared.flags.FlagCommand.TheVariants as flag
use Rattle.office.specs.declared.flags.NewFlags.{NewFlags}
use Rattle.office.specs.declared.summaries.Summary.{Summary}
use Rattle.office.specs.declared.stretches.Stretch.{Stretch}
use Rattle.office.specs.declared.refusals.Refusal.{Refusal}
use Rattle.office.specs.declared.refusals.Refusal.TheVariants as refusal
use Rattle.office.specs.declared.replies.Reply.{Reply}
use Rattle.office.specs.declared.replies.Reply.TheVariants as reply

-- a job with its machine: the stretches, the flags and the machine's state, which may be any
pub record Kept : Type 0 where
  pub stretches : List Stretch
  pub held : Bool
  pub collected : Bool
  pub machine : State

-- a job with its machine in the state that its stretches lead to
abbrev pub kept_of : Job → Kept
kept_of job = record {
  stretches = job.stretches;
  held = job.held;
  collected = job.collected;
  machine = picture job;
}

-- a job just submitted: its machine after the load button with this deck, size and switches
abbrev pub loaded_kept : List Card → Size → Switches → Kept
loaded_kept deck size switches = record {
  stretches = one_more (seven switches) [];
  held = false;
  collected = false;
  machine = loaded deck size (seven switches) Selecting;
}

-- the stretches are ones that a job may have, and the machine's state is in range
pub record IsJobInRange (k : Kept) : Type 0 where
  pub stretches : AreStretches k.stretches
  pub machine : IsInRange k.machine

-- ---- the standing of a job

-- the summary of a job: its standing, its flags, the instructions granted, and how many cards and
-- lines it has made in all
abbrev pub summary_of : Kept → Summary
summary_of k = record {
  standing = standing_of k.machine;
  held = k.held;
  collected = k.collected;
  granted = granted k.stretches;
  cards = (made_in_all k.machine.works.units).cards;
  lines = (made_in_all k.machine.works.units).lines;
}

-- ---- what is refused

-- whether a command only asks for something of a job: `Standing`, `Cards` and `Lines`
abbrev pub is_query : JobCommand → Bool
is_query Tell = true
is_query (Cards from) = true
is_query Lines = true
is_query other = false

-- whether a command is refused for a held job: `Slice`, `Start` and `Collect`
abbrev pub is_for_free : JobCommand → Bool
is_for_free (Slice limit) = true
is_for_free (Start switches) = true
is_for_free Collect = true
is_for_free other = false

-- this refusal if the test holds, else none
abbrev pub refused_if : Bool → Refusal → Option Refusal
refused_if true reason = Some reason
refused_if false reason = None

-- why a slice is refused for a job that is not held: its machine does not run, or more instructions
-- would be granted than a job may have
abbrev pub slice_refusal : ℕ → Summary → Option Refusal
slice_refusal limit job =
    if not (goes_on job.standing) then Some refusal.NotRunning else
    refused_if (nat_lt most_granted (job.granted + limit)) refusal.TooMuch

-- why a command is refused by the last of its tests, which each sort of command has for itself
abbrev pub last_refusal : JobCommand → Summary → Option Refusal
last_refusal (Slice limit) job = slice_refusal limit job
last_refusal (Start switches) job = refused_if (not (is_at_halt job.standing)) refusal.NotAtHalt
last_refusal Hold job = refused_if job.held refusal.AlreadyHeld
last_refusal Release job = refused_if (not job.held) refusal.NotHeld
last_refusal Collect job = refused_if (goes_on job.standing) refusal.NotAtHalt
last_refusal Tell job = None
last_refusal (Cards from) job = None
last_refusal Lines job = None

-- why a command on a job is refused, by the first test that fails; a query is never refused
abbrev pub job_refusal : JobCommand → Summary → Option Refusal
job_refusal c job =
    if is_query c then None else
    if job.collected then Some refusal.Collected else
    if is_for_free c && job.held then Some refusal.Held else
    last_refusal c job

-- ---- what a command makes of a job

-- a job after a command that is not refused
abbrev pub changed : JobCommand → Kept → Kept
changed (Slice limit) k = record k {
  stretches = granted_more limit k.stretches;
  machine = after k.machine limit;
}
changed (Start switches) k = record k {
  stretches = one_more (seven switches) k.stretches;
  machine = started k.machine (seven switches);
}
changed Hold k = record k { held = true }
changed Release k = record k { held = false }
changed Collect k = record k { collected = true }
changed Tell k = k
changed (Cards from) k = k
changed Lines k = k

-- the reply to a command that is not refused
abbrev pub answered : JobCommand → Kept → Reply
answered (Slice limit) k =
    reply.Ran (executed k.machine limit) (standing_of (after k.machine limit))
answered (Start switches) k = reply.Started
answered Hold k = reply.Held
answered Release k = reply.Released
answered Collect k = reply.Collected (summary_of k).cards (summary_of k).lines
answered Tell k = reply.Standing (summary_of k)
answered (Cards from) k = reply.Cards (cards_from from k.machine.works.units.punch.cards)
answered Lines k = reply.Lines (lines_of k.machine)

-- a slice or a start as a command on a job
abbrev pub drive_command : Drive → JobCommand
drive_command (drive.Slice limit) = Slice limit
drive_command (drive.Start switches) = Start switches

-- one that needs the summary of its job alone, as a command on a job
abbrev pub flag_command : FlagCommand → JobCommand
flag_command flag.Hold = Hold
flag_command flag.Release = Release
flag_command flag.Collect = Collect
flag_command flag.Standing = Tell

-- the flags of a job with this summary after a command that is not refused and needs no more, and
-- the reply
abbrev pub on_flags : FlagCommand → Summary → NewFlags
on_flags flag.Hold job = record { held = true; collected = job.collected; reply = reply.Held }
on_flags flag.Release job =
    record { held = false; collected = job.collected; reply = reply.Released }
on_flags flag.Collect job = record {
  held = job.held;
  collected = true;
  reply = reply.Collected job.cards job.lines;
}
on_flags flag.Standing job =
    record { held = job.held; collected = job.collected; reply = reply.Standing job }

-- the job and the reply: a refusal changes nothing and is itself the reply
abbrev pub taken_unless : JobCommand → Kept → Option Refusal → Kept × Reply
taken_unless c k (Some reason) = (k, reply.Refused reason)
taken_unless c k None = (changed c k, answered c k)

-- a job with its machine after a command, and the reply
abbrev pub take_kept : JobCommand → Kept → Kept × Reply
take_kept c k = taken_unless c k (job_refusal c (summary_of k))

-- a job after a command that is not refused, without a machine: its stretches and flags
abbrev pub changed_job : JobCommand → Job → Job
changed_job (Slice limit) job = sliced_job limit job
changed_job (Start switches) job = started_job (seven switches) job
changed_job Hold job = record job { held = true }
changed_job Release job = record job { held = false }
changed_job Collect job = record job { collected = true }
changed_job Tell job = job
changed_job (Cards from) job = job
changed_job Lines job = job

-- a job after a command: a refusal changes nothing
abbrev pub job_unless : JobCommand → Job → Option Refusal → Job
job_unless c job (Some reason) = job
job_unless c job None = changed_job c job

-- a job after a command: its stretches and its flags
abbrev pub job_after : JobCommand → Job → Job
job_after c job = job_unless c job (job_refusal c (summary_of (kept_of job)))

-- ---- what a command attempts

-- how many instructions a command attempts if it is not refused
abbrev pub attempts_of : JobCommand → Kept → ℕ
attempts_of (Slice limit) k = attempts k.machine limit
attempts_of other k = 0

-- how many instructions a command attempts: none if it is refused
abbrev pub attempts_unless : JobCommand → Kept → Option Refusal → ℕ
attempts_unless c k (Some reason) = 0
attempts_unless c k None = attempts_of c k

-- how many instructions a command on this job attempts
abbrev pub attempted_on : JobCommand → Kept → ℕ
attempted_on c k = attempts_unless c k (job_refusal c (summary_of k))

-- the most instructions that a command may attempt, whatever the job
abbrev pub limit_of : JobCommand → ℕ
limit_of (Slice limit) = limit
limit_of other = 0

-- ---- when memory may run out

-- a command on a job makes something that takes memory: a card or a line, a stretch, or copies of
-- cards or lines for the reply
abbrev pub MakesOn : JobCommand → Kept → Type 0
MakesOn (Slice limit) k = Makes k.machine.works.units (after k.machine limit).works.units
MakesOn (Start switches) k = Unit {0}
MakesOn (Cards from) k = Unit {0}
MakesOn Lines k = Unit {0}
MakesOn other k = ⊥

-- it may run out of memory: it is not refused, and makes something that takes memory
pub record MayWant (c : JobCommand) (k : Kept) : Type 0 where
  pub let_through : job_refusal c (summary_of k) ≡ None
  pub makes : MakesOn c k
