-- the reasons for which a command on a job is refused, where each holds, and their order
use Rattle.std.specs.Prelude.{ℕ, ◌≡◌, ◌+◌, ◌<◌, ◌≤◌, ◌⊎◌, ⊤, true, false, List, [], ◌∷◌, Some, None}
use Rattle.machine.specs.declared.standings.Standing.TheVariants.{Running}
use Rattle.office.specs.Jobs.{Job, IsAtHalt, granted, picture}
use Rattle.office.specs.Limits.{is_limit}
use Rattle.texts.specs.Names.{is_customer, is_number}
use Rattle.office.specs.Office.{Office, job_of}
use Rattle.office.specs.declared.commands.JobCommand.{JobCommand}
use Rattle.office.specs.declared.commands.JobCommand.TheVariants.{Slice, Start, Hold, Release, Collect, Standing as Tell, Cards, Lines}
use Rattle.office.specs.declared.refusals.Refusal.{Refusal}
use Rattle.office.specs.declared.refusals.Refusal.TheVariants as refusal
use Rattle.office.specs.declared.stackers.Stacker.TheVariants.{Unknown}

-- ---- commands and jobs

-- the command is a query, which only asks for something of a job
abbrev pub IsQuery : JobCommand → Type 0
IsQuery Tell = ⊤
IsQuery (Cards from) = ⊤
IsQuery Lines = ⊤
IsQuery other = ⊥

-- the command is one that a hold prevents: Slice, Start or Collect
abbrev pub IsStoppedByHold : JobCommand → Type 0
IsStoppedByHold (Slice limit) = ⊤
IsStoppedByHold (Start switches) = ⊤
IsStoppedByHold Collect = ⊤
IsStoppedByHold other = ⊥

-- the job is held
abbrev pub IsHeld : Job → Type 0
IsHeld job = job.held ≡ true

-- the job is collected
abbrev pub IsCollected : Job → Type 0
IsCollected job = job.collected ≡ true

-- the job's machine is running: it is neither at a halt nor at a check
abbrev pub IsRunning : Job → Type 0
IsRunning job = (picture job).standing ≡ Running

-- the job is available: it is neither held nor collected
abbrev pub IsAvailable : Job → Type 0
IsAvailable job = (¬ IsHeld job) × (¬ IsCollected job)

-- ---- exactly where a command is refused

-- exactly where a command on a job is refused for this reason: in order 27, 22, 23, 24 for Start
-- and for Collect, 25, 26 and 28
abbrev pub IsRefusedWhere : Refusal → JobCommand → Job → Type 0
IsRefusedWhere refusal.Collected c job = (¬ IsQuery c) × IsCollected job
IsRefusedWhere refusal.Held c job = IsStoppedByHold c × IsHeld job × (¬ IsCollected job)
IsRefusedWhere refusal.NotRunning (Slice limit) job = IsAvailable job × (¬ IsRunning job)
IsRefusedWhere refusal.NotAtHalt (Start switches) job = IsAvailable job × (¬ IsAtHalt job)
IsRefusedWhere refusal.NotAtHalt Collect job = IsAvailable job × IsRunning job
IsRefusedWhere refusal.AlreadyHeld Hold job = IsHeld job × (¬ IsCollected job)
IsRefusedWhere refusal.NotHeld Release job = (¬ IsHeld job) × (¬ IsCollected job)
IsRefusedWhere refusal.TooMuch (Slice limit) job =
    IsAvailable job × IsRunning job × (1000000000 < granted job.stretches + limit)
IsRefusedWhere reason c job = ⊥

-- exactly where a command on a job is not refused; a query never is
abbrev pub IsLetThrough : JobCommand → Job → Type 0
IsLetThrough (Slice limit) job =
    IsAvailable job × IsRunning job × (granted job.stretches + limit ≤ 1000000000)
IsLetThrough (Start switches) job = IsAvailable job × IsAtHalt job
IsLetThrough Hold job = IsAvailable job
IsLetThrough Release job = IsHeld job × (¬ IsCollected job)
IsLetThrough Collect job = IsAvailable job × (¬ IsRunning job)
IsLetThrough query job = ⊤

-- ---- where each reason holds

-- the reason holds of this command on this job, whatever other reasons hold
abbrev pub Holds : Refusal → JobCommand → Job → Type 0
Holds refusal.Collected c job = (¬ IsQuery c) × IsCollected job
Holds refusal.Held c job = IsStoppedByHold c × IsHeld job
Holds refusal.NotRunning (Slice limit) job = ¬ IsRunning job
Holds refusal.NotAtHalt (Start switches) job = ¬ IsAtHalt job
Holds refusal.NotAtHalt Collect job = IsRunning job
Holds refusal.AlreadyHeld Hold job = IsHeld job
Holds refusal.NotHeld Release job = ¬ IsHeld job
Holds refusal.TooMuch (Slice limit) job = 1000000000 < granted job.stretches + limit
Holds reason c job = ⊥

-- there is a job of this name in the office, and the reason holds of this command on it
abbrev pub HoldsOfJob : List ℕ → ℕ → Office → Refusal → JobCommand → Type 0
HoldsOfJob customer number office reason c =
    (job : Job) × (job_of customer number office ≡ Some job) × Holds reason c job

-- the reason holds of this command on the job of this name in the office: of the name for 10 and
-- 11, of a slice's limit for 21, of the pocket whose cards are asked for for 29, of the name in
-- this office for 20, and else of its job
abbrev pub HoldsIn : List ℕ → ℕ → Office → JobCommand → Refusal → Type 0
HoldsIn customer number office c refusal.Customer = is_customer customer ≡ false
HoldsIn customer number office c refusal.Number = is_number number ≡ false
HoldsIn customer number office (Slice limit) refusal.Limit = is_limit limit ≡ false
HoldsIn customer number office (Cards from) refusal.NoSuchPocket = from ≡ Unknown
HoldsIn customer number office c refusal.NoJob = job_of customer number office ≡ None
HoldsIn customer number office c reason = HoldsOfJob customer number office reason c

-- ---- which reason is given

-- the reasons for which a command on a job may be refused, in the order in which they are tested
abbrev pub tested_for : JobCommand → List Refusal
tested_for (Slice limit) =
    refusal.Customer ∷ refusal.Number ∷ refusal.Limit ∷ refusal.NoJob
    ∷ refusal.Collected ∷ refusal.Held ∷ refusal.NotRunning ∷ refusal.TooMuch ∷ []
tested_for (Start switches) =
    refusal.Customer ∷ refusal.Number ∷ refusal.NoJob
    ∷ refusal.Collected ∷ refusal.Held ∷ refusal.NotAtHalt ∷ []
tested_for Hold =
    refusal.Customer ∷ refusal.Number ∷ refusal.NoJob
    ∷ refusal.Collected ∷ refusal.AlreadyHeld ∷ []
tested_for Release =
    refusal.Customer ∷ refusal.Number ∷ refusal.NoJob
    ∷ refusal.Collected ∷ refusal.NotHeld ∷ []
tested_for Collect =
    refusal.Customer ∷ refusal.Number ∷ refusal.NoJob
    ∷ refusal.Collected ∷ refusal.Held ∷ refusal.NotAtHalt ∷ []
tested_for (Cards from) =
    refusal.Customer ∷ refusal.Number ∷ refusal.NoSuchPocket ∷ refusal.NoJob ∷ []
tested_for query = refusal.Customer ∷ refusal.Number ∷ refusal.NoJob ∷ []

-- the reason is the first of these that holds
abbrev pub IsFirst : (Refusal → Type 0) → List Refusal → Refusal → Type 0
IsFirst holds [] reason = ⊥
IsFirst holds (first ∷ others) reason =
    (holds first × (reason ≡ first)) ⊎ ((¬ holds first) × IsFirst holds others reason)

-- none of these reasons holds
abbrev pub HoldsNone : (Refusal → Type 0) → List Refusal → Type 0
HoldsNone holds [] = ⊤
HoldsNone holds (first ∷ others) = (¬ holds first) × HoldsNone holds others
