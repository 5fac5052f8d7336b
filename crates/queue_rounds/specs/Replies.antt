-- what a bureau's replies to the requests of the work on its queue say
use Rattle.std.specs.Prelude.{ℕ, ◌≡◌, ◌≢◌, ◌&&◌, Bool, true, false, List, Option, Some, None, map, nat_le, option_map, string_bytes}
use Rattle.queue_rounds.specs.Answers.{Tells, jobs_in, queue_in, ran_in, refusal_in, standing_in}
use Rattle.queue_rounds.specs.Names.{name_of}
use Rattle.queue_rounds.specs.Standings.{stands}
use Rattle.queue_rounds.specs.declared.replies.Outcome.{Outcome}
use Rattle.queue_rounds.specs.declared.replies.Outcome.TheVariants as outcome
use Rattle.queue_rounds.specs.declared.replies.Passed.TheVariants as passed
use Rattle.queue_rounds.specs.declared.replies.Reply.{Reply}
use Rattle.queue_rounds.specs.declared.replies.Reply.TheVariants as reply
use Rattle.queue_rounds.specs.declared.standings.Standing.{Standing}

-- whether a status says that the server failed
abbrev pub is_failure : ℕ → Bool
is_failure status = nat_le 500 status && nat_le status 599

-- a body says the jobs of a queue, or none
abbrev pub IsQueueTold : List ℕ → Outcome → Type 0
IsQueueTold body (outcome.Listed jobs) = Tells queue_in body (Some (map name_of jobs.items))
IsQueueTold body outcome.Foreign = Tells queue_in body None
IsQueueTold body other = ⊥

-- a status and a body say the jobs of a queue, or that the bureau failed
pub record IsQueueReplied (status : ℕ) (body : List ℕ) (it : Outcome) : Type 0 where
  pub failed : is_failure status ≡ true → it ≡ outcome.Nothing
  pub told : status ≡ 200 → IsQueueTold body it
  pub other : is_failure status ≡ false → status ≢ 200 → it ≡ outcome.Foreign

-- what the reply to the request for the queue says
abbrev pub IsQueueRead : Reply → Outcome → Type 0
IsQueueRead reply.Unsent it = it ≡ outcome.Nothing
IsQueueRead reply.Lost it = it ≡ outcome.Nothing
IsQueueRead (reply.Replied status body) it = IsQueueReplied status body.items it

-- a body says what a slice did, or does not
abbrev pub IsRanTold : List ℕ → Outcome → Type 0
IsRanTold body (outcome.Ran ran) =
    Tells ran_in body (Some (ran.executed, string_bytes ran.standing))
IsRanTold body outcome.Foreign = Tells ran_in body None
IsRanTold body other = ⊥

-- a body says the number of a refusal, or does not
abbrev pub IsRefusalTold : List ℕ → Outcome → Type 0
IsRefusalTold body (outcome.Passed (passed.Refused number)) = Tells refusal_in body (Some number)
IsRefusalTold body outcome.Foreign = Tells refusal_in body None
IsRefusalTold body other = ⊥

-- a status other than 200 and a body say why a slice did not run
pub record IsSlicePassed (status : ℕ) (body : List ℕ) (it : Outcome) : Type 0 where
  pub failed : is_failure status ≡ true → it ≡ outcome.Passed (passed.Failed status)
  pub told : is_failure status ≡ false → IsRefusalTold body it

-- a status and a body say what a slice did, or why it did not run
pub record IsSliceReplied (status : ℕ) (body : List ℕ) (it : Outcome) : Type 0 where
  pub told : status ≡ 200 → IsRanTold body it
  pub passed : status ≢ 200 → IsSlicePassed status body it

-- what the reply to the request for a slice says: one that was sent and not answered has passed
abbrev pub IsSliceRead : Reply → Outcome → Type 0
IsSliceRead reply.Unsent it = it ≡ outcome.Nothing
IsSliceRead reply.Lost it = it ≡ outcome.Passed passed.Lost
IsSliceRead (reply.Replied status body) it = IsSliceReplied status body.items it

-- a status and a body say the numbers of a customer's jobs, or nothing of them
pub record AreJobsReplied (status : ℕ) (body : List ℕ) (it : Option (List ℕ)) : Type 0 where
  pub told : status ≡ 200 → Tells jobs_in body it
  pub other : status ≢ 200 → it ≡ None

-- the numbers of a customer's jobs by the reply to the request for them
abbrev pub AreJobsRead : Reply → Option (List ℕ) → Type 0
AreJobsRead reply.Unsent it = it ≡ None
AreJobsRead reply.Lost it = it ≡ None
AreJobsRead (reply.Replied status body) it = AreJobsReplied status body.items it

-- a status and a body say how a job stands, or nothing of it
pub record IsStandingReplied (status : ℕ) (body : List ℕ) (it : Option Standing) : Type 0 where
  pub told : status ≡ 200 → Tells standing_in body (option_map stands it)
  pub other : status ≢ 200 → it ≡ None

-- how a job stands by the reply to the request for its standing
abbrev pub IsStandingRead : Reply → Option Standing → Type 0
IsStandingRead reply.Unsent it = it ≡ None
IsStandingRead reply.Lost it = it ≡ None
IsStandingRead (reply.Replied status body) it = IsStandingReplied status body.items it
