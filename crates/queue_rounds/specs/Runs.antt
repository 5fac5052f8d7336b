-- runs of the work on a queue: what the answers to its requests add up to
use Rattle.std.specs.Prelude.{ℕ, ◌+◌, ◌&&◌, Bool, true, false, not, if◌then◌else◌, List, [], ◌∷◌}
use Rattle.queue_rounds.specs.Rounds.{State, after, is_empty, next_after}
use Rattle.queue_rounds.specs.declared.jobs.JobName.{JobName}
use Rattle.queue_rounds.specs.declared.replies.Outcome.{Outcome}
use Rattle.queue_rounds.specs.declared.replies.Outcome.TheVariants.{Listed, Ran, Passed, Nothing, Foreign}
use Rattle.queue_rounds.specs.declared.rounds.Next.{Next}
use Rattle.queue_rounds.specs.declared.rounds.Next.TheVariants.{GoOn, Pause, End}

-- where the work is after these answers, the earliest first
unfoldable pub after_all : State → List Outcome → State
after_all s [] = s
after_all s (outcome ∷ rest) = after_all (after s outcome) rest

-- what the answers of a run add up to, if each alone adds so much
unfoldable pub total : (State → Outcome → ℕ) → State → List Outcome → ℕ
total adds s [] = 0
total adds s (outcome ∷ rest) = adds s outcome + total adds (after s outcome) rest

-- whether this is not the end
abbrev pub goes_on : Next → Bool
goes_on GoOn = true
goes_on Pause = true
goes_on (End why) = false

-- whether the work goes on after each of these answers
unfoldable pub all_go_on : State → List Outcome → Bool
all_go_on s [] = true
all_go_on s (outcome ∷ rest) = goes_on (next_after s outcome) && all_go_on (after s outcome) rest

-- whether an answer is that no slice ran
abbrev pub none_ran : Outcome → Bool
none_ran (Listed jobs) = true
none_ran (Ran it) = false
none_ran (Passed it) = true
none_ran Nothing = true
none_ran Foreign = true

-- how many of these jobs are such ones
unfoldable pub count : (JobName → Bool) → List JobName → ℕ
count is [] = 0
count is (job ∷ jobs) = (if is job then 1 else 0) + count is jobs

-- whether a round begins with these jobs
abbrev pub begins : State → List JobName → Bool
begins s jobs = is_empty s.waiting && not (is_empty jobs)

-- how many rounds an answer begins: one where none waits and there are jobs
abbrev pub begun_by : State → Outcome → ℕ
begun_by s (Listed jobs) = if begins s jobs.items then 1 else 0
begun_by s (Ran it) = 0
begun_by s (Passed it) = 0
begun_by s Nothing = 0
begun_by s Foreign = 0

-- how many such jobs an answer lists for a round
abbrev pub listed_by : (JobName → Bool) → State → Outcome → ℕ
listed_by is s (Listed jobs) = if begins s jobs.items then count is jobs.items else 0
listed_by is s (Ran it) = 0
listed_by is s (Passed it) = 0
listed_by is s Nothing = 0
listed_by is s Foreign = 0

-- how many such jobs are the first of those that wait
abbrev pub first_of : (JobName → Bool) → List JobName → ℕ
first_of is [] = 0
first_of is (job ∷ waiting) = if is job then 1 else 0

-- how many slices of such jobs were sent and answered, or cut off: the first that waits has one
abbrev pub sliced_by : (JobName → Bool) → State → Outcome → ℕ
sliced_by is s (Listed jobs) = 0
sliced_by is s (Ran it) = first_of is s.waiting
sliced_by is s (Passed it) = first_of is s.waiting
sliced_by is s Nothing = 0
sliced_by is s Foreign = 0

-- how many pauses this is
abbrev pub pauses : Next → ℕ
pauses GoOn = 0
pauses Pause = 1
pauses (End why) = 0

-- how many pauses follow on an answer
abbrev pub paused_by : State → Outcome → ℕ
paused_by s outcome = pauses (next_after s outcome)
