-- the rounds in which a bureau's queue is run: what is asked for, and when the work ends
use Rattle.std.specs.Prelude.{ℕ, ◌-◌, ◌&&◌, ◌||◌, ◌==◌, Bool, true, false, not, if◌then◌else◌, List, [], ◌∷◌, Option, Some, None}
use Rattle.queue_rounds.specs.declared.jobs.JobName.{JobName}
use Rattle.queue_rounds.specs.declared.replies.Outcome.{Outcome}
use Rattle.queue_rounds.specs.declared.replies.Outcome.TheVariants.{Listed, Ran, Passed, Nothing, Foreign}
use Rattle.queue_rounds.specs.declared.replies.Passed.{Passed as WhyPassed}
use Rattle.queue_rounds.specs.declared.replies.Passed.TheVariants as passed
use Rattle.queue_rounds.specs.declared.rounds.Next.{Next}
use Rattle.queue_rounds.specs.declared.rounds.Next.TheVariants.{GoOn, Pause, End}
use Rattle.queue_rounds.specs.declared.rounds.Rounds.{Rounds}
use Rattle.queue_rounds.specs.declared.rounds.Why.TheVariants as why
use Rattle.queue_rounds.specs.declared.turns.Turn.{Turn}
use Rattle.queue_rounds.specs.declared.turns.Turn.TheVariants as turn

-- whether a job was granted all the instructions that a job can be: refusal 28 says so
abbrev pub is_spent : WhyPassed → Bool
is_spent (passed.Refused number) = number == 28
is_spent (passed.Failed status) = false
is_spent passed.Lost = false

-- what came of a turn in which no slice ran
abbrev pub turn_of : WhyPassed → Turn
turn_of why = if is_spent why then turn.Spent else turn.PassedOver

-- whether a slice ran in a turn
abbrev pub has_run : Turn → Bool
has_run turn.Ran = true
has_run turn.Spent = false
has_run turn.PassedOver = false

-- whether a job was passed over in its turn that can be granted more
abbrev pub is_passed_over : Turn → Bool
is_passed_over turn.Ran = false
is_passed_over turn.Spent = false
is_passed_over turn.PassedOver = true

-- where the work on a queue is: whether it is kept up when there is nothing to run, the jobs that
-- wait for their slice of this round, how many rounds may still be begun if there is a limit,
-- whether a slice of this round ran, whether a job was passed over in it that can be granted more,
-- how many rounds in a row may still be without a slice that runs though there are such jobs, and
-- how many requests in a row may still fail
pub record State : Type 0 where
  pub keeps : Bool
  pub waiting : List JobName
  pub left : Option ℕ
  pub ran : Bool
  pub passed : Bool
  pub patience : ℕ
  pub tries : ℕ

-- where the work of the program is
abbrev pub state_of : Rounds → State
state_of rounds = record {
  keeps = rounds.keeps;
  waiting = rounds.turns.waiting.items;
  left = rounds.left;
  ran = rounds.ran;
  passed = rounds.passed;
  patience = rounds.patience;
  tries = rounds.tries;
}

-- the work before the first request: ten rounds in a row may be without a slice that runs, and ten
-- requests in a row may fail and be made again
abbrev pub start : Option ℕ → Bool → State
start most keeps = record {
  keeps = keeps;
  waiting = [];
  left = most;
  ran = false;
  passed = false;
  patience = 10;
  tries = 10;
}

-- whether these are no jobs
abbrev pub is_empty : List JobName → Bool
is_empty [] = true
is_empty (job ∷ jobs) = false

-- the jobs that wait once the first one had its turn
abbrev pub behind_first : List JobName → List JobName
behind_first [] = []
behind_first (job ∷ waiting) = waiting

-- the jobs that wait, or if none does, these
abbrev pub waiting_or : List JobName → List JobName → List JobName
waiting_or [] jobs = jobs
waiting_or (job ∷ waiting) jobs = job ∷ waiting

-- a number of rounds less one
abbrev pub one_less : Option ℕ → Option ℕ
one_less None = None
one_less (Some count) = Some (count - 1)

-- whether no other round may be begun
abbrev pub is_last : Option ℕ → Bool
is_last None = false
is_last (Some count) = count == 0

-- the work after the queue had these jobs: a round begins where none waits and there are any
abbrev pub listed : State → List JobName → State
listed s jobs = if is_empty s.waiting && not (is_empty jobs)
    then record s {
      waiting = jobs;
      left = one_less s.left;
      ran = false;
      passed = false;
      tries = 10;
    }
    else record s { tries = 10 }

-- what follows on it: an empty queue is the end, unless the work is kept up
abbrev pub listed_next : State → List JobName → Next
listed_next s jobs = if is_empty s.waiting && is_empty jobs
    then (if s.keeps then Pause else End why.Empty)
    else GoOn

-- the work after a round: a slice that ran in it renews the patience, and one without a job that
-- can be granted more takes none
abbrev pub ended : State → State
ended s = record s {
  patience = if s.ran then 10 else (if s.passed then s.patience - 1 else s.patience);
}

-- what follows on a round without a slice that ran, though there were jobs that can be granted more
abbrev pub idle_next : State → Next
idle_next s = if s.patience - 1 == 0 || is_last s.left then End why.Idle else Pause

-- what follows on a round in which each job was granted all already
abbrev pub spent_next : State → Next
spent_next s = if not s.keeps || is_last s.left then End why.Spent else Pause

-- what follows on a round: a pause if no slice ran in it
abbrev pub ended_next : State → Next
ended_next s =
    if s.ran then (if is_last s.left then End why.Rounds else GoOn)
    else (if s.passed then idle_next s else spent_next s)

-- how many rounds in a row, up to now, were without a slice that ran
abbrev pub idle_rounds : State → ℕ
idle_rounds s = 10 - s.patience

-- the work once the first job had its turn
abbrev pub taken : Turn → State → State
taken it s = record s {
  waiting = behind_first s.waiting;
  ran = s.ran || has_run it;
  passed = s.passed || is_passed_over it;
  tries = 10;
}

-- the work after a turn: the last one of a round ends it
abbrev pub turned : Turn → State → State
turned it s = if is_empty s.waiting then record s { tries = 10 }
    else (if is_empty (behind_first s.waiting) then ended (taken it s) else taken it s)

-- what follows on a turn
abbrev pub turned_next : Turn → State → Next
turned_next it s = if is_empty s.waiting then GoOn
    else (if is_empty (behind_first s.waiting) then ended_next (taken it s) else GoOn)

-- the work after a request that failed
abbrev pub failed : State → State
failed s = record s { tries = s.tries - 1 }

-- what follows on it: it is made again after a pause
abbrev pub failed_next : State → Next
failed_next s = if s.tries == 0 then End why.Away else Pause

-- the work after an answer
abbrev pub after : State → Outcome → State
after s (Listed jobs) = listed s jobs.items
after s (Ran it) = turned turn.Ran s
after s (Passed it) = turned (turn_of it) s
after s Nothing = failed s
after s Foreign = s

-- what follows on an answer
abbrev pub next_after : State → Outcome → Next
next_after s (Listed jobs) = listed_next s jobs.items
next_after s (Ran it) = turned_next turn.Ran s
next_after s (Passed it) = turned_next (turn_of it) s
next_after s Nothing = failed_next s
next_after s Foreign = End why.Foreign
