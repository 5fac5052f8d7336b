-- the end of work in which no slice runs
use Rattle.std.proofs.Common.{◌≡◌, ℕ, zero, suc, ◌+◌, ◌-◌, ◌≤◌, ◌&&◌, ◌||◌, ◌==◌, Bool, true, false, not, if◌then◌else◌, List, [], ◌∷◌, refl, arith}
use Rattle.std.specs.Prelude.{Option}
use Rattle.std.specs.List.{list_all}
use Rattle.queue_rounds.specs.Rounds.{State, after, has_run, is_last, is_spent, listed, listed_next, next_after, start, turn_of, turned, turned_next}
use Rattle.queue_rounds.specs.Runs.{after_all, all_go_on, begins, begun_by, goes_on, none_ran, paused_by, pauses, total}
use Rattle.queue_rounds.specs.declared.jobs.JobName.{JobName}
use Rattle.queue_rounds.specs.declared.replies.Outcome.{Outcome}
use Rattle.queue_rounds.specs.declared.replies.Outcome.TheVariants.{Listed, Ran, Passed, Nothing, Foreign}
use Rattle.queue_rounds.specs.declared.replies.Passed.{Passed as WhyPassed}
use Rattle.queue_rounds.specs.declared.rounds.Next.{Next}
use Rattle.queue_rounds.specs.declared.rounds.Next.TheVariants.{Pause, End}
use Rattle.queue_rounds.specs.declared.rounds.Why.{Why}
use Rattle.queue_rounds.specs.declared.rounds.Why.TheVariants as why
use Rattle.queue_rounds.specs.declared.turns.Turn.{Turn}
use Rattle.queue_rounds.specs.declared.turns.Turn.TheVariants as turn
use Rattle.queue_rounds.proofs.TurnLemmas.{at}

pub both_true : (b c : Bool) → (b && c) ≡ true → (b ≡ true) × (c ≡ true)
both_true true c is = (refl, is)
both_true false c is = cc

not_run_if : (b : Bool) → has_run (if b then turn.Spent else turn.PassedOver) ≡ false
not_run_if true = refl
not_run_if false = refl

-- no slice ran in a turn that was passed
not_run : (it : WhyPassed) → has_run (turn_of it) ≡ false
not_run it = not_run_if (is_spent it)

-- what follows on a round without a slice, for this reason where it is the end
abbrev end_if : Why → Bool → Next
end_if y b = if b then End y else Pause

by_test : (y : Why) (b last : Bool) → goes_on (end_if y (b || last)) ≡ true → (b ≡ false) × (pauses (end_if y (b || last)) ≡ 1)
by_test y true last is = cc
by_test y false true is = cc
by_test y false false is = (refl, refl)

pub not_zero : (q : ℕ) → (q == 0) ≡ false → 1 ≤ q
not_zero zero is = cc
not_zero (suc q) is = omega arith

-- where the work goes on, there is patience left, and a pause
idle_goes_on : (q : ℕ) (last : Bool) → goes_on (end_if why.Idle (q == 0 || last)) ≡ true → (1 ≤ q) × (pauses (end_if why.Idle (q == 0 || last)) ≡ 1)
idle_goes_on q last is = let two = by_test why.Idle (q == 0) last is in (not_zero q two.0, two.1)

-- how many rounds more may be begun before one has a slice that runs
abbrev room_of : List JobName → Bool → ℕ → ℕ
room_of [] r p = p
room_of (job ∷ w) true p = 10
room_of (job ∷ w) false p = p - 1

abbrev room : State → ℕ
room s = room_of s.waiting s.ran s.patience

-- how many rounds were begun in which no slice ran so far, and that are not over
abbrev underway_of : List JobName → Bool → ℕ
underway_of [] r = 0
underway_of (job ∷ w) true = 0
underway_of (job ∷ w) false = 1

abbrev underway : State → ℕ
underway s = underway_of s.waiting s.ran

-- the patience of work that goes on, and is not kept up
record IsPatient (s : State) : Type 0 where
  ends : s.keeps ≡ false
  some : 1 ≤ s.patience
  most : s.patience ≤ 10

listed_patient : (k : Bool) (w : List JobName) (l : Option ℕ) (r o : Bool) (p t : ℕ) (jobs : List JobName) → IsPatient (at k w l r o p t)
    → IsPatient (listed (at k w l r o p t) jobs)
listed_patient k [] l r o p t [] is = record { ends = is.ends; some = is.some; most = is.most }
listed_patient k [] l r o p t (job ∷ jobs) is = record { ends = is.ends; some = is.some; most = is.most }
listed_patient k (first ∷ w) l r o p t [] is = record { ends = is.ends; some = is.some; most = is.most }
listed_patient k (first ∷ w) l r o p t (job ∷ jobs) is = record { ends = is.ends; some = is.some; most = is.most }

turned_patient : (k : Bool) (w : List JobName) (l : Option ℕ) (r o : Bool) (p t : ℕ) (it : Turn) → IsPatient (at k w l r o p t)
    → goes_on (turned_next it (at k w l r o p t)) ≡ true → IsPatient (turned it (at k w l r o p t))
turned_patient k [] l r o p t it is on = record { ends = is.ends; some = is.some; most = is.most }
turned_patient k (job ∷ []) l true o p t it is on = record { ends = is.ends; some = omega arith; most = omega arith }
turned_patient k (job ∷ []) l false o p t turn.Ran is on = record { ends = is.ends; some = omega arith; most = omega arith }
turned_patient k (job ∷ []) l false true p t turn.Spent is on =
    record { ends = is.ends; some = (idle_goes_on (p - 1) (is_last l) on).0; most = omega (arith, is.most) }
turned_patient k (job ∷ []) l false false p t turn.Spent is on = record { ends = is.ends; some = is.some; most = is.most }
turned_patient k (job ∷ []) l false true p t turn.PassedOver is on =
    record { ends = is.ends; some = (idle_goes_on (p - 1) (is_last l) on).0; most = omega (arith, is.most) }
turned_patient k (job ∷ []) l false false p t turn.PassedOver is on =
    record { ends = is.ends; some = (idle_goes_on (p - 1) (is_last l) on).0; most = omega (arith, is.most) }
turned_patient k (job ∷ other ∷ rest) l r o p t it is on = record { ends = is.ends; some = is.some; most = is.most }

patient : (k : Bool) (w : List JobName) (l : Option ℕ) (r o : Bool) (p t : ℕ) (outcome : Outcome) → IsPatient (at k w l r o p t)
    → goes_on (next_after (at k w l r o p t) outcome) ≡ true → IsPatient (after (at k w l r o p t) outcome)
patient k w l r o p t (Listed jobs) is on = listed_patient k w l r o p t jobs.items is
patient k w l r o p t (Ran it) is on = turned_patient k w l r o p t turn.Ran is on
patient k w l r o p t (Passed it) is on = turned_patient k w l r o p t (turn_of it) is on
patient k w l r o p t Nothing is on = record { ends = is.ends; some = is.some; most = is.most }
patient k w l r o p t Foreign is on = is

all_patient : (s : State) (answers : List Outcome) → IsPatient s → all_go_on s answers ≡ true → IsPatient (after_all s answers)
unfolding after_all all_go_on
all_patient s [] is on = is
all_patient s (outcome ∷ rest) is on =
    let two = both_true (goes_on (next_after s outcome)) (all_go_on (after s outcome) rest) on in
    all_patient (after s outcome) rest (patient s.keeps s.waiting s.left s.ran s.passed s.patience s.tries outcome is two.0) two.1

-- ---- answers in which no slice ran

listed_room : (k : Bool) (w : List JobName) (l : Option ℕ) (r o : Bool) (p t : ℕ) (jobs : List JobName) → 1 ≤ p
    → goes_on (listed_next (at k w l r o p t) jobs) ≡ true
    → (if begins (at k w l r o p t) jobs then 1 else 0) + room (listed (at k w l r o p t) jobs) ≤ room (at k w l r o p t)
listed_room true [] l r o p t [] some on = omega arith
listed_room false [] l r o p t [] some on = cc
listed_room k [] l r o p t (job ∷ jobs) some on = omega (arith, some)
listed_room k (first ∷ w) l r o p t [] some on = omega arith
listed_room k (first ∷ w) l r o p t (job ∷ jobs) some on = omega arith

listed_underway : (k : Bool) (w : List JobName) (l : Option ℕ) (r o : Bool) (p t : ℕ) (jobs : List JobName)
    → goes_on (listed_next (at k w l r o p t) jobs) ≡ true
    → (if begins (at k w l r o p t) jobs then 1 else 0) + underway (at k w l r o p t) ≤ pauses (listed_next (at k w l r o p t) jobs) + underway (listed (at k w l r o p t) jobs)
listed_underway true [] l r o p t [] on = omega arith
listed_underway false [] l r o p t [] on = cc
listed_underway k [] l r o p t (job ∷ jobs) on = omega arith
listed_underway k (first ∷ w) l r o p t [] on = omega arith
listed_underway k (first ∷ w) l r o p t (job ∷ jobs) on = omega arith

passed_room : (k : Bool) (w : List JobName) (l : Option ℕ) (r o : Bool) (p t : ℕ) (it : Turn) → k ≡ false → has_run it ≡ false
    → goes_on (turned_next it (at k w l r o p t)) ≡ true → room (turned it (at k w l r o p t)) ≤ room (at k w l r o p t)
passed_room k [] l r o p t it ends none on = omega arith
passed_room k w l r o p t turn.Ran ends none on = cc
passed_room k (job ∷ []) l true o p t turn.Spent ends none on = omega arith
passed_room k (job ∷ []) l true o p t turn.PassedOver ends none on = omega arith
passed_room k (job ∷ []) l false true p t turn.Spent ends none on = omega arith
passed_room true (job ∷ []) l false false p t turn.Spent ends none on = cc
passed_room false (job ∷ []) l false false p t turn.Spent ends none on = cc
passed_room k (job ∷ []) l false true p t turn.PassedOver ends none on = omega arith
passed_room k (job ∷ []) l false false p t turn.PassedOver ends none on = omega arith
passed_room k (job ∷ other ∷ rest) l true o p t turn.Spent ends none on = omega arith
passed_room k (job ∷ other ∷ rest) l true o p t turn.PassedOver ends none on = omega arith
passed_room k (job ∷ other ∷ rest) l false o p t turn.Spent ends none on = omega arith
passed_room k (job ∷ other ∷ rest) l false o p t turn.PassedOver ends none on = omega arith

passed_underway : (k : Bool) (w : List JobName) (l : Option ℕ) (r o : Bool) (p t : ℕ) (it : Turn) → has_run it ≡ false
    → goes_on (turned_next it (at k w l r o p t)) ≡ true
    → underway (at k w l r o p t) ≤ pauses (turned_next it (at k w l r o p t)) + underway (turned it (at k w l r o p t))
passed_underway k [] l r o p t it none on = omega arith
passed_underway k w l r o p t turn.Ran none on = cc
passed_underway k (job ∷ []) l true o p t turn.Spent none on = omega arith
passed_underway k (job ∷ []) l true o p t turn.PassedOver none on = omega arith
passed_underway k (job ∷ []) l false true p t turn.Spent none on = omega (arith, (idle_goes_on (p - 1) (is_last l) on).1)
passed_underway k (job ∷ []) l false false p t turn.Spent none on = omega (arith, (by_test why.Spent (not k) (is_last l) on).1)
passed_underway k (job ∷ []) l false true p t turn.PassedOver none on = omega (arith, (idle_goes_on (p - 1) (is_last l) on).1)
passed_underway k (job ∷ []) l false false p t turn.PassedOver none on = omega (arith, (idle_goes_on (p - 1) (is_last l) on).1)
passed_underway k (job ∷ other ∷ rest) l true o p t turn.Spent none on = omega arith
passed_underway k (job ∷ other ∷ rest) l true o p t turn.PassedOver none on = omega arith
passed_underway k (job ∷ other ∷ rest) l false o p t turn.Spent none on = omega arith
passed_underway k (job ∷ other ∷ rest) l false o p t turn.PassedOver none on = omega arith

less_room : (k : Bool) (w : List JobName) (l : Option ℕ) (r o : Bool) (p t : ℕ) (outcome : Outcome) → IsPatient (at k w l r o p t)
    → none_ran outcome ≡ true → goes_on (next_after (at k w l r o p t) outcome) ≡ true
    → begun_by (at k w l r o p t) outcome + room (after (at k w l r o p t) outcome) ≤ room (at k w l r o p t)
less_room k w l r o p t (Listed jobs) is none on = listed_room k w l r o p t jobs.items is.some on
less_room k w l r o p t (Ran it) is none on = cc
less_room k w l r o p t (Passed it) is none on = omega (arith, passed_room k w l r o p t (turn_of it) is.ends (not_run it) on)
less_room k w l r o p t Nothing is none on = omega arith
less_room k w l r o p t Foreign is none on = cc

more_underway : (k : Bool) (w : List JobName) (l : Option ℕ) (r o : Bool) (p t : ℕ) (outcome : Outcome) → none_ran outcome ≡ true
    → goes_on (next_after (at k w l r o p t) outcome) ≡ true
    → begun_by (at k w l r o p t) outcome + underway (at k w l r o p t) ≤ paused_by (at k w l r o p t) outcome + underway (after (at k w l r o p t) outcome)
more_underway k w l r o p t (Listed jobs) none on = listed_underway k w l r o p t jobs.items on
more_underway k w l r o p t (Ran it) none on = cc
more_underway k w l r o p t (Passed it) none on = omega (arith, passed_underway k w l r o p t (turn_of it) (not_run it) on)
more_underway k w l r o p t Nothing none on = omega arith
more_underway k w l r o p t Foreign none on = cc

rounds_in_room : (s : State) (answers : List Outcome) → IsPatient s → list_all none_ran answers ≡ true → all_go_on s answers ≡ true
    → total begun_by s answers + room (after_all s answers) ≤ room s
unfolding total after_all all_go_on
rounds_in_room s [] is none on = omega arith
rounds_in_room s (outcome ∷ rest) is none on =
    let two = both_true (goes_on (next_after s outcome)) (all_go_on (after s outcome) rest) on in
    let nones = both_true (none_ran outcome) (list_all none_ran rest) none in
    omega (
      arith,
      less_room s.keeps s.waiting s.left s.ran s.passed s.patience s.tries outcome is nones.0 two.0,
      rounds_in_room (after s outcome) rest (patient s.keeps s.waiting s.left s.ran s.passed s.patience s.tries outcome is two.0) nones.1 two.1,
    )

rounds_and_pauses : (s : State) (answers : List Outcome) → list_all none_ran answers ≡ true → all_go_on s answers ≡ true
    → total begun_by s answers + underway s ≤ total paused_by s answers + underway (after_all s answers)
unfolding total after_all all_go_on
rounds_and_pauses s [] none on = omega arith
rounds_and_pauses s (outcome ∷ rest) none on =
    let two = both_true (goes_on (next_after s outcome)) (all_go_on (after s outcome) rest) on in
    let nones = both_true (none_ran outcome) (list_all none_ran rest) none in
    omega (
      arith,
      more_underway s.keeps s.waiting s.left s.ran s.passed s.patience s.tries outcome nones.0 two.0,
      rounds_and_pauses (after s outcome) rest nones.1 two.1,
    )

room_most : (w : List JobName) (r : Bool) (p : ℕ) → p ≤ 10 → room_of w r p ≤ 10
room_most [] r p most = most
room_most (job ∷ w) true p most = omega arith
room_most (job ∷ w) false p most = omega (arith, most)

underway_most : (w : List JobName) (r : Bool) → underway_of w r ≤ 1
underway_most [] r = omega arith
underway_most (job ∷ w) true = omega arith
underway_most (job ∷ w) false = omega arith

-- ---- the law

at_start : (most : Option ℕ) → IsPatient (start most false)
at_start most = record { ends = refl; some = omega arith; most = omega arith }

pub ten_rounds : (most : Option ℕ) (earlier later : List Outcome) → all_go_on (start most false) earlier ≡ true
    → all_go_on (after_all (start most false) earlier) later ≡ true → list_all none_ran later ≡ true
    → total begun_by (after_all (start most false) earlier) later ≤ 10
ten_rounds most earlier later before on none =
    let s : State = after_all (start most false) earlier in
    let is = all_patient (start most false) earlier (at_start most) before in
    omega (arith, rounds_in_room s later is none on, room_most s.waiting s.ran s.patience is.most)

pub with_pauses : (most : Option ℕ) (keeps : Bool) (earlier later : List Outcome)
    → all_go_on (after_all (start most keeps) earlier) later ≡ true → list_all none_ran later ≡ true
    → total begun_by (after_all (start most keeps) earlier) later ≤ total paused_by (after_all (start most keeps) earlier) later + 1
with_pauses most keeps earlier later on none =
    let s : State = after_all (start most keeps) earlier in
    let e : State = after_all s later in
    omega (arith, rounds_and_pauses s later none on, underway_most e.waiting e.ran)
