-- slices and rounds
use Rattle.std.proofs.Common.{◌≡◌, ℕ, ◌+◌, ◌≤◌, Bool, if◌then◌else◌, List, [], ◌∷◌, refl, arith}
use Rattle.std.specs.Prelude.{Option}
use Rattle.queue_rounds.specs.Rounds.{State, after, listed, start, turn_of, turned}
use Rattle.queue_rounds.specs.Runs.{after_all, begins, count, first_of, listed_by, sliced_by, total}
use Rattle.queue_rounds.specs.declared.jobs.JobName.{JobName}
use Rattle.queue_rounds.specs.declared.replies.Outcome.{Outcome}
use Rattle.queue_rounds.specs.declared.replies.Outcome.TheVariants.{Listed, Ran, Passed, Nothing, Foreign}
use Rattle.queue_rounds.specs.declared.turns.Turn.{Turn}
use Rattle.queue_rounds.specs.declared.turns.Turn.TheVariants as turn

-- the work with these parts
abbrev pub at : Bool → List JobName → Option ℕ → Bool → Bool → ℕ → ℕ → State
at k w l r o p t = record { keeps = k; waiting = w; left = l; ran = r; passed = o; patience = p; tries = t }

-- a queue lists jobs where none waits, and else changes nothing
listing : (is : JobName → Bool) (k : Bool) (w : List JobName) (l : Option ℕ) (r o : Bool) (p t : ℕ) (jobs : List JobName)
    → count is (listed (at k w l r o p t) jobs).waiting ≡ count is w + (if begins (at k w l r o p t) jobs then count is jobs else 0)
unfolding count
listing is k [] l r o p t [] = refl
listing is k [] l r o p t (job ∷ jobs) = omega arith
listing is k (first ∷ w) l r o p t [] = omega arith
listing is k (first ∷ w) l r o p t (job ∷ jobs) = omega arith

-- a turn is that of the first job that waits
turning : (is : JobName → Bool) (k : Bool) (w : List JobName) (l : Option ℕ) (r o : Bool) (p t : ℕ) (it : Turn)
    → first_of is w + count is (turned it (at k w l r o p t)).waiting ≡ count is w
unfolding count
turning is k [] l r o p t it = refl
turning is k (job ∷ []) l r o p t it = omega arith
turning is k (job ∷ other ∷ rest) l r o p t it = omega arith

one_answer : (is : JobName → Bool) (k : Bool) (w : List JobName) (l : Option ℕ) (r o : Bool) (p t : ℕ) (outcome : Outcome)
    → sliced_by is (at k w l r o p t) outcome + count is (after (at k w l r o p t) outcome).waiting ≡ count is w + listed_by is (at k w l r o p t) outcome
one_answer is k w l r o p t (Listed jobs) = omega (arith, listing is k w l r o p t jobs.items)
one_answer is k w l r o p t (Ran it) = omega (arith, turning is k w l r o p t turn.Ran)
one_answer is k w l r o p t (Passed why) = omega (arith, turning is k w l r o p t (turn_of why))
one_answer is k w l r o p t Nothing = omega arith
one_answer is k w l r o p t Foreign = omega arith

-- what was listed had its slice, or waits
all_answers : (is : JobName → Bool) (s : State) (answers : List Outcome)
    → total (sliced_by is) s answers + count is (after_all s answers).waiting ≡ count is s.waiting + total (listed_by is) s answers
unfolding total after_all
all_answers is s [] = omega arith
all_answers is s (outcome ∷ rest) =
    omega (arith, one_answer is s.keeps s.waiting s.left s.ran s.passed s.patience s.tries outcome, all_answers is (after s outcome) rest)

pub once : (most : Option ℕ) (keeps : Bool) (is : JobName → Bool) (answers : List Outcome)
    → total (sliced_by is) (start most keeps) answers + count is (after_all (start most keeps) answers).waiting ≡ total (listed_by is) (start most keeps) answers
unfolding count
once most keeps is answers = omega (arith, all_answers is (start most keeps) answers)

pub fair : (most : Option ℕ) (keeps : Bool) (is other : JobName → Bool) (answers : List Outcome)
    → total (listed_by is) (start most keeps) answers ≡ total (listed_by other) (start most keeps) answers
    → count other (after_all (start most keeps) answers).waiting ≤ 1
    → total (sliced_by is) (start most keeps) answers ≤ total (sliced_by other) (start most keeps) answers + 1
fair most keeps is other answers same one = omega (arith, once most keeps is answers, once most keeps other answers)
