-- as many rounds as are asked for
use Rattle.std.proofs.Common.{◌≡◌, ℕ, ◌+◌, ◌-◌, ◌≤◌, ◌||◌, ◌==◌, Bool, true, false, not, if◌then◌else◌, List, [], ◌∷◌, Some, refl, sym, ap, subst, arith}
use Rattle.queue_rounds.specs.Rounds.{State, after, has_run, is_passed_over, listed, listed_next, next_after, start, turn_of, turned, turned_next}
use Rattle.queue_rounds.specs.Runs.{all_go_on, begins, begun_by, goes_on, total}
use Rattle.queue_rounds.specs.declared.jobs.JobName.{JobName}
use Rattle.queue_rounds.specs.declared.replies.Outcome.{Outcome}
use Rattle.queue_rounds.specs.declared.replies.Outcome.TheVariants.{Listed, Ran, Passed, Nothing, Foreign}
use Rattle.queue_rounds.specs.declared.rounds.Next.TheVariants.{GoOn, Pause, End}
use Rattle.queue_rounds.specs.declared.rounds.Why.TheVariants as why
use Rattle.queue_rounds.specs.declared.turns.Turn.{Turn}
use Rattle.queue_rounds.specs.declared.turns.Turn.TheVariants as turn
use Rattle.queue_rounds.proofs.EndLemmas.{both_true, not_zero}
use Rattle.queue_rounds.proofs.TurnLemmas.{at}

-- between two rounds another one may be begun
abbrev MayBegin : List JobName → ℕ → Type 0
MayBegin [] m = 1 ≤ m
MayBegin (job ∷ w) m = Unit {0}

-- what is left of so many rounds after an answer
record IsLeft (s : State) (begun m : ℕ) : Type 0 where
  n : ℕ
  left : s.left ≡ Some n
  less : begun + n ≤ m
  may : MayBegin s.waiting n

not_last : (ran passed b c last : Bool)
    → goes_on (if ran then (if last then End why.Rounds else GoOn)
    else (if passed then (if b || last then End why.Idle else Pause) else (if c || last then End why.Spent else Pause))) ≡ true
    → last ≡ false
not_last true passed b c true is = cc
not_last true passed b c false is = refl
not_last false true true c last is = cc
not_last false true false c true is = cc
not_last false true false c false is = refl
not_last false false b true last is = cc
not_last false false b false true is = cc
not_last false false b false false is = refl

listed_left : (k : Bool) (w : List JobName) (m : ℕ) (r o : Bool) (p t : ℕ) (jobs : List JobName) → MayBegin w m
    → goes_on (listed_next (at k w (Some m) r o p t) jobs) ≡ true
    → IsLeft (listed (at k w (Some m) r o p t) jobs) (if begins (at k w (Some m) r o p t) jobs then 1 else 0) m
listed_left true [] m r o p t [] may on = record { n = m; left = refl; less = omega arith; may = may }
listed_left false [] m r o p t [] may on = cc
listed_left k [] m r o p t (job ∷ jobs) may on = record { n = m - 1; left = refl; less = omega (arith, may); may = tt }
listed_left k (first ∷ w) m r o p t jobs may on = record { n = m; left = refl; less = omega arith; may = tt }

turned_left : (k : Bool) (w : List JobName) (m : ℕ) (r o : Bool) (p t : ℕ) (it : Turn) → MayBegin w m
    → goes_on (turned_next it (at k w (Some m) r o p t)) ≡ true → IsLeft (turned it (at k w (Some m) r o p t)) 0 m
turned_left k [] m r o p t it may on = record { n = m; left = refl; less = omega arith; may = may }
turned_left k (job ∷ []) m r o p t it may on = record {
  n = m;
  left = refl;
  less = omega arith;
  may = not_zero m (not_last (r || has_run it) (o || is_passed_over it) (p - 1 == 0) (not k) (m == 0) on);
}
turned_left k (job ∷ other ∷ rest) m r o p t it may on = record { n = m; left = refl; less = omega arith; may = tt }

one_left : (k : Bool) (w : List JobName) (m : ℕ) (r o : Bool) (p t : ℕ) (outcome : Outcome) → MayBegin w m
    → goes_on (next_after (at k w (Some m) r o p t) outcome) ≡ true
    → IsLeft (after (at k w (Some m) r o p t) outcome) (begun_by (at k w (Some m) r o p t) outcome) m
one_left k w m r o p t (Listed jobs) may on = listed_left k w m r o p t jobs.items may on
one_left k w m r o p t (Ran it) may on = turned_left k w m r o p t turn.Ran may on
one_left k w m r o p t (Passed it) may on = turned_left k w m r o p t (turn_of it) may on
one_left k w m r o p t Nothing may on = record { n = m; left = refl; less = omega arith; may = may }
one_left k w m r o p t Foreign may on = cc

with_left : (s : State) (m : ℕ) → s.left ≡ Some m → s ≡ at s.keeps s.waiting (Some m) s.ran s.passed s.patience s.tries
with_left s m is = ap (λ left. at s.keeps s.waiting left s.ran s.passed s.patience s.tries) is

rounds_left : (k : Bool) (w : List JobName) (m : ℕ) (r o : Bool) (p t : ℕ) (answers : List Outcome) → MayBegin w m
    → all_go_on (at k w (Some m) r o p t) answers ≡ true → total begun_by (at k w (Some m) r o p t) answers ≤ m
unfolding total all_go_on
rounds_left k w m r o p t [] may on = omega arith
rounds_left k w m r o p t (outcome ∷ rest) may on =
    let s : State = at k w (Some m) r o p t in
    let next : State = after s outcome in
    let two = both_true (goes_on (next_after s outcome)) (all_go_on next rest) on in
    let is = one_left k w m r o p t outcome may two.0 in
    let same = with_left next is.n is.left in
    let more = rounds_left next.keeps next.waiting is.n next.ran next.passed next.patience next.tries rest is.may (subst (λ (s : State). all_go_on s rest ≡ true) same two.1) in
    omega (arith, is.less, subst (λ (s : State). total begun_by s rest ≤ is.n) (sym same) more)

pub as_asked : (m : ℕ) (keeps : Bool) (answers : List Outcome) → 1 ≤ m → all_go_on (start (Some m) keeps) answers ≡ true
    → total begun_by (start (Some m) keeps) answers ≤ m
as_asked m keeps answers some on = rounds_left keeps [] m false false 10 10 answers some on
