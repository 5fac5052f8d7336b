-- the refusal of a command on a job is the first reason that holds
use Rattle.std.proofs.Common.{◌≡◌, ◌≢◌, ◌∙◌, ℕ, ◌+◌, ◌<◌, ◌≤◌, ◌↔◌, Bool, true, false, not, List, [], ◌∷◌, refl, sym, ap, subst, arith, inl, inr, true≢false}
use Rattle.std.specs.Prelude.{⊤, String, Option, Some, None, if◌then◌else◌, nat_lt, string_bytes}
use Rattle.std.specs.declared.alloc.Global.{Global}
use Rattle.std.proofs.lemmas.Bool.{cases_lt}
use Rattle.std.proofs.lemmas.Bool.Decides.{nat_tests}
use Rattle.machine.specs.Standings.{goes_on, is_at_halt, standing_at}
use Rattle.machine.specs.declared.standings.Standing.{Standing}
use Rattle.machine.specs.declared.standings.Standing.TheVariants as standing
use Rattle.office.specs.Jobs.{Job, granted, picture}
use Rattle.office.specs.Kept.{Kept, answered, job_refusal, kept_of, refused_if, summary_of, take_kept, taken_unless}
use Rattle.office.specs.Limits.{most_granted, is_limit}
use Rattle.texts.specs.Names.{is_customer, is_number}
use Rattle.office.specs.Office.{Office, commanded, early_refusal, job_of, value_refusal, served, take, taken}
use Rattle.office.specs.declared.commands.Command.{Command}
use Rattle.office.specs.declared.commands.Command.TheVariants as command
use Rattle.office.specs.declared.commands.JobCommand.{JobCommand}
use Rattle.office.specs.declared.commands.JobCommand.TheVariants.{Slice, Start, Hold, Release, Collect, Standing as Tell, Cards, Lines}
use Rattle.office.specs.declared.refusals.Refusal.{Refusal}
use Rattle.office.specs.declared.refusals.Refusal.TheVariants as refusal
use Rattle.office.specs.declared.replies.Reply.TheVariants as reply
use Rattle.office.specs.declared.stackers.Stacker.{Stacker}
use Rattle.office.specs.declared.stackers.Stacker.TheVariants.{All, Of, Unknown}
use Rattle.bureau_laws.specs.Refusals.{Holds, HoldsIn, HoldsNone, HoldsOfJob, IsFirst, IsAvailable, IsLetThrough, IsQuery, IsRefusedWhere, IsStoppedByHold, tested_for}

-- ---- reasons in order

-- the refusal is the first of these reasons that holds, or there is none and none of them holds
abbrev Agrees : Option Refusal → (Refusal → Type 0) → List Refusal → Type 0
Agrees (Some reason) holds tests = IsFirst holds tests reason
Agrees None holds tests = HoldsNone holds tests

first_once : (holds : Refusal → Type 0) (tests : List Refusal) (r s : Refusal) → IsFirst holds tests r → IsFirst holds tests s → r ≡ s
first_once holds [] r s a b = absurd a
first_once holds (t ∷ tests) r s (inl a) (inl b) = a.1 ∙ sym b.1
first_once holds (t ∷ tests) r s (inl a) (inr b) = absurd (b.0 a.0)
first_once holds (t ∷ tests) r s (inr a) (inl b) = absurd (a.0 b.0)
first_once holds (t ∷ tests) r s (inr a) (inr b) = first_once holds tests r s a.1 b.1

first_or_none : (holds : Refusal → Type 0) (tests : List Refusal) (r : Refusal) → IsFirst holds tests r → HoldsNone holds tests → ⊥
first_or_none holds [] r a none = a
first_or_none holds (t ∷ tests) r (inl a) none = none.0 a.0
first_or_none holds (t ∷ tests) r (inr a) none = first_or_none holds tests r a.1 none.1

given_first : (o : Option Refusal) (holds : Refusal → Type 0) (tests : List Refusal) (r : Refusal) → Agrees o holds tests → (o ≡ Some r) ↔ IsFirst holds tests r
given_first (Some s) holds tests r is = (
  λ e. let same : s ≡ r = cc in subst (λ (x : Refusal). IsFirst holds tests x) same is,
  λ first. ap (λ (x : Refusal). Some x) (first_once holds tests s r is first),
)
given_first None holds tests r is = (λ e. absurd (cc), λ first. absurd (first_or_none holds tests r first is))

given_none : (o : Option Refusal) (holds : Refusal → Type 0) (tests : List Refusal) → Agrees o holds tests → ((r : Refusal) → ¬ (o ≡ Some r)) ↔ HoldsNone holds tests
given_none (Some s) holds tests is = (λ never. absurd (never s refl), λ none. absurd (first_or_none holds tests s is none))
given_none None holds tests is = (λ never. is, λ none r e. absurd (cc))

-- a test in front of the others
step : (b : Bool) (first : Refusal) (o : Option Refusal) (holds : Refusal → Type 0) (others : List Refusal)
    → (b ≡ true → holds first) → (b ≡ false → ¬ holds first) → Agrees o holds others → Agrees (if b then Some first else o) holds (first ∷ others)
step true first o holds others given lacking rest = inl (given refl, refl)
step false first (Some reason) holds others given lacking rest = inr (lacking refl, rest)
step false first None holds others given lacking rest = (lacking refl, rest)

-- the last test
last : (b : Bool) (reason : Refusal) (holds : Refusal → Type 0) → (b ≡ true → holds reason) → (b ≡ false → ¬ holds reason)
    → Agrees (refused_if b reason) holds (reason ∷ [])
last true reason holds given lacking = inl (given refl, refl)
last false reason holds given lacking = (lacking refl, tt)

-- a test in front that fails
pass : (first : Refusal) (o : Option Refusal) (holds : Refusal → Type 0) (others : List Refusal) → ¬ holds first → Agrees o holds others → Agrees o holds (first ∷ others)
pass first (Some reason) holds others lacking rest = inr (lacking, rest)
pass first None holds others lacking rest = (lacking, rest)

-- the same of these reasons hold either way
abbrev AllSame : (Refusal → Type 0) → (Refusal → Type 0) → List Refusal → Type 0
AllSame P Q [] = ⊤
AllSame P Q (t ∷ tests) = (P t ↔ Q t) × AllSame P Q tests

first_alike : (P Q : Refusal → Type 0) (tests : List Refusal) (r : Refusal) → AllSame P Q tests → IsFirst P tests r → IsFirst Q tests r
first_alike P Q [] r same first = absurd first
first_alike P Q (t ∷ tests) r same (inl a) = inl (same.0.0 a.0, a.1)
first_alike P Q (t ∷ tests) r same (inr a) = inr ((λ h. a.0 (same.0.1 h)), first_alike P Q tests r same.1 a.1)

none_alike : (P Q : Refusal → Type 0) (tests : List Refusal) → AllSame P Q tests → HoldsNone P tests → HoldsNone Q tests
none_alike P Q [] same none = tt
none_alike P Q (t ∷ tests) same none = ((λ h. none.0 (same.0.1 h)), none_alike P Q tests same.1 none.1)

alike : (o : Option Refusal) (P Q : Refusal → Type 0) (tests : List Refusal) → AllSame P Q tests → Agrees o P tests → Agrees o Q tests
alike (Some r) P Q tests same is = first_alike P Q tests r same is
alike None P Q tests same is = none_alike P Q tests same is

-- ---- tests

was_false : (b : Bool) → not b ≡ true → b ≡ false
was_false true e = absurd (true≢false (sym e))
was_false false e = refl

was_true : (b : Bool) → not b ≡ false → b ≢ false
was_true true e same = true≢false same
was_true false e same = true≢false e

not_true : {b : Bool} → b ≡ false → ¬ (b ≡ true)
not_true lacking given = true≢false (sym given ∙ lacking)

below : (a b : ℕ) → nat_lt a b ≡ true → a < b
below a b e = grind (arith, nat_tests)

not_below : (a b : ℕ) → nat_lt a b ≡ false → ¬ (a < b)
not_below a b e less = grind (arith, nat_tests)

runs : (s : Standing) (i : ℕ) → goes_on (standing_at s i) ≡ true → s ≡ standing.Running
runs standing.Running i e = refl
runs standing.Halted i e = absurd (true≢false (sym e))
runs (standing.Checked check) i e = absurd (true≢false (sym e))

stands : (s : Standing) (i : ℕ) → goes_on (standing_at s i) ≡ false → ¬ (s ≡ standing.Running)
stands standing.Running i e same = true≢false e
stands standing.Halted i e same = absurd (cc)
stands (standing.Checked check) i e same = absurd (cc)

halts : (s : Standing) (i : ℕ) → is_at_halt (standing_at s i) ≡ true → s ≡ standing.Halted
halts standing.Running i e = absurd (true≢false (sym e))
halts standing.Halted i e = refl
halts (standing.Checked check) i e = absurd (true≢false (sym e))

no_halt : (s : Standing) (i : ℕ) → is_at_halt (standing_at s i) ≡ false → ¬ (s ≡ standing.Halted)
no_halt standing.Running i e same = absurd (cc)
no_halt standing.Halted i e same = true≢false e
no_halt (standing.Checked check) i e same = absurd (cc)

was_not_false : (b : Bool) → not b ≡ false → b ≡ true
was_not_false true e = refl
was_not_false false e = absurd (true≢false e)

does_run : (s : Standing) → ¬ ¬ (s ≡ standing.Running) → s ≡ standing.Running
does_run standing.Running stands_not = refl
does_run standing.Halted stands_not = absurd (stands_not (λ e. absurd (cc)))
does_run (standing.Checked check) stands_not = absurd (stands_not (λ e. absurd (cc)))

does_halt : (s : Standing) → ¬ ¬ (s ≡ standing.Halted) → s ≡ standing.Halted
does_halt standing.Running goes_not = absurd (goes_not (λ e. absurd (cc)))
does_halt standing.Halted goes_not = refl
does_halt (standing.Checked check) goes_not = absurd (goes_not (λ e. absurd (cc)))

is_set : (b : Bool) → ¬ ¬ (b ≡ true) → b ≡ true
is_set true unset = refl
is_set false unset = absurd (unset (λ e. true≢false (sym e)))

no_more : (a b : ℕ) → ¬ (a < b) → b ≤ a
no_more a b never = elim (cases_lt a b) [ inl less ↦ absurd (never less) | inr most ↦ most ]

-- ---- the tests of a job

-- the reasons for which a command on a job that is there may be refused
abbrev job_tests : JobCommand → List Refusal
job_tests (Slice limit) = refusal.Collected ∷ refusal.Held ∷ refusal.NotRunning ∷ refusal.TooMuch ∷ []
job_tests (Start switches) = refusal.Collected ∷ refusal.Held ∷ refusal.NotAtHalt ∷ []
job_tests Hold = refusal.Collected ∷ refusal.AlreadyHeld ∷ []
job_tests Release = refusal.Collected ∷ refusal.NotHeld ∷ []
job_tests Collect = refusal.Collected ∷ refusal.Held ∷ refusal.NotAtHalt ∷ []
job_tests query = []

module _ (job : Job) where
  abbrev state : Standing
  state = (picture job).standing

  abbrev next : ℕ
  next = (picture job).works.registers.i

  abbrev why : JobCommand → Option Refusal
  why c = job_refusal c (summary_of (kept_of job))

  abbrev has : JobCommand → Refusal → Type 0
  has c reason = Holds reason c job

  collected : (c : JobCommand) (o : Option Refusal) (others : List Refusal) → ¬ IsQuery c → Agrees o (has c) others
      → Agrees (if job.collected then Some refusal.Collected else o) (has c) (refusal.Collected ∷ others)
  collected c o others change rest = step job.collected refusal.Collected o (has c) others (λ e. (change, e)) (λ e h. not_true e h.1) rest

  held : (c : JobCommand) (o : Option Refusal) (others : List Refusal) → IsStoppedByHold c → Agrees o (has c) others
      → Agrees (if job.held then Some refusal.Held else o) (has c) (refusal.Held ∷ others)
  held c o others stopped rest = step job.held refusal.Held o (has c) others (λ e. (stopped, e)) (λ e h. not_true e h.1) rest

  of_job : (c : JobCommand) → Agrees (why c) (has c) (job_tests c)
  of_job (Slice limit) =
      let c = Slice limit in
      collected c _ _ (λ q. q) (held c _ _ tt
      (step (not (goes_on (standing_at state next))) refusal.NotRunning _ (has c) _
      (λ e. stands state next (was_false (goes_on (standing_at state next)) e))
      (λ e h. h (runs state next (was_not_false (goes_on (standing_at state next)) e)))
      (last (nat_lt most_granted (granted job.stretches + limit)) refusal.TooMuch (has c)
      (λ e. below most_granted (granted job.stretches + limit) e) (λ e. not_below most_granted (granted job.stretches + limit) e))))
  of_job (Start switches) =
      let c = Start switches in
      collected c _ _ (λ q. q) (held c _ _ tt
      (last (not (is_at_halt (standing_at state next))) refusal.NotAtHalt (has c)
      (λ e. no_halt state next (was_false (is_at_halt (standing_at state next)) e))
      (λ e h. h (halts state next (was_not_false (is_at_halt (standing_at state next)) e)))))
  of_job Hold = collected Hold _ _ (λ q. q) (last job.held refusal.AlreadyHeld (has Hold) (λ e. e) (λ e. not_true e))
  of_job Release =
      collected Release _ _ (λ q. q)
      (last (not job.held) refusal.NotHeld (has Release) (λ e. not_true (was_false job.held e)) (λ e h. h (was_not_false job.held e)))
  of_job Collect =
      collected Collect _ _ (λ q. q) (held Collect _ _ tt
      (last (goes_on (standing_at state next)) refusal.NotAtHalt (has Collect) (λ e. runs state next e) (λ e. stands state next e)))
  of_job Tell = tt
  of_job (Cards from) = tt
  of_job Lines = tt

-- ---- replies to a command on a job

no_refusal : (c : JobCommand) (k : Kept) (r : Refusal) → ¬ (answered c k ≡ reply.Refused r)
no_refusal (Slice limit) k r e = absurd (cc)
no_refusal (Start switches) k r e = absurd (cc)
no_refusal Hold k r e = absurd (cc)
no_refusal Release k r e = absurd (cc)
no_refusal Collect k r e = absurd (cc)
no_refusal Tell k r e = absurd (cc)
no_refusal (Cards from) k r e = absurd (cc)
no_refusal Lines k r e = absurd (cc)

of_kept : (c : JobCommand) (k : Kept) (o : Option Refusal) (r : Refusal) → ((taken_unless c k o).1 ≡ reply.Refused r) ↔ (o ≡ Some r)
of_kept c k (Some s) r = (λ e. let same : s ≡ r = cc in ap (λ (x : Refusal). Some x) same, λ e. let same : s ≡ r = cc in ap (λ (x : Refusal). reply.Refused x) same)
of_kept c k None r = (λ e. absurd (no_refusal c k r e), λ e. absurd (cc))

-- ---- exactly where

module _ (job : Job) where
  -- what is tested first does not hold
  free : (c : JobCommand) → ¬ IsQuery c → IsStoppedByHold c → ¬ Holds refusal.Collected c job → ¬ Holds refusal.Held c job → IsAvailable job
  free c change stopped a b = ((λ held. b (stopped, held)), (λ collected. a (change, collected)))

  as_where : (c : JobCommand) (r s : Refusal) → s ≡ r → IsRefusedWhere r c job → IsRefusedWhere s c job
  as_where c r s same it = subst (λ (x : Refusal). IsRefusedWhere x c job) (sym same) it

  first_where : (c : JobCommand) (r : Refusal) → IsFirst (has job c) (job_tests c) r → IsRefusedWhere r c job
  first_where (Slice limit) r (inl a) = as_where (Slice limit) _ r a.1 a.0
  first_where (Slice limit) r (inr (a, inl b)) = as_where (Slice limit) _ r b.1 (b.0.0, b.0.1, λ h. a ((λ q. q), h))
  first_where (Slice limit) r (inr (a, inr (b, inl d))) = as_where (Slice limit) _ r d.1 (free (Slice limit) (λ q. q) tt a b, d.0)
  first_where (Slice limit) r (inr (a, inr (b, inr (d, inl f)))) =
      as_where (Slice limit) _ r f.1 (free (Slice limit) (λ q. q) tt a b, does_run (state job) d, f.0)
  first_where (Slice limit) r (inr (a, inr (b, inr (d, inr f)))) = absurd f.1
  first_where (Start switches) r (inl a) = as_where (Start switches) _ r a.1 a.0
  first_where (Start switches) r (inr (a, inl b)) = as_where (Start switches) _ r b.1 (b.0.0, b.0.1, λ h. a ((λ q. q), h))
  first_where (Start switches) r (inr (a, inr (b, inl d))) = as_where (Start switches) _ r d.1 (free (Start switches) (λ q. q) tt a b, d.0)
  first_where (Start switches) r (inr (a, inr (b, inr d))) = absurd d.1
  first_where Hold r (inl a) = as_where Hold _ r a.1 a.0
  first_where Hold r (inr (a, inl b)) = as_where Hold _ r b.1 (b.0, λ h. a ((λ q. q), h))
  first_where Hold r (inr (a, inr b)) = absurd b.1
  first_where Release r (inl a) = as_where Release _ r a.1 a.0
  first_where Release r (inr (a, inl b)) = as_where Release _ r b.1 (b.0, λ h. a ((λ q. q), h))
  first_where Release r (inr (a, inr b)) = absurd b.1
  first_where Collect r (inl a) = as_where Collect _ r a.1 a.0
  first_where Collect r (inr (a, inl b)) = as_where Collect _ r b.1 (b.0.0, b.0.1, λ h. a ((λ q. q), h))
  first_where Collect r (inr (a, inr (b, inl d))) = as_where Collect _ r d.1 (free Collect (λ q. q) tt a b, d.0)
  first_where Collect r (inr (a, inr (b, inr d))) = absurd d.1
  first_where Tell r first = absurd first
  first_where (Cards from) r first = absurd first
  first_where Lines r first = absurd first

  where_first : (c : JobCommand) (r : Refusal) → IsRefusedWhere r c job → IsFirst (has job c) (job_tests c) r
  where_first (Slice limit) refusal.Collected w = inl (w, refl)
  where_first (Slice limit) refusal.Held w = inr ((λ h. w.2 h.1), inl ((w.0, w.1), refl))
  where_first (Slice limit) refusal.NotRunning w = inr ((λ h. w.0.1 h.1), inr ((λ h. w.0.0 h.1), inl (w.1, refl)))
  where_first (Slice limit) refusal.TooMuch w = inr ((λ h. w.0.1 h.1), inr ((λ h. w.0.0 h.1), inr ((λ h. h w.1), inl (w.2, refl))))
  where_first (Slice limit) r w = absurd w
  where_first (Start switches) refusal.Collected w = inl (w, refl)
  where_first (Start switches) refusal.Held w = inr ((λ h. w.2 h.1), inl ((w.0, w.1), refl))
  where_first (Start switches) refusal.NotAtHalt w = inr ((λ h. w.0.1 h.1), inr ((λ h. w.0.0 h.1), inl (w.1, refl)))
  where_first (Start switches) r w = absurd w
  where_first Hold refusal.Collected w = inl (w, refl)
  where_first Hold refusal.AlreadyHeld w = inr ((λ h. w.1 h.1), inl (w.0, refl))
  where_first Hold refusal.Held w = absurd w.0
  where_first Hold r w = absurd w
  where_first Release refusal.Collected w = inl (w, refl)
  where_first Release refusal.NotHeld w = inr ((λ h. w.1 h.1), inl (w.0, refl))
  where_first Release refusal.Held w = absurd w.0
  where_first Release r w = absurd w
  where_first Collect refusal.Collected w = inl (w, refl)
  where_first Collect refusal.Held w = inr ((λ h. w.2 h.1), inl ((w.0, w.1), refl))
  where_first Collect refusal.NotAtHalt w = inr ((λ h. w.0.1 h.1), inr ((λ h. w.0.0 h.1), inl (w.1, refl)))
  where_first Collect r w = absurd w
  where_first Tell refusal.Collected w = absurd (w.0 tt)
  where_first Tell refusal.Held w = absurd w.0
  where_first Tell r w = absurd w
  where_first (Cards from) refusal.Collected w = absurd (w.0 tt)
  where_first (Cards from) refusal.Held w = absurd w.0
  where_first (Cards from) r w = absurd w
  where_first Lines refusal.Collected w = absurd (w.0 tt)
  where_first Lines refusal.Held w = absurd w.0
  where_first Lines r w = absurd w

  none_through : (c : JobCommand) → HoldsNone (has job c) (job_tests c) → IsLetThrough c job
  none_through (Slice limit) n = (free (Slice limit) (λ q. q) tt n.0 n.1.0, does_run (state job) n.1.1.0, no_more most_granted (granted job.stretches + limit) n.1.1.1.0)
  none_through (Start switches) n = (free (Start switches) (λ q. q) tt n.0 n.1.0, does_halt (state job) n.1.1.0)
  none_through Hold n = (n.1.0, λ h. n.0 ((λ q. q), h))
  none_through Release n = (is_set job.held n.1.0, λ h. n.0 ((λ q. q), h))
  none_through Collect n = (free Collect (λ q. q) tt n.0 n.1.0, n.1.1.0)
  none_through Tell n = tt
  none_through (Cards from) n = tt
  none_through Lines n = tt

  through_none : (c : JobCommand) → IsLetThrough c job → HoldsNone (has job c) (job_tests c)
  through_none (Slice limit) t = ((λ h. t.0.1 h.1), ((λ h. t.0.0 h.1), ((λ h. h t.1), ((λ h. omega (arith, h, t.2)), tt))))
  through_none (Start switches) t = ((λ h. t.0.1 h.1), ((λ h. t.0.0 h.1), ((λ h. h t.1), tt)))
  through_none Hold t = ((λ h. t.1 h.1), (t.0, tt))
  through_none Release t = ((λ h. t.1 h.1), ((λ h. h t.0), tt))
  through_none Collect t = ((λ h. t.0.1 h.1), ((λ h. t.0.0 h.1), (t.1, tt)))
  through_none Tell t = tt
  through_none (Cards from) t = tt
  through_none Lines t = tt

pub refused_where : (c : JobCommand) (job : Job) (r : Refusal) → ((take_kept c (kept_of job)).1 ≡ reply.Refused r) ↔ IsRefusedWhere r c job
refused_where c job r =
    let a = of_kept c (kept_of job) (why job c) r in
    let b = given_first (why job c) (has job c) (job_tests c) r (of_job job c) in
    (λ e. first_where job c r (b.0 (a.0 e)), λ w. a.1 (b.1 (where_first job c r w)))

pub let_through_where : (c : JobCommand) (job : Job) → ((r : Refusal) → ¬ ((take_kept c (kept_of job)).1 ≡ reply.Refused r)) ↔ IsLetThrough c job
let_through_where c job =
    let b = given_none (why job c) (has job c) (job_tests c) (of_job job c) in (
      λ never. none_through job c (b.0 (λ r e. never r ((of_kept c (kept_of job) (why job c) r).1 e))),
      λ t r e. b.1 (through_none job c t) r ((of_kept c (kept_of job) (why job c) r).0 e),
    )

-- ---- a command in an office

module _ (customer : List ℕ) (number : ℕ) (office : Office) where
  abbrev holds : JobCommand → Refusal → Type 0
  holds c reason = HoldsIn customer number office c reason

  module _ (job : Job) (at : job_of customer number office ≡ Some job) where
    same_here : (reason : Refusal) (c : JobCommand) → Holds reason c job ↔ HoldsOfJob customer number office reason c
    same_here reason c = (λ h. (job, at, h), back)
      where
        back : HoldsOfJob customer number office reason c → Holds reason c job
        back (other, found, h) =
            let e = sym at ∙ found in
            let same : other ≡ job = cc in
            subst (λ (j : Job). Holds reason c j) same h

    same_tests : (c : JobCommand) → AllSame (has job c) (holds c) (job_tests c)
    same_tests (Slice limit) =
        let c = Slice limit in
        (same_here refusal.Collected c, (same_here refusal.Held c, (same_here refusal.NotRunning c, (same_here refusal.TooMuch c, tt))))
    same_tests (Start switches) =
        let c = Start switches in
        (same_here refusal.Collected c, (same_here refusal.Held c, (same_here refusal.NotAtHalt c, tt)))
    same_tests Hold = (same_here refusal.Collected Hold, (same_here refusal.AlreadyHeld Hold, tt))
    same_tests Release = (same_here refusal.Collected Release, (same_here refusal.NotHeld Release, tt))
    same_tests Collect = (same_here refusal.Collected Collect, (same_here refusal.Held Collect, (same_here refusal.NotAtHalt Collect, tt)))
    same_tests Tell = tt
    same_tests (Cards from) = tt
    same_tests Lines = tt

    in_office : (c : JobCommand) → Agrees (why job c) (holds c) (job_tests c)
    in_office c = alike (why job c) (has job c) (holds c) (job_tests c) (same_tests c) (of_job job c)

  -- ---- the tests of a name

  abbrev on_found : JobCommand → Option Job → Option Refusal
  on_found c None = Some refusal.NoJob
  on_found c (Some job) = job_refusal c (summary_of (kept_of job))

  there : (job : Job) → job_of customer number office ≡ Some job → ¬ (job_of customer number office ≡ None)
  there job at none = let e = sym at ∙ none in absurd (cc)

  found : (c : JobCommand) → (job_of customer number office ≡ None → holds c refusal.NoJob) → (holds c refusal.NoJob → job_of customer number office ≡ None)
      → (o : Option Job) → job_of customer number office ≡ o → Agrees (on_found c o) (holds c) (refusal.NoJob ∷ job_tests c)
  found c given lacking None at = inl (given at, refl)
  found c given lacking (Some job) at =
      pass refusal.NoJob (job_refusal c (summary_of (kept_of job))) (holds c) (job_tests c) (λ h. there job at (lacking h)) (in_office job at c)

  named : (c : JobCommand) (others : List Refusal) (rest : Option Refusal)
      → (is_customer customer ≡ false → holds c refusal.Customer) → (holds c refusal.Customer → is_customer customer ≡ false)
      → (is_number number ≡ false → holds c refusal.Number) → (holds c refusal.Number → is_number number ≡ false)
      → Agrees rest (holds c) others
      → Agrees (if not (is_customer customer) then Some refusal.Customer else if not (is_number number) then Some refusal.Number else rest) (holds c)
      (refusal.Customer ∷ refusal.Number ∷ others)
  named c others rest given lacking given_too lacking_too is =
      step (not (is_customer customer)) refusal.Customer _ (holds c) _ (λ e. given (was_false (is_customer customer) e)) (λ e h. was_true (is_customer customer) e (lacking h))
      (step (not (is_number number)) refusal.Number rest (holds c) others (λ e. given_too (was_false (is_number number) e)) (λ e h. was_true (is_number number) e (lacking_too h)) is)

  -- the first refusal of two
  abbrev or_else : Option Refusal → Option Refusal → Option Refusal
  or_else (Some reason) other = Some reason
  or_else None other = other

  abbrev whole : JobCommand → Option Refusal
  whole c =
      if not (is_customer customer) then Some refusal.Customer else
      if not (is_number number) then Some refusal.Number else
      or_else (value_refusal c None) (on_found c (job_of customer number office))

  limited : (b : Bool) (rest : Option Refusal) → or_else (if b then None else Some refusal.Limit) rest ≡ (if not b then Some refusal.Limit else rest)
  limited true rest = refl
  limited false rest = refl

  -- a pocket is tested before the job
  of_pocket : (from : Stacker) → Agrees (or_else (value_refusal (Cards from) None) (on_found (Cards from) (job_of customer number office))) (holds (Cards from))
      (refusal.NoSuchPocket ∷ refusal.NoJob ∷ [])
  of_pocket All =
      pass refusal.NoSuchPocket (on_found (Cards All) (job_of customer number office)) (holds (Cards All)) _ (λ e. absurd (cc))
      (found (Cards All) (λ e. e) (λ e. e) (job_of customer number office) refl)
  of_pocket (Of pocket) =
      pass refusal.NoSuchPocket (on_found (Cards (Of pocket)) (job_of customer number office)) (holds (Cards (Of pocket))) _ (λ e. absurd (cc))
      (found (Cards (Of pocket)) (λ e. e) (λ e. e) (job_of customer number office) refl)
  of_pocket Unknown = inl (refl, refl)

  agrees : (c : JobCommand) → Agrees (whole c) (holds c) (tested_for c)
  agrees (Slice limit) =
      let c = Slice limit in
      let behind = found c (λ e. e) (λ e. e) (job_of customer number office) refl in
      named c _ _ (λ e. e) (λ e. e) (λ e. e) (λ e. e)
      (subst (λ (o : Option Refusal). Agrees o (holds c) (refusal.Limit ∷ refusal.NoJob ∷ job_tests c)) (sym (limited (is_limit limit) (on_found c (job_of customer number office))))
      (step (not (is_limit limit)) refusal.Limit _ (holds c) _ (λ e. was_false (is_limit limit) e) (λ e h. was_true (is_limit limit) e h) behind))
  agrees (Start switches) = named (Start switches) _ _ (λ e. e) (λ e. e) (λ e. e) (λ e. e) (found (Start switches) (λ e. e) (λ e. e) (job_of customer number office) refl)
  agrees Hold = named Hold _ _ (λ e. e) (λ e. e) (λ e. e) (λ e. e) (found Hold (λ e. e) (λ e. e) (job_of customer number office) refl)
  agrees Release = named Release _ _ (λ e. e) (λ e. e) (λ e. e) (λ e. e) (found Release (λ e. e) (λ e. e) (job_of customer number office) refl)
  agrees Collect = named Collect _ _ (λ e. e) (λ e. e) (λ e. e) (λ e. e) (found Collect (λ e. e) (λ e. e) (job_of customer number office) refl)
  agrees Tell = named Tell _ _ (λ e. e) (λ e. e) (λ e. e) (λ e. e) (found Tell (λ e. e) (λ e. e) (job_of customer number office) refl)
  agrees (Cards from) = named (Cards from) _ _ (λ e. e) (λ e. e) (λ e. e) (λ e. e) (of_pocket from)
  agrees Lines = named Lines _ _ (λ e. e) (λ e. e) (λ e. e) (λ e. e) (found Lines (λ e. e) (λ e. e) (job_of customer number office) refl)

  -- ---- replies

  of_found : (c : JobCommand) (o : Option Job) (r : Refusal) → ((commanded customer number c office o).1 ≡ reply.Refused r) ↔ (on_found c o ≡ Some r)
  of_found c None r = (λ e. let same : refusal.NoJob ≡ r = cc in ap (λ (x : Refusal). Some x) same, λ e. let same : refusal.NoJob ≡ r = cc in ap (λ (x : Refusal). reply.Refused x) same)
  of_found c (Some job) r = of_kept c (kept_of job) (job_refusal c (summary_of (kept_of job))) r

  of_early : (it : Command) (o rest : Option Refusal) (r : Refusal) → ((served it office).1 ≡ reply.Refused r) ↔ (rest ≡ Some r)
      → ((taken it office o).1 ≡ reply.Refused r) ↔ (or_else o rest ≡ Some r)
  of_early it (Some s) rest r same = (λ e. let s : s ≡ r = cc in ap (λ (x : Refusal). Some x) s, λ e. let s : s ≡ r = cc in ap (λ (x : Refusal). reply.Refused x) s)
  of_early it None rest r same = same

  early : (c : JobCommand) (a b : Bool) (rest : Option Refusal)
      → or_else (value_refusal c (if not a then Some refusal.Customer else if not b then Some refusal.Number else None)) rest
      ≡ (if not a then Some refusal.Customer else if not b then Some refusal.Number else or_else (value_refusal c None) rest)
  early c false b rest = refl
  early c true false rest = refl
  early c true true rest = refl

module _ (name : String Global) (number : ℕ) (c : JobCommand) (office : Office) where
  abbrev customer : List ℕ
  customer = string_bytes name

  abbrev it : Command
  it = command.Job name number c

  replied : (r : Refusal) → ((take it office).1 ≡ reply.Refused r) ↔ (whole customer number office c ≡ Some r)
  replied r = subst (λ (o : Option Refusal). ((take it office).1 ≡ reply.Refused r) ↔ (o ≡ Some r))
      (early customer number office c (is_customer customer) (is_number number) (on_found customer number office c (job_of customer number office)))
      (of_early customer number office it (early_refusal it) (on_found customer number office c (job_of customer number office)) r
      (of_found customer number office c (job_of customer number office) r))

  pub refused_first : (r : Refusal) → ((take it office).1 ≡ reply.Refused r) ↔ IsFirst (HoldsIn customer number office c) (tested_for c) r
  refused_first r =
      let a = replied r in
      let b = given_first (whole customer number office c) (HoldsIn customer number office c) (tested_for c) r (agrees customer number office c) in
      (λ e. b.0 (a.0 e), λ first. a.1 (b.1 first))

  pub refused_never : ((r : Refusal) → ¬ ((take it office).1 ≡ reply.Refused r)) ↔ HoldsNone (HoldsIn customer number office c) (tested_for c)
  refused_never =
      let b = given_none (whole customer number office c) (HoldsIn customer number office c) (tested_for c) (agrees customer number office c) in
      (λ never. b.0 (λ r e. never r ((replied r).1 e)), λ none r e. b.1 none r ((replied r).0 e))
