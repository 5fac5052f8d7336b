-- jobs of many stretches
use Rattle.std.proofs.Common.{◌≡◌, ℕ, zero, suc, ◌+◌, ◌<◌, List, [], ◌∷◌, ◌++◌, length, length-append, map, take, take_all, refl, sym, ap, subst, ◌∙◌, arith}
use Rattle.std.proofs.lemmas.List.{take-append-le}
use Rattle.std.proofs.Math.Decide.{dec_lt}
use Rattle.machine.specs.Run.{State, after, started, is_running, lines_of}
use Rattle.machine.specs.declared.standings.Standing.TheVariants.{Halted}
use Rattle.units.specs.declared.printer.Line.{Line}
use Rattle.units.specs.declared.punch.Punched.{Punched}
use Rattle.units.specs.declared.switches.Switches.{Switches}
use Rattle.office.specs.declared.stretches.Stretch.{Stretch}
use Rattle.office.specs.Whole.{RunsToHalt, RunsThrough, Whole}
use Rattle.office.specs.Jobs.{Job, deck_begun, resumed, beginning, IsAtHalt, HaltsBetween, granted_more, one_more, sliced_job, started_job, HasRunWhole}
use Rattle.office.proofs.HaltLemmas.{Adds}

-- ---- what is kept

length-granted_more : (limit : ℕ) (stretches : List Stretch) → length (granted_more limit stretches) ≡ length stretches
length-granted_more limit [] = refl
length-granted_more limit (s ∷ []) = refl
length-granted_more limit (s ∷ t ∷ stretches) = ap suc (length-granted_more limit (t ∷ stretches))

-- what stands before the last stretch is as it was
front_stays : (limit : ℕ) (stretches : List Stretch) (n : ℕ) → n < length stretches → take n (granted_more limit stretches) ≡ take n stretches
front_stays limit [] n less = refl
front_stays limit (s ∷ []) zero less = refl
front_stays limit (s ∷ []) (suc n) less = absurd (omega (arith, less))
front_stays limit (s ∷ t ∷ stretches) zero less = refl
front_stays limit (s ∷ t ∷ stretches) (suc n) less = ap (λ xs. s ∷ xs) (front_stays limit (t ∷ stretches) n (omega (arith, less)))

pub sliced : (job : Job) (limit : ℕ) → HaltsBetween job → HaltsBetween (sliced_job limit job)
sliced job limit between n some less =
    let within : n < length job.stretches = subst (λ k. n < k) (length-granted_more limit job.stretches) less in
    ap (λ xs. (resumed (beginning job) xs).standing) (front_stays limit job.stretches n within) ∙ between n some within

pub started_between : (job : Job) (switches : Switches) → HaltsBetween job → IsAtHalt job → HaltsBetween (started_job switches job)
started_between job switches between halted n some less =
    let new : List Stretch = (record { switches = switches; granted = 0 }) ∷ [] in
    let all : length (job.stretches ++ new) ≡ length job.stretches + 1 = length-append job.stretches new in
    let front : take n (job.stretches ++ new) ≡ take n job.stretches = take-append-le n job.stretches new (omega (arith, all, less)) in
    ap (λ xs. (resumed (beginning job) xs).standing) front
    ∙ elim (dec_lt n (length job.stretches)) [
      | yes within ↦ between n some within
      | no last ↦ ap (λ xs. (resumed (beginning job) xs).standing) (take_all n job.stretches (omega arith)) ∙ halted
    ]

pub new_between : (job : Job) (switches : Switches) → HaltsBetween (record job { stretches = one_more switches [] })
new_between job switches n some less = absurd (omega (arith, some, less))

-- ---- what goes on

pub resumed_more : Adds → (m : State) (limit : ℕ) (stretches : List Stretch) → 0 < length stretches → resumed m (granted_more limit stretches) ≡ after (resumed m stretches) limit
unfolding resumed
resumed_more adds m limit [] some = absurd (omega (arith, some))
resumed_more adds m limit (s ∷ []) some = sym (adds (started m s.switches) s.granted limit)
resumed_more adds m limit (s ∷ t ∷ stretches) some = resumed_more adds (after (started m s.switches) s.granted) limit (t ∷ stretches) (omega arith)

pub resumed_started : (m : State) (stretches : List Stretch) (switches : Switches) → resumed m (one_more switches stretches) ≡ started (resumed m stretches) switches
unfolding resumed after
resumed_started m [] switches = refl
resumed_started m (s ∷ stretches) switches = resumed_started (after (started m s.switches) s.granted) stretches switches

-- ---- whole runs

-- the same of any machine
abbrev Halting : State → List Stretch → Type 0
Halting m stretches = (n : ℕ) → 0 < n → n < length stretches → (resumed m (take n stretches)).standing ≡ Halted

following : (m : State) (s : Stretch) (stretches : List Stretch) → Halting m (s ∷ stretches) → Halting (after (started m s.switches) s.granted) stretches
unfolding resumed
following m s stretches between n some less = between (suc n) (omega arith) (omega (arith, less))

runs_through : (m : State) (s : Stretch) (stretches : List Stretch) → Halting m (s ∷ stretches) → (resumed m (s ∷ stretches)).standing ≡ Halted →
    RunsThrough (started m s.switches) (map (λ t. t.switches) stretches) (resumed m (s ∷ stretches))
unfolding resumed
runs_through m s [] between halted = record { count = s.granted; is = refl; halted = halted }
runs_through m s (t ∷ stretches) between halted =
    let halt : State = after (started m s.switches) s.granted in
    let first : RunsToHalt (started m s.switches) halt = record { count = s.granted; is = refl; halted = between 1 (omega arith) (omega arith) } in
    (halt, first, runs_through halt t stretches (following m s (t ∷ stretches) between) halted)

abbrev pub EndAlike : Type 0
EndAlike = (m : State) (starts : List Switches) (first second : State) → RunsThrough m starts first → RunsThrough m starts second → first ≡ second

module _ (job : Job) where
  -- where the job's machine is after these stretches
  abbrev at : List Stretch → State
  at stretches = resumed (beginning job) stretches

  holds : (stretches : List Stretch) → Halting (beginning job) stretches → (at stretches).standing ≡ Halted →
      Whole (deck_begun job) (map (λ s. s.switches) stretches) (at stretches).works.units.punch.cards (lines_of (at stretches))
  unfolding resumed
  holds [] between halted = let e = ap is_running halted in absurd (cc)
  holds (s ∷ stretches) between halted = (at (s ∷ stretches), runs_through (beginning job) s stretches between halted, refl, refl)

  only : EndAlike → (stretches : List Stretch) (cards : List Punched) (lines : List Line) → Halting (beginning job) stretches → (at stretches).standing ≡ Halted →
      Whole (deck_begun job) (map (λ s. s.switches) stretches) cards lines → (cards ≡ (at stretches).works.units.punch.cards) × (lines ≡ lines_of (at stretches))
  only alike [] cards lines between halted whole = absurd whole
  only alike (s ∷ stretches) cards lines between halted whole =
      let one : whole.0 ≡ at (s ∷ stretches) =
      alike (deck_begun job s.switches) (map (λ t. t.switches) stretches) whole.0 (at (s ∷ stretches)) whole.1 (runs_through (beginning job) s stretches between halted) in
      (whole.2 ∙ ap (λ (t : State). t.works.units.punch.cards) one, whole.3 ∙ ap lines_of one)

pub has_run_whole : EndAlike → (job : Job) → HaltsBetween job → IsAtHalt job → HasRunWhole (deck_begun job) job
has_run_whole alike job between halted = record {
  holds = holds job job.stretches between halted;
  only = λ cards lines. only job alike job.stretches cards lines between halted;
}
