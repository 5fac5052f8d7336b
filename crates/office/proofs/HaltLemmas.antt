-- machines at a halt or check
use Rattle.std.proofs.Common.{true≢false, ◌≡◌, ℕ, zero, suc, ◌+◌, ◌-◌, ◌≤◌, true, false, List, [], ◌∷◌, refl, sym, ap, subst, ◌∙◌, arith}
use Rattle.std.proofs.Math.Decide.{dec_lt}
use Rattle.machine.specs.Run.{State, step, after, started, is_running, is_halted}
use Rattle.machine.specs.declared.standings.Standing.{Standing}
use Rattle.machine.specs.declared.standings.Standing.TheVariants.{Running, Halted, Checked}
use Rattle.units.specs.declared.switches.Switches.{Switches}
use Rattle.office.specs.Whole.{RunsToHalt, RunsThrough}

-- what is known of runs
abbrev pub Adds : Type 0
Adds = (m : State) (first second : ℕ) → after (after m first) second ≡ after m (first + second)

abbrev pub EndsOnce : Type 0
EndsOnce = (m : State) (first second : ℕ) → is_running (after m first).standing ≡ false → is_running (after m second).standing ≡ false → after m first ≡ after m second

step_stays : (m : State) → is_running m.standing ≡ false → step m ≡ m
unfolding step
step_stays m stopped = rw stopped refl

pub stays : (m : State) (count : ℕ) → is_running m.standing ≡ false → after m count ≡ m
unfolding after
stays m zero stopped = refl
stays m (suc count) stopped = ap (λ t. after t count) (step_stays m stopped) ∙ stays m count stopped

module _ (adds : Adds) (m : State) where
  goes_on : (first whole : ℕ) → first ≤ whole → after (after m first) (whole - first) ≡ after m whole
  goes_on first whole within =
      let both : first + (whole - first) ≡ whole = omega arith in
      adds m first (whole - first) ∙ ap (after m) both

  stopped_before : (first whole : ℕ) → first ≤ whole → is_running (after m first).standing ≡ false → after m first ≡ after m whole
  stopped_before first whole within stopped = sym (stays (after m first) (whole - first) stopped) ∙ goes_on first whole within

  pub one_end : (first second : ℕ) → is_running (after m first).standing ≡ false → is_running (after m second).standing ≡ false → after m first ≡ after m second
  one_end first second one two = elim (dec_lt first second) [
    | yes less ↦ stopped_before first second (omega arith) one
    | no more ↦ sym (stopped_before second first (omega arith) two)
  ]

  pub passes : (first whole : ℕ) → is_running (after m first).standing ≡ true → is_running (after m whole).standing ≡ false →
      (first ≤ whole) × (after (after m first) (whole - first) ≡ after m whole)
  passes first whole running stopped = elim (dec_lt whole first) [
    | yes less ↦ absurd (true≢false (sym running ∙ ap (λ (t : State). is_running t.standing) (sym (stopped_before whole first (omega arith) stopped)) ∙ stopped))
    | no more ↦ (omega arith, goes_on first whole (omega arith))
  ]

-- ---- whole runs

pub stands : (m halt : State) (run : RunsToHalt m halt) → is_running (after m run.count).standing ≡ false
stands m halt run = ap (λ (t : State). is_running t.standing) (sym run.is) ∙ ap is_running run.halted

one_halt : EndsOnce → (m first second : State) → RunsToHalt m first → RunsToHalt m second → first ≡ second
one_halt once m first second one two = one.is ∙ once m one.count two.count (stands m first one) (stands m second two) ∙ sym two.is

pub end_alike : EndsOnce → (m : State) (starts : List Switches) (first second : State) → RunsThrough m starts first → RunsThrough m starts second → first ≡ second
end_alike once m [] first second one two = one_halt once m first second one two
end_alike once m (switches ∷ starts) first second one two =
    end_alike once (started one.0 switches) starts first second one.2
    (subst (λ h. RunsThrough (started h switches) starts second) (sym (one_halt once m one.0 two.0 one.1 two.1)) two.2)

-- by the test of a start
pub halted_by_test : (at : Standing) → is_halted at ≡ true → at ≡ Halted
halted_by_test Running is = absurd (let e = is in cc)
halted_by_test Halted is = refl
halted_by_test (Checked check) is = absurd (let e = is in cc)
