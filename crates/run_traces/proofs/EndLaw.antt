-- a run ends at the first stop
use Rattle.std.proofs.Common.{◌≡◌, ℕ, zero, suc, ◌+◌, ◌<◌, ◌⊎◌, inl, inr, ⊎_elim, Bool, true, false, not, ◌&&◌, Option, refl, sym, ap, subst, ◌∙◌, arith}
use Rattle.std.proofs.lemmas.Bool.{cases_lt}
use Rattle.machine.specs.Run.{State, after, attempts, is_running, step}
use Rattle.machine.proofs.Steps.{attempts_stopped}
use Rattle.run_traces.specs.Ends.{IsEnd, end_of, goes_on, stands_at}
use Rattle.machine.proofs.Attempts.{attempts_on}
use Rattle.run_traces.proofs.EndLemmas.{end_here, end_on}

-- a machine goes on where it runs and does not stand at the stop
both : (running stands : Bool) → running && not stands ≡ true → (running ≡ true) × (stands ≡ false)
both true true h = absurd (cc)
both true false h = (refl, refl)
both false stands h = absurd (cc)

neither : (running stands : Bool) → running && not stands ≡ false → (running ≡ false) ⊎ (stands ≡ true)
neither true true h = inr refl
neither true false h = absurd (cc)
neither false stands h = inl refl

module _ (m : State) (limit : ℕ) (stop : Option ℕ) where
  none_on : (n : ℕ) → stands_at stop m ≡ false → ((k : ℕ) → k < n → stands_at stop (after (step m) k) ≡ false) → (k : ℕ) → k < 1 + n → stands_at stop (after m k) ≡ false
  unfolding after
  none_on n here rest zero within = here
  none_on n here rest (suc k) within = rest k (omega arith)

  on : IsEnd (step m) limit stop (end_of (step m) limit stop) → (is_running m.standing ≡ true) × (stands_at stop m ≡ false) → IsEnd m (suc limit) stop (1 + end_of (step m) limit stop)
  unfolding after
  on rest (running, here) =
      let n = end_of (step m) limit stop in
      let one : 1 + n ≡ suc n = omega arith in
      let more = attempts_on m limit running in
      record {
        within = omega (arith, more, rest.within);
        none_before = none_on n here rest.none_before;
        reached = ⊎_elim (λ all. inl (ap (λ k. 1 + k) all ∙ sym more)) (λ stands. inr (ap (λ k. stands_at stop (after m k)) one ∙ stands)) rest.reached;
      }

  at_once : (is_running m.standing ≡ false) ⊎ (stands_at stop m ≡ true) → IsEnd m (suc limit) stop 0
  unfolding after
  at_once why = record {
    within = omega arith;
    none_before = λ k below. absurd (omega (arith, below));
    reached = ⊎_elim (λ stopped. inl (sym (attempts_stopped m (suc limit) stopped))) (λ stands. inr stands) why;
  }

  ends_by : (b : Bool) → goes_on stop m ≡ b → IsEnd (step m) limit stop (end_of (step m) limit stop) → IsEnd m (suc limit) stop (end_of m (suc limit) stop)
  ends_by true h rest = subst (IsEnd m (suc limit) stop) (sym (end_on m limit stop h)) (on rest (both (is_running m.standing) (stands_at stop m) h))
  ends_by false h rest = subst (IsEnd m (suc limit) stop) (sym (end_here m (suc limit) stop h)) (at_once (neither (is_running m.standing) (stands_at stop m) h))

pub end_is : (m : State) (limit : ℕ) (stop : Option ℕ) → IsEnd m limit stop (end_of m limit stop)
unfolding end_of attempts
end_is m zero stop = record { within = omega arith; none_before = λ k below. absurd (omega (arith, below)); reached = inl refl }
end_is m (suc limit) stop = ends_by m limit stop (goes_on stop m) refl (end_is (step m) limit stop)

-- no run ends twice
no_sooner : (m : State) (limit : ℕ) (stop : Option ℕ) (a b : ℕ) → IsEnd m limit stop a → IsEnd m limit stop b → a < b → ⊥
no_sooner m limit stop a b one other sooner =
    ⊎_elim (λ all. omega (arith, other.within)) (λ stands. let here = other.none_before a sooner in let there = stands in absurd (cc (sym here ∙ there))) one.reached

pub one_end : (m : State) (limit n : ℕ) (stop : Option ℕ) → IsEnd m limit stop n → n ≡ end_of m limit stop
one_end m limit n stop is =
    let end = end_is m limit stop in
    let low : n < end_of m limit stop → ⊥ = no_sooner m limit stop n (end_of m limit stop) is end in
    let high : end_of m limit stop < n → ⊥ = no_sooner m limit stop (end_of m limit stop) n end is in
    ⊎_elim (λ less. absurd (low less)) (λ more. ⊎_elim (λ less. absurd (high less)) (λ same. omega arith) (cases_lt (end_of m limit stop) n)) (cases_lt n (end_of m limit stop))
