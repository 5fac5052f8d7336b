-- a machine that goes on stands at the first change, stop, halt or check
use Rattle.std.proofs.Common.{◌≡◌, ℕ, zero, suc, ◌+◌, ◌-◌, ◌<◌, ◌⊎◌, inl, inr, ⊎_elim, Bool, true, false, Option, List, refl, sym, ap, subst, ◌∙◌, arith}
use Rattle.std.proofs.lemmas.Bool.{cases_lt}
use Rattle.machine.specs.Run.{State, after, is_running, step}
use Rattle.machine.proofs.Steps.{after_one}
use Rattle.console.specs.Goes.{IsWent, goes_on, went}
use Rattle.console.proofs.GoLemmas.{went_nowhere, went_on, went_one}

module _ (stops : List ℕ) (watched : Option ℕ) where
  -- nothing was asked for, or the machine does not run
  none_gone : (m : State) (limit : ℕ) → (0 ≡ limit) ⊎ (is_running m.standing ≡ false) → IsWent stops watched m limit 0
  unfolding after
  none_gone m limit why = record {
    within = omega arith;
    running = λ k below. absurd (omega arith);
    none_before = λ k below. absurd (omega arith);
    reached = ⊎_elim (λ all. inl all) (λ off. inr (inl off)) why;
  }

  -- it does not go on after the first
  one_gone : (m : State) (limit : ℕ) → is_running m.standing ≡ true → goes_on stops watched m (step m) ≡ false → IsWent stops watched m (suc limit) 1
  unfolding after
  one_gone m limit runs off = record {
    within = omega arith;
    running = one_running;
    none_before = λ k below. absurd (omega arith);
    reached = inr (inr (omega arith, last));
  }
    where
      one_running : (k : ℕ) → k < 1 → is_running (after m k).standing ≡ true
      one_running zero below = runs
      one_running (suc k) below = absurd (omega arith)

      last : goes_on stops watched (after m (1 - 1)) (after m 1) ≡ false
      last = ap (λ (x : State). goes_on stops watched m x) (after_one m) ∙ off

  -- it goes on
  module _ (m : State) (limit n : ℕ) (runs : is_running m.standing ≡ true) (on : goes_on stops watched m (step m) ≡ true) (rest : IsWent stops watched (step m) limit n) where
    more_running : (k : ℕ) → k < suc n → is_running (after m k).standing ≡ true
    unfolding after
    more_running zero below = runs
    more_running (suc k) below = rest.running k (omega arith)

    more_before : (k : ℕ) → k + 1 < suc n → goes_on stops watched (after m k) (after m (k + 1)) ≡ true
    unfolding after
    more_before zero below =
        let one : 0 + 1 ≡ 1 = omega arith in
        ap (λ i. goes_on stops watched m (after m i)) one ∙ ap (λ (x : State). goes_on stops watched m x) (after_one m) ∙ on
    more_before (suc k) below =
        let one : suc k + 1 ≡ suc (k + 1) = omega arith in
        ap (λ i. goes_on stops watched (after (step m) k) (after m i)) one ∙ rest.none_before k (omega arith)

    more_last : (0 < n) × (goes_on stops watched (after (step m) (n - 1)) (after (step m) n) ≡ false) → (0 < suc n) × (goes_on stops watched (after m (suc n - 1)) (after m (suc n)) ≡ false)
    unfolding after
    more_last (some, off) =
        let one : suc n - 1 ≡ suc (n - 1) = omega arith in
        (omega arith, ap (λ i. goes_on stops watched (after m i) (after (step m) n)) one ∙ off)

    more_gone : IsWent stops watched m (suc limit) (suc n)
    unfolding after
    more_gone = record {
      within = omega (arith, rest.within);
      running = more_running;
      none_before = more_before;
      reached = ⊎_elim (λ all. inl (ap suc all)) (λ other. ⊎_elim (λ off. inr (inl off)) (λ last. inr (inr (more_last last))) other) rest.reached;
    }

  gone_by : (runs on : Bool) (m : State) (limit : ℕ) → is_running m.standing ≡ runs → goes_on stops watched m (step m) ≡ on
      → IsWent stops watched (step m) limit (went stops watched (step m) limit) → IsWent stops watched m (suc limit) (went stops watched m (suc limit))
  gone_by false on m limit h g rest = subst (IsWent stops watched m (suc limit)) (sym (went_nowhere stops watched m (suc limit) h)) (none_gone m (suc limit) (inr h))
  gone_by true false m limit h g rest = subst (IsWent stops watched m (suc limit)) (sym (went_one stops watched m limit h g)) (one_gone m limit h g)
  gone_by true true m limit h g rest =
      let one : 1 + went stops watched (step m) limit ≡ suc (went stops watched (step m) limit) = omega arith in
      subst (IsWent stops watched m (suc limit)) (sym (went_on stops watched m limit h g ∙ one)) (more_gone m limit (went stops watched (step m) limit) h g rest)

pub went_is : (stops : List ℕ) (watched : Option ℕ) (m : State) (limit : ℕ) → IsWent stops watched m limit (went stops watched m limit)
unfolding went
went_is stops watched m zero = none_gone stops watched m zero (inl refl)
went_is stops watched m (suc limit) = gone_by stops watched (is_running m.standing) (goes_on stops watched m (step m)) m limit refl refl (went_is stops watched (step m) limit)

-- no machine stands twice
no_sooner : (stops : List ℕ) (watched : Option ℕ) (m : State) (limit a b : ℕ) → IsWent stops watched m limit a → IsWent stops watched m limit b → a < b → ⊥
no_sooner stops watched m limit a b one other sooner =
    ⊎_elim (λ all. omega (arith, other.within))
    (λ why. ⊎_elim (λ off. let runs = other.running a sooner in absurd (cc (sym runs ∙ off)))
    (λ (some, off). later some off) why) one.reached
  where
    later : 0 < a → goes_on stops watched (after m (a - 1)) (after m a) ≡ false → ⊥
    later some off =
        let here : a - 1 + 1 ≡ a = omega arith in
        let on : goes_on stops watched (after m (a - 1)) (after m a) ≡ true =
        ap (λ i. goes_on stops watched (after m (a - 1)) (after m i)) (sym here) ∙ other.none_before (a - 1) (omega arith) in
        absurd (cc (sym on ∙ off))

pub one_went : (stops : List ℕ) (watched : Option ℕ) (m : State) (limit n : ℕ) → IsWent stops watched m limit n → n ≡ went stops watched m limit
one_went stops watched m limit n is =
    let there = went_is stops watched m limit in
    let low : n < went stops watched m limit → ⊥ = no_sooner stops watched m limit n (went stops watched m limit) is there in
    let high : went stops watched m limit < n → ⊥ = no_sooner stops watched m limit (went stops watched m limit) n there is in
    ⊎_elim (λ less. absurd (low less)) (λ more. ⊎_elim (λ less. absurd (high less)) (λ same. omega arith) (cases_lt (went stops watched m limit) n)) (cases_lt n (went stops watched m limit))
