-- how many of so many steps are attempts
use Rattle.std.proofs.Common.{◌≡◌, ℕ, zero, suc, ◌+◌, ◌≤◌, Bool, true, false, if◌then◌else◌, refl, sym, ◌∙◌, ap, arith}
use Rattle.machine.specs.Run.{State, after, attempts, is_running, step}
use Rattle.machine.proofs.Steps.{after_stopped, attempts_stopped}

-- the attempts of a machine by whether it runs
pub attempts_on : (m : State) (limit : ℕ) → is_running m.standing ≡ true
    → attempts m (suc limit) ≡ 1 + attempts (step m) limit
unfolding attempts
attempts_on m limit h = ap (λ b. (if b then 1 else 0) + attempts (step m) limit) h

one_at_most : (b : Bool) (n count : ℕ) → n ≤ count → (if b then 1 else 0) + n ≤ suc count
one_at_most true n count h = omega arith
one_at_most false n count h = omega arith

-- there are no more attempts than steps
pub attempts_fit : (m : State) (count : ℕ) → attempts m count ≤ count
unfolding attempts
attempts_fit m zero = omega arith
attempts_fit m (suc count) =
    one_at_most (is_running m.standing) (attempts (step m) count) count (attempts_fit (step m) count)

both_more : (first a b : ℕ) → a ≤ b → first + a ≤ first + b
both_more first a b h = omega arith

-- and with more steps there are no fewer
pub attempts_rise : (m : State) (fewer count : ℕ) → fewer ≤ count → attempts m fewer ≤ attempts m count
unfolding attempts
attempts_rise m zero count h = omega arith
attempts_rise m (suc fewer) zero h = absurd (omega (arith, h))
attempts_rise m (suc fewer) (suc count) h =
    both_more (if is_running m.standing then 1 else 0) (attempts (step m) fewer)
    (attempts (step m) count) (attempts_rise (step m) fewer count (omega (arith, h)))

-- steps behind the last attempt change nothing
after_by : (b : Bool) (m : State) (limit : ℕ) → is_running m.standing ≡ b
    → after (step m) (attempts (step m) limit) ≡ after (step m) limit
    → after m (attempts m (suc limit)) ≡ after m (suc limit)
unfolding after
after_by true m limit h rest =
    let one : attempts m (suc limit) ≡ suc (attempts (step m) limit) =
    omega (arith, attempts_on m limit h) in
    ap (after m) one ∙ rest
after_by false m limit h rest =
    ap (after m) (attempts_stopped m (suc limit) h) ∙ sym (after_stopped m (suc limit) h)

pub after_attempts : (m : State) (limit : ℕ) → after m (attempts m limit) ≡ after m limit
unfolding after attempts
after_attempts m zero = refl
after_attempts m (suc limit) =
    after_by (is_running m.standing) m limit refl (after_attempts (step m) limit)
