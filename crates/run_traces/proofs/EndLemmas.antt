-- how far a run goes
use Rattle.std.proofs.Common.{◌≡◌, ℕ, zero, suc, ◌+◌, ◌-◌, ◌<◌, ◌≤◌, Bool, true, false, ◌&&◌, if◌then◌else◌, Option, None, refl, sym, ap, ◌∙◌, arith}
use Rattle.machine.specs.Run.{State, after, attempts, is_running, step}
use Rattle.machine.proofs.Attempts.{after_attempts, attempts_on}
use Rattle.machine.proofs.Steps.{after-after, after_one, attempts_stopped}
use Rattle.run_traces.specs.Ends.{end_of, goes_on}

-- a machine that does not go on is at its end
pub end_here : (m : State) (limit : ℕ) (stop : Option ℕ) → goes_on stop m ≡ false → end_of m limit stop ≡ 0
unfolding end_of
end_here m zero stop h = refl
end_here m (suc limit) stop h = ap (λ b. if b then 1 + end_of (step m) limit stop else 0) h

-- one that goes on ends one attempt later than the machine after it
pub end_on : (m : State) (limit : ℕ) (stop : Option ℕ) → goes_on stop m ≡ true → end_of m (suc limit) stop ≡ 1 + end_of (step m) limit stop
unfolding end_of
end_on m limit stop h = ap (λ b. if b then 1 + end_of (step m) limit stop else 0) h

-- a machine that has come so far, and ends where its run does
pub record Comes (m now : State) (limit : ℕ) (stop : Option ℕ) (done : ℕ) : Type 0 where
  pub machine : now ≡ after m done
  pub end : end_of m limit stop ≡ done + end_of now (limit - done) stop

pub comes_none : (m : State) (limit : ℕ) (stop : Option ℕ) → Comes m m limit stop 0
unfolding after
comes_none m limit stop =
    let whole : limit - 0 ≡ limit = omega arith in
    let same : end_of m (limit - 0) stop ≡ end_of m limit stop = ap (λ n. end_of m n stop) whole in
    record { machine = refl; end = omega (arith, same) }

pub comes_on : (m now next : State) (limit : ℕ) (stop : Option ℕ) (done : ℕ) → Comes m now limit stop done → done < limit
    → goes_on stop now ≡ true → next ≡ step now → Comes m next limit stop (done + 1)
comes_on m now next limit stop done comes within on stepped = record {
  machine = stepped ∙ ap step comes.machine ∙ sym (after_one (after m done)) ∙ after-after m done 1;
  end =
      let left : limit - done ≡ suc (limit - (done + 1)) = omega arith in
      let further : end_of now (limit - done) stop ≡ 1 + end_of (step now) (limit - (done + 1)) stop =
      ap (λ n. end_of now n stop) left ∙ end_on now (limit - (done + 1)) stop on in
      let same : end_of (step now) (limit - (done + 1)) stop ≡ end_of next (limit - (done + 1)) stop = ap (λ (x : State). end_of x (limit - (done + 1)) stop) (sym stepped) in
      omega (arith, comes.end, further, same);
}

pub comes_to_end : (m now : State) (limit : ℕ) (stop : Option ℕ) (done : ℕ) → Comes m now limit stop done → goes_on stop now ≡ false → done ≡ end_of m limit stop
comes_to_end m now limit stop done comes off = omega (arith, comes.end, end_here now (limit - done) stop off)

pub comes_whole : (m now : State) (limit : ℕ) (stop : Option ℕ) (done : ℕ) → Comes m now limit stop done → limit ≤ done → done ≡ end_of m limit stop
unfolding end_of
comes_whole m now limit stop done comes within =
    let none : limit - done ≡ 0 = omega arith in
    let end : end_of now (limit - done) stop ≡ 0 = ap (λ n. end_of now n stop) none in
    omega (arith, comes.end, end)

one_or_none : (b : Bool) (n limit : ℕ) → n ≤ limit → (if b then 1 + n else 0) ≤ suc limit
one_or_none true n limit h = omega arith
one_or_none false n limit h = omega arith

pub end_fits : (m : State) (limit : ℕ) (stop : Option ℕ) → end_of m limit stop ≤ limit
unfolding end_of
end_fits m zero stop = omega arith
end_fits m (suc limit) stop = one_or_none (goes_on stop m) (end_of (step m) limit stop) limit (end_fits (step m) limit stop)

-- ---- without a stop

whole_by : (b : Bool) (m : State) (limit : ℕ) → is_running m.standing ≡ b → end_of (step m) limit None ≡ attempts (step m) limit → end_of m (suc limit) None ≡ attempts m (suc limit)
whole_by true m limit h rest = end_on m limit None (ap (λ b. b && true) h) ∙ ap (λ n. 1 + n) rest ∙ sym (attempts_on m limit h)
whole_by false m limit h rest = end_here m (suc limit) None (ap (λ b. b && true) h) ∙ sym (attempts_stopped m (suc limit) h)

pub whole_end : (m : State) (limit : ℕ) → end_of m limit None ≡ attempts m limit
unfolding end_of attempts
whole_end m zero = refl
whole_end m (suc limit) = whole_by (is_running m.standing) m limit refl (whole_end (step m) limit)

pub whole_run : (m : State) (limit : ℕ) → after m (end_of m limit None) ≡ after m limit
whole_run m limit = ap (after m) (whole_end m limit) ∙ after_attempts m limit
