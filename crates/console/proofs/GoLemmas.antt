-- how far a machine goes
use Rattle.std.proofs.Common.{◌≡◌, ℕ, zero, suc, ◌+◌, ◌-◌, ◌<◌, ◌≤◌, Bool, true, false, Option, List, if◌then◌else◌, refl, sym, ap, ◌∙◌, arith}
use Rattle.machine.specs.Run.{State, after, is_running, step}
use Rattle.machine.proofs.Steps.{after-after, after_one}
use Rattle.console.specs.Goes.{goes_on, went}

module _ (stops : List ℕ) (watched : Option ℕ) where
  -- a machine that does not run goes nowhere
  pub went_nowhere : (m : State) (limit : ℕ) → is_running m.standing ≡ false → went stops watched m limit ≡ 0
  unfolding went
  went_nowhere m zero h = refl
  went_nowhere m (suc limit) h = ap (λ b. if b then 1 + (if goes_on stops watched m (step m) then went stops watched (step m) limit else 0) else 0) h

  -- one that runs goes one instruction, and on if it goes on
  pub went_one : (m : State) (limit : ℕ) → is_running m.standing ≡ true → goes_on stops watched m (step m) ≡ false → went stops watched m (suc limit) ≡ 1
  unfolding went
  went_one m limit h last =
      ap (λ b. if b then 1 + (if goes_on stops watched m (step m) then went stops watched (step m) limit else 0) else 0) h
      ∙ ap (λ b. 1 + (if b then went stops watched (step m) limit else 0)) last

  pub went_on : (m : State) (limit : ℕ) → is_running m.standing ≡ true → goes_on stops watched m (step m) ≡ true
      → went stops watched m (suc limit) ≡ 1 + went stops watched (step m) limit
  unfolding went
  went_on m limit h on =
      ap (λ b. if b then 1 + (if goes_on stops watched m (step m) then went stops watched (step m) limit else 0) else 0) h
      ∙ ap (λ b. 1 + (if b then went stops watched (step m) limit else 0)) on

  fits_by : (running on : Bool) (n limit : ℕ) → n ≤ limit → (if running then 1 + (if on then n else 0) else 0) ≤ suc limit
  fits_by true true n limit h = omega arith
  fits_by true false n limit h = omega arith
  fits_by false on n limit h = omega arith

  pub went_fits : (m : State) (limit : ℕ) → went stops watched m limit ≤ limit
  unfolding went
  went_fits m zero = omega arith
  went_fits m (suc limit) = fits_by (is_running m.standing) (goes_on stops watched m (step m)) (went stops watched (step m) limit) limit (went_fits (step m) limit)

-- a machine that has come so far, and stands where it goes to
pub record Comes (stops : List ℕ) (watched : Option ℕ) (m now : State) (limit done : ℕ) : Type 0 where
  pub machine : now ≡ after m done
  pub rest : went stops watched m limit ≡ done + went stops watched now (limit - done)

pub comes_none : (stops : List ℕ) (watched : Option ℕ) (m : State) (limit : ℕ) → Comes stops watched m m limit 0
unfolding after
comes_none stops watched m limit =
    let whole : limit - 0 ≡ limit = omega arith in
    let same : went stops watched m (limit - 0) ≡ went stops watched m limit = ap (λ n. went stops watched m n) whole in
    record { machine = refl; rest = omega (arith, same) }

module _ {stops : List ℕ} {watched : Option ℕ} {m now : State} {limit done : ℕ} (comes : Comes stops watched m now limit done) where
  left : done < limit → limit - done ≡ suc (limit - (done + 1))
  left h = omega arith

  pub comes_next : (next : State) → next ≡ step now → next ≡ after m (done + 1)
  comes_next next stepped = stepped ∙ ap step comes.machine ∙ sym (after_one (after m done)) ∙ after-after m done 1

  pub comes_on : (next : State) → done < limit → is_running now.standing ≡ true → goes_on stops watched now next ≡ true → next ≡ step now
      → Comes stops watched m next limit (done + 1)
  comes_on next within runs on stepped = record {
    machine = comes_next next stepped;
    rest =
        let here : goes_on stops watched now (step now) ≡ true = ap (λ (x : State). goes_on stops watched now x) (sym stepped) ∙ on in
        let further : went stops watched now (limit - done) ≡ 1 + went stops watched (step now) (limit - (done + 1)) =
        ap (λ n. went stops watched now n) (left within) ∙ went_on stops watched now (limit - (done + 1)) runs here in
        let same : went stops watched (step now) (limit - (done + 1)) ≡ went stops watched next (limit - (done + 1)) = ap (λ (x : State). went stops watched x (limit - (done + 1))) (sym stepped) in
        omega (arith, comes.rest, further, same);
  }

  -- it stands here, where it does not run
  pub comes_stopped : is_running now.standing ≡ false → done ≡ went stops watched m limit
  comes_stopped off = omega (arith, comes.rest, went_nowhere stops watched now (limit - done) off)

  -- it stands after one instruction more, after which it does not go on
  pub comes_last : (next : State) → done < limit → is_running now.standing ≡ true → goes_on stops watched now next ≡ false → next ≡ step now
      → done + 1 ≡ went stops watched m limit
  comes_last next within runs off stepped =
      let here : goes_on stops watched now (step now) ≡ false = ap (λ (x : State). goes_on stops watched now x) (sym stepped) ∙ off in
      let further : went stops watched now (limit - done) ≡ 1 =
      ap (λ n. went stops watched now n) (left within) ∙ went_one stops watched now (limit - (done + 1)) runs here in
      omega (arith, comes.rest, further)

  -- it has done all
  pub comes_whole : limit ≤ done → done ≡ went stops watched m limit
  unfolding went
  comes_whole within =
      let none : limit - done ≡ 0 = omega arith in
      let end : went stops watched now (limit - done) ≡ 0 = ap (λ n. went stops watched now n) none in
      omega (arith, comes.rest, end)
