-- the lines of attempts
use Rattle.std.proofs.Common.{◌≡◌, ℕ, zero, suc, ◌+◌, ◌-◌, ◌<◌, ◌≤◌, true, false, Option, List, [], ◌++◌, if◌then◌else◌, refl, sym, ap, ◌∙◌, arith, append_assoc, append-nil}
use Rattle.machine.specs.Run.{State, after, attempts, is_running, step}
use Rattle.machine.proofs.Attempts.{attempts_on}
use Rattle.machine.proofs.Steps.{after_stopped, attempts_stopped}
use Rattle.run_traces.specs.Attempts.{attempt_line}
use Rattle.run_traces.specs.Names.{Named}
use Rattle.console.specs.Shown.{attempts_shown}

after_next : (m : State) (limit : ℕ) → after m (suc limit) ≡ after (step m) limit
unfolding after
after_next m limit = refl

module _ (names : Option Named) where
  shown_nowhere : (made : ℕ) (m : State) (limit : ℕ) → is_running m.standing ≡ false → attempts_shown names made m limit ≡ []
  unfolding attempts_shown
  shown_nowhere made m zero h = refl
  shown_nowhere made m (suc limit) h = ap (λ b. if b then attempt_line names (made + 1) m ++ attempts_shown names (made + 1) (step m) limit else []) h

  shown_on : (made : ℕ) (m : State) (limit : ℕ) → is_running m.standing ≡ true
      → attempts_shown names made m (suc limit) ≡ attempt_line names (made + 1) m ++ attempts_shown names (made + 1) (step m) limit
  unfolding attempts_shown
  shown_on made m limit h = ap (λ b. if b then attempt_line names (made + 1) m ++ attempts_shown names (made + 1) (step m) limit else []) h

-- a machine that has come so far, with the lines that were added
pub record Shows (names : Option Named) (made : ℕ) (m now : State) (limit done : ℕ) (start text : List ℕ) : Type 0 where
  pub machine : after m limit ≡ after now (limit - done)
  pub count : attempts m limit ≡ done + attempts now (limit - done)
  pub text_is : start ++ attempts_shown names made m limit ≡ text ++ attempts_shown names (made + done) now (limit - done)

pub shows_none : (names : Option Named) (made : ℕ) (m : State) (limit : ℕ) (start : List ℕ) → Shows names made m m limit 0 start start
shows_none names made m limit start =
    let whole : limit ≡ limit - 0 = omega arith in
    let none : made ≡ made + 0 = omega arith in
    let same : attempts m limit ≡ attempts m (limit - 0) = ap (attempts m) whole in
    record {
      machine = ap (after m) whole;
      count = omega (arith, same);
      text_is = ap (λ n. start ++ attempts_shown names made m n) whole ∙ ap (λ n. start ++ attempts_shown names n m (limit - 0)) none;
    }

module _ {names : Option Named} {made : ℕ} {m now : State} {limit done : ℕ} {start text : List ℕ} (shows : Shows names made m now limit done start text) where
  left : done < limit → limit - done ≡ suc (limit - (done + 1))
  left h = omega arith

  pub shows_on : (next : State) (longer : List ℕ) → done < limit → is_running now.standing ≡ true → next ≡ step now
      → longer ≡ text ++ attempt_line names (made + done + 1) now → Shows names made m next limit (done + 1) start longer
  shows_on next longer within runs stepped added =
      let n = limit - (done + 1) in
      let more : attempts now (limit - done) ≡ 1 + attempts (step now) n = ap (attempts now) (left within) ∙ attempts_on now n runs in
      let same : attempts (step now) n ≡ attempts next n = ap (λ (x : State). attempts x n) (sym stepped) in
      let further : made + done + 1 ≡ made + (done + 1) = omega arith in
      record {
        machine = shows.machine ∙ ap (after now) (left within) ∙ after_next now n ∙ ap (λ (x : State). after x n) (sym stepped);
        count = omega (arith, shows.count, more, same);
        text_is = shows.text_is
            ∙ ap (λ k. text ++ attempts_shown names (made + done) now k) (left within)
            ∙ ap (λ t. text ++ t) (shown_on names (made + done) now n runs)
            ∙ sym (append_assoc text (attempt_line names (made + done + 1) now) (attempts_shown names (made + done + 1) (step now) n))
            ∙ ap (λ t. t ++ attempts_shown names (made + done + 1) (step now) n) (sym added)
            ∙ ap (λ k. longer ++ attempts_shown names k (step now) n) further
            ∙ ap (λ (x : State). longer ++ attempts_shown names (made + (done + 1)) x n) (sym stepped);
      }

  pub stopped_machine : is_running now.standing ≡ false → now ≡ after m limit
  stopped_machine off = sym (shows.machine ∙ after_stopped now (limit - done) off)

  pub stopped_count : is_running now.standing ≡ false → done ≡ attempts m limit
  stopped_count off = omega (arith, shows.count, attempts_stopped now (limit - done) off)

  pub stopped_text : is_running now.standing ≡ false → text ≡ start ++ attempts_shown names made m limit
  stopped_text off = sym (shows.text_is ∙ ap (λ t. text ++ t) (shown_nowhere names (made + done) now (limit - done) off) ∙ append-nil text)

  none_left : limit ≤ done → limit - done ≡ 0
  none_left h = omega arith

  pub whole_machine : limit ≤ done → now ≡ after m limit
  unfolding after
  whole_machine h = sym (shows.machine ∙ ap (after now) (none_left h))

  pub whole_count : limit ≤ done → done ≡ attempts m limit
  unfolding attempts
  whole_count h = let none : attempts now (limit - done) ≡ 0 = ap (attempts now) (none_left h) in omega (arith, shows.count, none)

  pub whole_text : limit ≤ done → text ≡ start ++ attempts_shown names made m limit
  unfolding attempts_shown
  whole_text h = sym (shows.text_is ∙ ap (λ n. text ++ attempts_shown names (made + done) now n) (none_left h) ∙ append-nil text)
