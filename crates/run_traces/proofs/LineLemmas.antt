-- the lines of attempts that are shown
use Rattle.std.proofs.Common.{◌≡◌, ℕ, zero, suc, ◌+◌, ◌-◌, ◌<◌, ◌≤◌, Bool, false, if◌then◌else◌, List, [], ◌++◌, refl, sym, ap, ◌∙◌, arith, append-nil, append_assoc, ⊎_elim}
use Rattle.std.proofs.lemmas.Bool.{cases_lt}
use Rattle.machine.specs.Run.{State, after}
use Rattle.run_traces.specs.Traces.{lines_shown}

module _ (shows : ℕ → Bool) (line : ℕ → State → List ℕ) (m : State) where
  one_hidden : (count : ℕ) → shows (suc count) ≡ false → lines_shown shows line m (suc count) ≡ lines_shown shows line m count
  unfolding lines_shown
  one_hidden count h = ap (λ b. lines_shown shows line m count ++ (if b then line (suc count) (after m count) else [])) h ∙ append-nil (lines_shown shows line m count)

  -- none of the first attempts is shown
  pub hidden_before : (count : ℕ) → ((number : ℕ) → 1 ≤ number → number < count + 1 → shows number ≡ false) → lines_shown shows line m count ≡ []
  unfolding lines_shown
  hidden_before zero none = refl
  hidden_before (suc count) none =
      one_hidden count (none (suc count) (omega arith) (omega arith)) ∙ hidden_before count (λ number some within. none number some (omega arith))

  -- none of the attempts behind the first ones is shown
  pub hidden_behind : (first more : ℕ) → ((number : ℕ) → first < number → number ≤ first + more → shows number ≡ false)
      → lines_shown shows line m (first + more) ≡ lines_shown shows line m first
  hidden_behind first zero none = let same : first + zero ≡ first = omega arith in ap (lines_shown shows line m) same
  hidden_behind first (suc more) none =
      let one : first + suc more ≡ suc (first + more) = omega arith in
      ap (lines_shown shows line m) one ∙ one_hidden (first + more) (none (suc (first + more)) (omega arith) (omega arith))
      ∙ hidden_behind first more (λ number some within. none number some (omega arith))

  -- one attempt more
  pub one_more : (count number done : ℕ) (now : State) (start text : List ℕ) → number ≡ suc count → done ≡ number → now ≡ after m count
      → text ≡ start ++ lines_shown shows line m count
      → text ++ (if shows number then line number now else []) ≡ start ++ lines_shown shows line m done
  unfolding lines_shown
  one_more count number done now start text is_next all reached before =
      let added : (if shows number then line number now else []) ≡ (if shows (suc count) then line (suc count) (after m count) else []) =
      ap (λ x. if shows number then line number x else []) reached ∙ ap (λ n. if shows n then line n (after m count) else []) is_next in
      ap (λ t. t ++ (if shows number then line number now else [])) before
      ∙ append_assoc start (lines_shown shows line m count) _
      ∙ ap (λ t. start ++ (lines_shown shows line m count ++ t)) added
      ∙ ap (λ n. start ++ lines_shown shows line m n) (sym (all ∙ is_next))

  -- up to the end of those that may be shown all are
  pub shown_to_end : (end count : ℕ) → 1 ≤ end → end ≤ count + 1 → ((number : ℕ) → end ≤ number → number ≤ count → shows number ≡ false)
      → lines_shown shows line m (end - 1) ≡ lines_shown shows line m count
  shown_to_end end count some within behind =
      let whole : (end - 1) + (count + 1 - end) ≡ count = omega arith in
      sym (hidden_behind (end - 1) (count + 1 - end) (λ number above most. behind number (omega arith) (omega arith))) ∙ ap (lines_shown shows line m) whole

  -- where those that may be shown end before they begin none is
  pub none_shown : (first end count : ℕ) → end ≤ first → ((number : ℕ) → 1 ≤ number → number < first → shows number ≡ false)
      → ((number : ℕ) → end ≤ number → number ≤ count → shows number ≡ false) → lines_shown shows line m count ≡ []
  none_shown first end count crossed before behind =
      hidden_before count
      (λ number some within. ⊎_elim (λ less. before number some less) (λ from. behind number (omega arith) (omega arith)) (cases_lt number first))
