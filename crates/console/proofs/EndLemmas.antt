-- what is printed where a machine stands
use Rattle.std.proofs.Common.{◌≡◌, ℕ, ◌+◌, ◌-◌, Bool, List, ◌++◌, Result, Ok, Err, refl, sym, ap, subst, ◌∙◌, arith, append_assoc}
use Rattle.std.specs.Prelude.{OnOk}
use Rattle.machine.specs.Run.{State, after}
use Rattle.console.specs.Answers.{advanced, before_last, end_shown}
use Rattle.console.specs.Goes.{watched_cell}
use Rattle.console.specs.Shown.{last_shown, why_line}
use Rattle.console.specs.SessionStates.{HasCome, SessionState, machine_of}
use Rattle.console.proofs.SessionLemmas.{later_machine}

pub on_ok : {A E P Q : Type 0} (r : Result A E) → (P → Q) → OnOk r P → OnOk r Q
on_ok (Ok a) more is = more is
on_ok (Err e) more is = is

module _ (s : SessionState) (count : ℕ) (before : State) (seen : ℕ × Bool) (start middle whole : List ℕ) where
  -- the lines were added by a session that has come here
  abbrev Adds : SessionState → Type 0
  Adds now = before ≡ machine_of now.base now.starts (now.made - count + (count - 1))
      → seen ≡ watched_cell now.watched before.works.storage
      → ((made : ℕ) → now.made ≡ made + count → middle ≡ start ++ last_shown now.names made before count)
      → whole ≡ middle ++ why_line now.stops now.watched now.made seen now.machine
      → whole ≡ start ++ end_shown s count

  adds_here : HasCome s → Adds (advanced s count)
  adds_here come ran saw last why =
      let far : s.made + count - count + (count - 1) ≡ s.made + (count - 1) = omega arith in
      let m = before_last s.machine count in
      let here : before ≡ m = ran ∙ ap (machine_of s.base s.starts) far ∙ later_machine s (count - 1) come in
      let held : seen ≡ watched_cell s.watched m.works.storage = saw ∙ ap (λ (x : State). watched_cell s.watched x.works.storage) here in
      let shown : middle ≡ start ++ last_shown s.names s.made m count = last s.made refl ∙ ap (λ (x : State). start ++ last_shown s.names s.made x count) here in
      why
      ∙ ap (λ t. t ++ why_line s.stops s.watched (s.made + count) seen (after s.machine count)) shown
      ∙ ap (λ cell. (start ++ last_shown s.names s.made m count) ++ why_line s.stops s.watched (s.made + count) cell (after s.machine count)) held
      ∙ append_assoc start (last_shown s.names s.made m count) (why_line s.stops s.watched (s.made + count) (watched_cell s.watched m.works.storage) (after s.machine count))

  pub end_added : (now : SessionState) → HasCome s → now ≡ advanced s count → Adds now
  end_added now come same = subst Adds (sym same) (adds_here come)
