-- whole runs that begin at the start of a program
use Rattle.std.proofs.Common.{◌≡◌, ℕ, ◌+◌, ◌-◌, ◌≤◌, true, false, List, [], ◌∷◌, sym, ap, ◌∙◌}
use Rattle.std.proofs.Math.Logic.{◌↔◌}
use Rattle.machine.specs.Run.{State, after, is_running}
use Rattle.units.specs.declared.printer.Line.{Line}
use Rattle.units.specs.declared.punch.Punched.{Punched}
use Rattle.units.specs.declared.switches.Switches.{Switches}
use Rattle.office.specs.Whole.{RunsToHalt, RunsThrough, Whole}
use Rattle.office.proofs.HaltLemmas.{Adds, stands}

abbrev pub Passes : Type 0
Passes = (m : State) (first whole : ℕ) → is_running (after m first).standing ≡ true → is_running (after m whole).standing ≡ false →
    (first ≤ whole) × (after (after m first) (whole - first) ≡ after m whole)

-- runs to a halt from a machine, and from where it still runs after so many steps
module _ (adds : Adds) (passes : Passes) (begin later : State) (count : ℕ) (arrives : after begin count ≡ later) (running : is_running later.standing ≡ true) where
  forth : (halt : State) → RunsToHalt begin halt → RunsToHalt later halt
  forth halt run =
      let on : (count ≤ run.count) × (after (after begin count) (run.count - count) ≡ after begin run.count) =
      passes begin count run.count (ap (λ (t : State). is_running t.standing) arrives ∙ running) (stands begin halt run) in
      record { count = run.count - count; is = run.is ∙ sym on.1 ∙ ap (λ (t : State). after t (run.count - count)) arrives; halted = run.halted }

  back : (halt : State) → RunsToHalt later halt → RunsToHalt begin halt
  back halt run = record { count = count + run.count; is = run.is ∙ ap (λ (t : State). after t run.count) (sym arrives) ∙ adds begin count run.count; halted = run.halted }

  through_forth : (starts : List Switches) (end : State) → RunsThrough begin starts end → RunsThrough later starts end
  through_forth [] end run = forth end run
  through_forth (switches ∷ starts) end run = (run.0, forth run.0 run.1, run.2)

  through_back : (starts : List Switches) (end : State) → RunsThrough later starts end → RunsThrough begin starts end
  through_back [] end run = back end run
  through_back (switches ∷ starts) end run = (run.0, back run.0 run.1, run.2)

-- whole runs
module _ (adds : Adds) (passes : Passes) (begin later : Switches → State) (count : ℕ) (arrives : (switches : Switches) → after (begin switches) count ≡ later switches)
    (running : (switches : Switches) → is_running (later switches).standing ≡ true) where
  whole_forth : (starts : List Switches) (cards : List Punched) (lines : List Line) → Whole begin starts cards lines → Whole later starts cards lines
  whole_forth [] cards lines whole = whole
  whole_forth (switches ∷ starts) cards lines whole =
      (whole.0, through_forth adds passes (begin switches) (later switches) count (arrives switches) (running switches) starts whole.0 whole.1, whole.2, whole.3)

  whole_back : (starts : List Switches) (cards : List Punched) (lines : List Line) → Whole later starts cards lines → Whole begin starts cards lines
  whole_back [] cards lines whole = whole
  whole_back (switches ∷ starts) cards lines whole =
      (whole.0, through_back adds passes (begin switches) (later switches) count (arrives switches) (running switches) starts whole.0 whole.1, whole.2, whole.3)

  pub whole_alike : (starts : List Switches) (cards : List Punched) (lines : List Line) → Whole begin starts cards lines ↔ Whole later starts cards lines
  whole_alike starts cards lines = (whole_forth starts cards lines, whole_back starts cards lines)
