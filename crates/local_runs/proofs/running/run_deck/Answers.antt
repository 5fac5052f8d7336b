use Rattle.std.proofs.Common.{◌≡◌, ◌++◌, ◌∷◌, [], List, ℕ, Err, refl, inl, inr, subst, sym, ◌⊎◌}
use Rattle.std.specs.Prelude.{Option}
use Rattle.std.proofs.lemmas.Result.{IfOk-weaker}
use Rattle.std.specs.Io.KnownBytes.{Appends}
use Rattle.cards.specs.Faults.{out_of_memory}
use Rattle.core_store.specs.declared.Size.{Size}
use Rattle.units.specs.declared.Switches.{Switches}
use Rattle.command_line.specs.declared.faults.Fault.{Fault}
use Rattle.command_line.specs.declared.faults.Fault.TheVariants as fault
use Rattle.command_line.specs.declared.statuses.Status.{Status}
use Rattle.command_line.specs.declared.statuses.Status.TheVariants as status
use Rattle.local_runs.specs.Runs.{Refuses, Tells}
use Rattle.command_line.specs.Printed.{fault_words}
use Rattle.local_runs.proofs.RunningLemmas.{some_text, told}
use Rattle.local_runs.proofs.running.run_deck.Goals as goal

-- a reader's fault says nothing of the text
unread : (text : List ℕ) (f : Fault) → (f ≡ fault.Card out_of_memory) ⊎ (f ≡ fault.Device) → Refuses text f
unread text f (inl memory) = subst (Refuses text) (sym memory) (inl refl)
unread text f (inr device) = subst (Refuses text) (sym device) tt

pub returns-in-Err : goal.returns-in-Err
returns-in-Err g c =
    let text = some_text (g.R.Read.remaining c.args.reader) in
    IfOk-weaker c.tell_fault.result _ _
    (λ ended is. (text.0, text.1, told text.0 c.args.size c.args.switches c.in-Err.fault ended _ _ _ (unread text.0 c.in-Err.fault c.in-Err.ensures.fault) is))
    c.tell_fault.ensures

pub returns : goal.returns
returns g c =
    let text = c.in-Ok.text.items in
    let fault = c.in-Err-machine_for.fault in
    let refused : Refuses text fault = subst (λ (t : List ℕ). Refuses t fault) c.deref.ensures.value c.in-Err-machine_for.ensures.fault.0 in
    IfOk-weaker c.tell_fault-in-Err-machine_for.result _ _
    (λ ended is. (text, c.in-Ok.ensures.text, told text c.args.size c.args.switches fault ended _ _ _ refused is))
    c.tell_fault-in-Err-machine_for.ensures
