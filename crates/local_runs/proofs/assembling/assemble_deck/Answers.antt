use Rattle.std.proofs.Common.{◌≡◌, List, ℕ, inl, inr, refl, subst, sym, ◌⊎◌}
use Rattle.std.specs.Prelude.{Option}
use Rattle.std.proofs.lemmas.Result.{IfOk-weaker}
use Rattle.cards.specs.Faults.{out_of_memory}
use Rattle.local_runs.specs.declared.showing.Assembled.{Assembled}
use Rattle.command_line.specs.declared.faults.Fault.{Fault}
use Rattle.command_line.specs.declared.faults.Fault.TheVariants as fault
use Rattle.local_runs.specs.Endings.{IsHindrance, hindered}
use Rattle.local_runs.specs.Assembling.{Assembles, Hinders}
use Rattle.local_runs.proofs.RunningLemmas.{kept, some_text}
use Rattle.local_runs.proofs.assembling.assemble_deck.Goals as goal

-- a fault that was told, with nothing put out
told : (text : List ℕ) (f : Fault) (answer : Assembled) (output errors_old errors_new : Option (List ℕ))
    → Hinders text f → IsHindrance f answer errors_old errors_new → Assembles text answer output output errors_old errors_new
told text f answer output errors_old errors_new hinders is =
    (hindered f, hinders, record { status = is.0; out = is.1; output = inr (kept output); errors = is.2 })

-- a reader's fault says nothing of the text
unread : (text : List ℕ) (f : Fault) → (f ≡ fault.Card out_of_memory) ⊎ (f ≡ fault.Device) → Hinders text f
unread text f (inl memory) = subst (Hinders text) (sym memory) (inl refl)
unread text f (inr device) = subst (Hinders text) (sym device) tt

pub returns-in-Err : goal.returns-in-Err
returns-in-Err g c =
    let text = some_text (g.R.Read.remaining c.args.reader) in
    IfOk-weaker c.hinder.result _ _
    (λ answer is. (text.0, text.1, told text.0 c.in-Err.fault answer _ _ _ (unread text.0 c.in-Err.fault c.in-Err.ensures.fault) is))
    c.hinder.ensures
