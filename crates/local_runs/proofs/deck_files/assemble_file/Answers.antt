use Rattle.std.proofs.Common.{[], inr, refl, subst, sym, inl}
use Rattle.std.proofs.lemmas.Result.{IfOk-weaker}
use Rattle.std.specs.declared.io.ErrorKind.{ErrorKind}
use Rattle.std.specs.declared.io.ErrorKind.TheVariants.{OutOfMemory}
use Rattle.command_line.specs.Printed.{reading_fault}
use Rattle.local_runs.specs.Assembling.{Hinders}
use Rattle.local_runs.specs.Endings.{hindered}
use Rattle.local_runs.proofs.RunningLemmas.{kept}
use Rattle.local_runs.proofs.deck_files.assemble_file.Goals as goal

-- a source that cannot be opened: the fault says nothing of a text
unopened : (kind : ErrorKind) → Hinders [] (reading_fault kind)
unopened OutOfMemory = inl refl
unopened _ = tt

pub returns-in-Err : goal.returns-in-Err
returns-in-Err g c =
    let fault = c.of_reading.result in
    let hinders : Hinders [] fault = subst (Hinders []) (sym c.of_reading.ensures) (unopened _) in
    IfOk-weaker c.hinder.result _ _
    (λ answer is. ([], (hindered fault, hinders, record { status = is.0; out = is.1; output = inr (kept _); errors = is.2 })))
    c.hinder.ensures
