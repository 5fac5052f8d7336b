use Rattle.std.proofs.Common.{List, [], ℕ, Err, Option, Some, None, inl, inr, refl, subst, sym}
use Rattle.std.proofs.lemmas.Result.{IfOk-weaker}
use Rattle.std.specs.Io.KnownBytes.{Keeps}
use Rattle.std.specs.declared.io.ErrorKind.{ErrorKind}
use Rattle.std.specs.declared.io.ErrorKind.TheVariants.{OutOfMemory}
use Rattle.command_line.specs.Printed.{reading_fault}
use Rattle.local_runs.specs.Runs.{Refuses}
use Rattle.local_runs.proofs.deck_files.run_input.Goals as goal

-- a deck that cannot be opened: the fault says nothing of a text
unopened : (kind : ErrorKind) → Refuses [] (reading_fault kind)
unopened OutOfMemory = inl refl
unopened _ = tt

kept : (o : Option (List ℕ)) → Keeps o o
kept None = tt
kept (Some xs) = refl

pub returns-in-Err : goal.returns-in-Err
returns-in-Err g c =
    let fault = c.of_reading.result in
    let refuses : Refuses [] fault = subst (Refuses []) (sym c.of_reading.ensures) (unopened _) in
    IfOk-weaker c.tell_fault.result _ _
    (λ ended is. ([], (Err fault, refuses, record { status = is.0; output = inr (kept _); errors = is.1 })))
    c.tell_fault.ensures
