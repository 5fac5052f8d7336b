-- how runs end
use Rattle.std.proofs.Common.{◌≡◌, ◌∙◌, ◌++◌, ◌∷◌, [], List, ℕ, None, Some, Ok, Err, inl, inr, ap, refl, subst, sym, take}
use Rattle.std.specs.Prelude.{Option}
use Rattle.std.specs.Io.KnownBytes.{Appends, Keeps}
use Rattle.core_store.specs.declared.Size.{Size}
use Rattle.units.specs.Listing.{rendered}
use Rattle.units.specs.Ranges.{the_top}
use Rattle.units.specs.declared.Switches.{Switches}
use Rattle.units.specs.declared.profiles.Profile.TheVariants.{Selecting}
use Rattle.machine.specs.Ranges.{IsInRange}
use Rattle.machine.specs.Reports.{report_of, report_words}
use Rattle.machine.specs.Run.{State, after, lines_of, loaded}
use Rattle.machine.specs.declared.reports.Report.{Report}
use Rattle.machine.proofs.InRange.{loaded_in_range}
use Rattle.command_line.specs.Printed.{fault_words}
use Rattle.command_line.specs.declared.faults.Fault.{Fault}
use Rattle.command_line.specs.declared.faults.Fault.TheVariants as fault
use Rattle.command_line.specs.declared.statuses.Status.{Status}
use Rattle.command_line.specs.declared.statuses.Status.TheVariants as status
use Rattle.local_runs.specs.declared.running.TheConstants.{MOST_BYTES}
use Rattle.local_runs.specs.Pieces.{HasLoaded, HasRun}
use Rattle.local_runs.specs.Runs.{Reads, Refuses, Tells, shown_by}
use Rattle.local_runs.specs.Statuses.{status_at}
use Rattle.local_runs.proofs.PieceLemmas.{begun}

pub kept : (o : Option (List ℕ)) → Keeps o o
kept None = tt
kept (Some bytes) = refl

-- where nothing was read, some text might have been
pub some_text : (remaining : Option (List ℕ)) → (text : List ℕ) × Reads remaining text
some_text None = ([], tt)
some_text (Some bytes) = (take MOST_BYTES bytes, refl)

-- a fault that was told, with nothing put out
pub told : (text : List ℕ) (size : Size) (switches : Switches) (f : Fault) (ended : Status) (output errors_old errors_new : Option (List ℕ))
    → Refuses text f → (ended ≡ status.NotDone) × Appends errors_old errors_new (fault_words f ++ 10 ∷ [])
    → Tells text size switches ended output output errors_old errors_new
told text size switches f ended output errors_old errors_new refused is =
    (Err f, refused, record { status = is.0; output = inr (kept output); errors = is.1 })

-- an output that failed
pub failed : (text : List ℕ) (size : Size) (switches : Switches) (ended : Status) (output_old output_new errors_old errors_new : Option (List ℕ))
    → (ended ≡ status.NotDone) × Appends errors_old errors_new (fault_words fault.Device ++ 10 ∷ [])
    → Tells text size switches ended output_old output_new errors_old errors_new
failed text size switches ended output_old output_new errors_old errors_new is =
    (Err fault.Device, tt, record { status = is.0; output = inl refl; errors = is.1 })

-- a machine that has loaded a text's deck, run it and written its listing, and whose report was printed
pub run_told : (text : List ℕ) (size : Size) (switches : Switches) (m last : State) (ended : Status) (output_old output_new errors_old errors_new : Option (List ℕ))
    → HasLoaded text size switches m
    → ((start : State) (first : Option (List ℕ)) → IsInRange start → HasRun start 0 first output_old (record { piece = []; place = the_top }) m
    → Appends first output_new (rendered (lines_of (after start 1000000))) × (report_of last ≡ report_of (after start 1000000)))
    → (ended ≡ status_at (report_of last).standing) × Appends errors_old errors_new (report_words (report_of last) ++ 10 ∷ [])
    → Tells text size switches ended output_old output_new errors_old errors_new
run_told text size switches m last ended output_old output_new errors_old errors_new h run is =
    let start = loaded h.deck size switches Selecting in
    let made = run start output_old (loaded_in_range h.deck size switches Selecting h.has_card)
    (subst (λ (t : State). HasRun start 0 output_old output_old (record { piece = []; place = the_top }) t) (sym h.loads) (begun h.deck size switches output_old)) in (
      Ok (shown_by (after start 1000000)),
      record { deck = h.deck; is_deck = h.is_deck; has_card = h.has_card; is_text = h.is_text; gives = refl },
      record {
        status = is.0 ∙ ap (λ (r : Report). status_at r.standing) made.1;
        output = made.0;
        errors = subst (λ (r : Report). Appends errors_old errors_new (report_words r ++ 10 ∷ [])) made.1 is.1;
      },
    )
