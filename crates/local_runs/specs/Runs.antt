-- the run of a deck, and what is printed of it
use Rattle.std.specs.Prelude.{◌≡◌, ◌⊎◌, ◌<◌, ◌++◌, ◌∷◌, [], ℕ, List, length, Option, Result, Ok, Err}
use Rattle.std.specs.Io.KnownBytes.{Appends, Keeps}
use Rattle.cards.specs.Files.{line_feed}
use Rattle.cards.specs.declared.Card.{Card}
use Rattle.cards.specs.declared.CardFault.{CardFault}
use Rattle.cards.specs.Decks.{IsDeck}
use Rattle.cards.specs.Faults.{IsFault, out_of_memory}
use Rattle.cards.specs.Files.{file_of, text_of}
use Rattle.core_store.specs.declared.sizes.Size.{Size}
use Rattle.units.specs.declared.switches.Switches.{Switches}
use Rattle.units.specs.Listing.{rendered}
use Rattle.units.specs.declared.profiles.Profile.TheVariants.{Selecting}
use Rattle.machine.specs.Run.{State, after, lines_of, loaded, most_instructions}
use Rattle.machine.specs.Reports.{report_of, report_words}
use Rattle.machine.specs.declared.reports.Report.{Report}
use Rattle.texts.specs.Reading.{IsReadUpTo}
use Rattle.command_line.specs.declared.faults.Fault.{Fault}
use Rattle.command_line.specs.declared.faults.Fault.TheVariants as fault
use Rattle.command_line.specs.declared.statuses.Status.{Status}
use Rattle.command_line.specs.declared.statuses.Status.TheVariants as status
use Rattle.command_line.specs.Printed.{fault_words}
use Rattle.local_runs.specs.Statuses.{status_at}

-- the most bytes that are read of a deck's text: one more than the longest such text has
abbrev pub most_bytes : ℕ
most_bytes = 162001

-- these are the bytes that are read of a reader's, if those are known
abbrev pub Reads : Option (List ℕ) → List ℕ → Type 0
Reads remaining text = IsReadUpTo most_bytes remaining text

-- what a run gives: the listing of its lines, and the report
pub record Shown : Type 0 where
  pub listing : List ℕ
  pub report : Report

-- what this machine gives: the listing of its lines, and the report
abbrev pub shown_by : State → Shown
shown_by m = record { listing = rendered (lines_of m); report = report_of m }

-- the text is that of a deck with a card, and this is given by the machine that ran the deck, one
-- with stacker selection
pub record IsRunOf (text : List ℕ) (size : Size) (switches : Switches)
    (shown : Shown) : Type 0 where
  pub deck : List Card
  pub is_deck : IsDeck deck
  pub has_card : 0 < length deck
  pub is_text : text ≡ text_of deck
  pub gives : shown ≡ shown_by (after (loaded deck size switches Selecting) most_instructions)

-- the first fault of a text as a deck
abbrev pub IsTextFault : List ℕ → CardFault → Type 0
IsTextFault text f = (form : _) × (text_of ≡ file_of form) × IsFault form text f

-- why a text is not run: a fault in it, no card, or a failure of memory or of a device
abbrev pub Refuses : List ℕ → Fault → Type 0
Refuses text (fault.Card f) = (f ≡ out_of_memory) ⊎ IsTextFault text f
Refuses text fault.Empty = text ≡ []
Refuses text fault.TooManyCards = ⊥
Refuses text fault.Memory = Unit {0}
Refuses text fault.Device = Unit {0}

-- how the run of a text ends: with what the machine gives, or with a fault
abbrev pub Ends : List ℕ → Size → Switches → Result Shown Fault → Type 0
Ends text size switches (Ok shown) = IsRunOf text size switches shown
Ends text size switches (Err f) = Refuses text f

-- the exit status after a run that ended so
abbrev pub status_of : Result Shown Fault → Status
status_of (Ok shown) = status_at shown.report.standing
status_of (Err f) = status.NotDone

-- the line on the standard error after a run that ended so: the report, or the fault
abbrev pub message_of : Result Shown Fault → List ℕ
message_of (Ok shown) = report_words shown.report ++ line_feed ∷ []
message_of (Err f) = fault_words f ++ line_feed ∷ []

-- what is printed on the output: the listing, or after a fault nothing, unless the device that
-- failed is the output
abbrev pub Outputs : Result Shown Fault → Option (List ℕ) → Option (List ℕ) → Type 0
Outputs (Ok shown) old new = Appends old new shown.listing
Outputs (Err f) old new = (f ≡ fault.Device) ⊎ Keeps old new

-- the run ended so: this is its exit status, and its listing and message were printed
pub record IsPrinted (ending : Result Shown Fault) (ended : Status)
    (output_old output_new errors_old errors_new : Option (List ℕ)) : Type 0 where
  pub status : ended ≡ status_of ending
  pub output : Outputs ending output_old output_new
  pub errors : Appends errors_old errors_new (message_of ending)

-- the run of the text ended in some way, and what it gave was printed
abbrev pub Tells : List ℕ → Size → Switches → Status → Option (List ℕ) → Option (List ℕ) →
    Option (List ℕ) → Option (List ℕ) → Type 0
Tells text size switches ended output_old output_new errors_old errors_new =
    (ending : Result Shown Fault)
    × Ends text size switches ending
    × IsPrinted ending ended output_old output_new errors_old errors_new
