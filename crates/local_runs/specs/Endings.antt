-- the assembly of a deck, and what is printed of it
use Rattle.std.specs.Prelude.{◌≡◌, ◌⊎◌, ◌++◌, ◌∷◌, [], ℕ, List, Option, Some, None, option_map, codes, decimal}
use Rattle.std.specs.List.{flat_map}
use Rattle.std.specs.Io.KnownBytes.{Appends, Keeps}
use Rattle.cards.specs.Files.{line_feed}
use Rattle.autocoder_layout.specs.Faults.{fault_number}
use Rattle.autocoder.specs.Faults.{fault_list}
use Rattle.autocoder_layout.specs.declared.card_faults.CardFault.{CardFault}
use Rattle.command_line.specs.Printed.{fault_words}
use Rattle.command_line.specs.declared.faults.Fault.{Fault}
use Rattle.command_line.specs.declared.faults.Fault.TheVariants as fault
use Rattle.command_line.specs.declared.statuses.Status.{Status}
use Rattle.command_line.specs.declared.statuses.Status.TheVariants as status
use Rattle.local_runs.specs.declared.showing.Assembled.{Assembled}
use Rattle.local_runs.specs.declared.showing.Hindrance.{Hindrance}
use Rattle.local_runs.specs.declared.showing.Hindrance.TheVariants as hindrance
use Rattle.local_runs.specs.declared.showing.Product.{Product}

-- what an assembly makes: the listing, and the text for the file OUT
pub record Made : Type 0 where
  pub listing : List ℕ
  pub out : List ℕ

-- the end of an assembly: what it made, the faults of the source, or a fault that kept it from
-- either
pub data Ending : Type 0 where
  assembled : Made → Ending
  faulty : List CardFault → Ending
  hindered : Fault → Ending

-- the listing and the text for OUT that a product has
abbrev pub made_by : Product → Made
made_by product = record { listing = product.listing.items; out = product.out.items }

-- the end of an assembly that a hindrance kept from making anything
abbrev pub ending_by : Hindrance → Ending
ending_by (hindrance.Source told) = faulty (fault_list told)
ending_by (hindrance.Fault f) = hindered f

-- ---- what is printed

-- the line for a fault of a source: the card's number and the fault's number
abbrev pub fault_line : CardFault → List ℕ
fault_line f =
    codes "card " ++ decimal f.card ++ codes " fault " ++ decimal (fault_number f.fault)
    ++ line_feed ∷ []

-- the lines for the faults of a source
abbrev pub fault_lines : List CardFault → List ℕ
fault_lines told = flat_map fault_line told

-- the exit status after an assembly that ended so
abbrev pub status_of : Ending → Status
status_of (assembled made) = status.Done
status_of (faulty told) = status.NotDone
status_of (hindered f) = status.NotDone

-- the text for OUT, if the assembly made one
abbrev pub out_of : Ending → Option (List ℕ)
out_of (assembled made) = Some made.out
out_of (faulty told) = None
out_of (hindered f) = None

-- what is printed on the output: the listing or the faults; or nothing, unless the device that
-- failed is the output
abbrev pub Outputs : Ending → Option (List ℕ) → Option (List ℕ) → Type 0
Outputs (assembled made) old new = Appends old new made.listing
Outputs (faulty told) old new = Appends old new (fault_lines told)
Outputs (hindered f) old new = (f ≡ fault.Device) ⊎ Keeps old new

-- what is printed on the standard error: a fault that kept the assembly from its end, or nothing
abbrev pub Complains : Ending → Option (List ℕ) → Option (List ℕ) → Type 0
Complains (assembled made) old new = Keeps old new
Complains (faulty told) old new = Keeps old new
Complains (hindered f) old new = Appends old new (fault_words f ++ line_feed ∷ [])

-- the bytes for OUT in an answer, if there are any
abbrev pub out_in : Assembled → Option (List ℕ)
out_in answer = option_map (λ bytes. bytes.items) answer.out

-- the answer for a fault: exit status 1, no bytes for OUT, and the fault was printed
abbrev pub IsHindrance : Fault → Assembled → Option (List ℕ) → Option (List ℕ) → Type 0
IsHindrance f answer old new = (answer.status ≡ status.NotDone) × (out_in answer ≡ None)
    × Appends old new (fault_words f ++ line_feed ∷ [])

-- the assembly ended so: its listing or faults were printed, and the answer has its status and
-- bytes for OUT
pub record IsPrinted (ending : Ending) (answer : Assembled)
    (output_old output_new errors_old errors_new : Option (List ℕ)) : Type 0 where
  pub status : answer.status ≡ status_of ending
  pub out : out_in answer ≡ out_of ending
  pub output : Outputs ending output_old output_new
  pub errors : Complains ending errors_old errors_new

-- the assembly's end was printed and answered, or a device's fault was
abbrev pub IsShown : Ending → Assembled → Option (List ℕ) → Option (List ℕ) → Option (List ℕ) →
    Option (List ℕ) → Type 0
IsShown ending answer output_old output_new errors_old errors_new =
    IsPrinted ending answer output_old output_new errors_old errors_new
    ⊎ IsPrinted (hindered fault.Device) answer output_old output_new errors_old errors_new
