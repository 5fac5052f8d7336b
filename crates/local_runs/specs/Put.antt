-- how the bytes for OUT were written
use Rattle.std.specs.Prelude.{◌≡◌, ◌⊎◌, ℕ, List, [], ◌∷◌, ◌++◌, Option}
use Rattle.std.specs.Io.KnownBytes.{Appends, Keeps}
use Rattle.std.specs.declared.io.ErrorKind.{ErrorKind}
use Rattle.cards.specs.Files.{line_feed}
use Rattle.command_line.specs.Printed.{fault_words, writing_fault}
use Rattle.command_line.specs.declared.faults.Fault.{Fault}
use Rattle.command_line.specs.declared.statuses.Status.{Status}
use Rattle.command_line.specs.declared.statuses.Status.TheVariants.{NotDone}

-- this is the fault of a file that could not be written: there was no memory, or the device failed
abbrev pub IsWritingFault : Fault → Type 0
IsWritingFault fault = (kind : ErrorKind) × (fault ≡ writing_fault kind)

-- the fault of a file that could not be written was printed
abbrev pub IsWritingFaultTold : Option (List ℕ) → Option (List ℕ) → Type 0
IsWritingFaultTold errors_old errors_new = (fault : Fault) × IsWritingFault fault
    × Appends errors_old errors_new (fault_words fault ++ line_feed ∷ [])

-- the bytes were written, nothing was printed and the exit status is the given one; or they could
-- not be written, and the fault was printed
abbrev pub IsPut : Status → Status → Option (List ℕ) → Option (List ℕ) → Type 0
IsPut given ended errors_old errors_new =
    ((ended ≡ given) × Keeps errors_old errors_new)
    ⊎ ((ended ≡ NotDone) × IsWritingFaultTold errors_old errors_new)
