-- what the program prints, and its exit status
use Rattle.std.specs.Prelude.{◌≡◌, ◌⊎◌, ℕ, List, [], ◌∷◌, ◌++◌, Option, codes, decimal}
use Rattle.std.specs.Io.KnownBytes.{Appends, Keeps}
use Rattle.std.specs.declared.io.ErrorKind.{ErrorKind}
use Rattle.std.specs.declared.io.ErrorKind.TheVariants.{OutOfMemory}
use Rattle.cards.specs.Files.{line_feed}
use Rattle.cards.specs.Faults.{out_of_memory}
use Rattle.cards.specs.Numbers.{card_error_number}
use Rattle.cards.specs.declared.faults.DeckFault.{DeckFault}
use Rattle.cards.specs.declared.faults.DeckFault.TheVariants as deck
use Rattle.command_line.specs.Versions.{version_of}
use Rattle.command_line.specs.declared.faults.Fault.{Fault}
use Rattle.command_line.specs.declared.faults.Fault.TheVariants as fault
use Rattle.command_line.specs.declared.statuses.Status.{Status}
use Rattle.command_line.specs.declared.statuses.Status.TheVariants as status

-- the number of an exit status, 0 to 3
abbrev pub status_code : Status → ℕ
status_code status.Done = 0
status_code status.NotDone = 1
status_code status.Misused = 2
status_code status.Unusable = 3

-- the text that is printed for a fault
abbrev pub fault_words : Fault → List ℕ
fault_words (fault.Card f) =
    codes "card " ++ decimal f.card ++ codes " column " ++ decimal f.column ++ codes " fault "
    ++ decimal (card_error_number f.error)
fault_words fault.Empty = codes "refused 13"
fault_words fault.TooManyCards = codes "fault 33"
fault_words fault.Memory = codes "fault 1"
fault_words fault.Device = codes "fault device"

-- the fault of a deck's text that could not be read: want of memory, or a failed device
abbrev pub reading_fault : ErrorKind → Fault
reading_fault OutOfMemory = fault.Card out_of_memory
reading_fault _ = fault.Device

-- the fault of a file that could not be written: want of memory, or a failed device
abbrev pub writing_fault : ErrorKind → Fault
writing_fault OutOfMemory = fault.Memory
writing_fault _ = fault.Device

-- the fault of a deck that takes no further card
abbrev pub fault_of_deck : DeckFault → Fault
fault_of_deck deck.TooManyCards = fault.TooManyCards
fault_of_deck deck.NoMemory = fault.Memory

-- the version of the bureau
abbrev pub version_text : List ℕ
version_text = version_of (codes "bureau")

-- the text was printed, or the output failed and the fault of a device was printed
abbrev pub IsTextShown : List ℕ → Status → Option (List ℕ) → Option (List ℕ) → Option (List ℕ) →
    Option (List ℕ) → Type 0
IsTextShown text ended output_old output_new errors_old errors_new =
    ((ended ≡ status.Done) × Appends output_old output_new text × Keeps errors_old errors_new)
    ⊎ ((ended ≡ status.NotDone)
    × Appends errors_old errors_new (fault_words fault.Device ++ line_feed ∷ []))
