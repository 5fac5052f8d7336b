-- the faults of a source, in the order of its cards
use Rattle.std.specs.Prelude.{ℕ, ◌+◌, ◌-◌, Bool, if◌then◌else◌, List, [], ◌∷◌, ◌++◌, length, Option, Some, None, slice_index_or}
use Rattle.autocoder_layout.specs.Layout.{Laid, nothing}
use Rattle.autocoder_layout.specs.declared.faults.SourceFault.{SourceFault}
use Rattle.autocoder_layout.specs.declared.faults.SourceFault.TheVariants as source
use Rattle.autocoder_layout.specs.declared.card_faults.CardFault.{CardFault}

-- a list of faults with that of a card in front, if it has one
abbrev pub fault_then : ℕ → Option SourceFault → List CardFault → List CardFault
fault_then card None rest = rest
fault_then card (Some fault) rest = record { card = card; fault = fault } ∷ rest

-- the faults of cards that are numbered from this number on
unfoldable pub faults_from : ℕ → List Laid → List CardFault
faults_from card [] = []
faults_from card (laid ∷ layout) = fault_then card laid.fault (faults_from (card + 1) layout)

-- the fault of the last card, if there is a card and it has one
unfoldable pub last_fault : List Laid → Option SourceFault
last_fault layout = (slice_index_or layout (length layout - 1) nothing).fault

-- the fault that a source has no END, which its last card is given unless it has a fault of its own
abbrev pub no_end_after : Option SourceFault → ℕ → List CardFault
no_end_after None card = record { card = card; fault = source.NoEnd } ∷ []
no_end_after (Some fault) card = []

-- the faults of the cards, and after them that of a source without END
abbrev pub faults_to_end : Bool → List CardFault → Option SourceFault → ℕ → List CardFault
faults_to_end ended faults last card = if ended then faults else faults ++ no_end_after last card

-- all faults of a source with or without END, in the order of its cards
unfoldable pub faults_of : Bool → List Laid → List CardFault
faults_of ended layout =
    faults_to_end ended (faults_from 1 layout) (last_fault layout) (length layout)
