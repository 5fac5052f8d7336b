-- the faults of a source as one list, where memory may run out
use Rattle.std.specs.Prelude.{List, [], ◌∷◌}
use Rattle.autocoder_layout.specs.declared.faults.SourceFault.TheVariants as source
use Rattle.autocoder_layout.specs.declared.card_faults.CardFault.{CardFault}
use Rattle.autocoder.specs.declared.faults.Faults.{Faults}
use Rattle.autocoder.specs.declared.faults.Faults.TheVariants as faults

-- want of memory as a list of faults: one with the card number 0
abbrev pub no_memory : List CardFault
no_memory = record { card = 0; fault = source.NoMemory } ∷ []

-- the faults as a list
abbrev pub fault_list : Faults → List CardFault
fault_list (faults.Source source) = source.faults.items
fault_list faults.NoMemory = no_memory
