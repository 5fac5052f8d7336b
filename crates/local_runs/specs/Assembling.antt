-- the assembly of a deck's text
use Rattle.std.specs.Prelude.{◌≡◌, ◌≢◌, ◌⊎◌, ◌<◌, ◌≤◌, [], ℕ, List, length, Option}
use Rattle.cards.specs.declared.Card.{Card}
use Rattle.cards.specs.Decks.{largest_deck, IsDeck}
use Rattle.cards.specs.Faults.{out_of_memory}
use Rattle.cards.specs.Files.{text_of}
use Rattle.autocoder_layout.specs.Source.{has_end, source_of}
use Rattle.autocoder.specs.Listing.{listing_for}
use Rattle.autocoder.specs.Programs.{IsFaultless, layout_for}
use Rattle.autocoder_layout.specs.CardFaults.{faults_of}
use Rattle.autocoder.specs.Faults.{no_memory}
use Rattle.autocoder_layout.specs.declared.card_faults.CardFault.{CardFault}
use Rattle.loader.specs.Decks.{runnable_deck}
use Rattle.command_line.specs.declared.faults.Fault.{Fault}
use Rattle.command_line.specs.declared.faults.Fault.TheVariants as fault
use Rattle.local_runs.specs.Endings.{Ending, IsPrinted, Made, assembled, faulty, hindered}
use Rattle.local_runs.specs.declared.showing.Assembled.{Assembled}
use Rattle.local_runs.specs.Runs.{IsTextFault}

-- ---- what is made of a deck

-- the listing of a deck's source, and the text of the deck that loads its program and then its data
abbrev pub made_of : List Card → Made
made_of deck = record { listing = listing_for deck; out = text_of (runnable_deck deck) }

-- ---- how the assembly of a text ends

-- the text is that of this deck
pub record IsTextOf (text : List ℕ) (deck : List Card) : Type 0 where
  pub is_deck : IsDeck deck
  pub is_text : text ≡ text_of deck

-- the text is that of a deck whose source has no fault and whose loading cards and data fit in a
-- deck, and this is made of it
pub record IsMadeOf (text : List ℕ) (made : Made) : Type 0 where
  pub deck : List Card
  pub is : IsTextOf text deck
  pub faultless : IsFaultless (source_of deck)
  pub fits : length (runnable_deck deck) ≤ largest_deck
  pub gives : made ≡ made_of deck

-- the text is that of a deck whose source has these faults, at least one
pub record AreFaultsOf (text : List ℕ) (told : List CardFault) : Type 0 where
  pub deck : List Card
  pub is : IsTextOf text deck
  pub are : told ≡ faults_of (has_end (source_of deck)) (layout_for (source_of deck))
  pub some : told ≢ []

-- the text is that of a deck whose source has no fault, but whose loading cards and data are too
-- many for a deck
pub record IsTooLong (text : List ℕ) : Type 0 where
  pub deck : List Card
  pub is : IsTextOf text deck
  pub faultless : IsFaultless (source_of deck)
  pub over : largest_deck < length (runnable_deck deck)

-- the fault that keeps a text from being assembled: one of the text, or a failure of memory or of a
-- device
abbrev pub Hinders : List ℕ → Fault → Type 0
Hinders text (fault.Card f) = (f ≡ out_of_memory) ⊎ IsTextFault text f
Hinders text fault.Empty = ⊥
Hinders text fault.TooManyCards = IsTooLong text
Hinders text fault.Memory = Unit {0}
Hinders text fault.Device = Unit {0}

-- how the assembly of a text ends
abbrev pub Ends : List ℕ → Ending → Type 0
Ends text (assembled made) = IsMadeOf text made
Ends text (faulty told) = (told ≡ no_memory) ⊎ AreFaultsOf text told
Ends text (hindered f) = Hinders text f

-- the assembly of the text ended in some way, and what it made was printed and answered
abbrev pub Assembles : List ℕ → Assembled → Option (List ℕ) → Option (List ℕ) → Option (List ℕ) →
    Option (List ℕ) → Type 0
Assembles text answer output_old output_new errors_old errors_new = (ending : Ending)
    × Ends text ending × IsPrinted ending answer output_old output_new errors_old errors_new
