-- a job that is run again from what its rows hold
use Rattle.std.specs.Prelude.{◌≡◌, ◌<◌, ℕ, List, length, take}
use Rattle.cards.specs.declared.decks.Card.{Card}
use Rattle.cards.specs.Decks.{IsDeck}
use Rattle.autocoder_layout.specs.Source.{source_of}
use Rattle.autocoder.specs.Programs.{IsFaultless}
use Rattle.machine.specs.Run.{State}
use Rattle.machine.specs.declared.standings.Standing.TheVariants.{Halted}
use Rattle.office.specs.Jobs.{loaded_of, resumed, AreStretches}
use Rattle.office.specs.declared.commands.Contents.{Contents}
use Rattle.office.specs.declared.commands.Kind.{Kind}
use Rattle.office.specs.declared.commands.Kind.TheVariants.{Autocoder}
use Rattle.office.specs.declared.stretches.Stretch.{Stretch}

-- a deck that a job may have, and the deck that its machine loads
pub record IsLoading (kind : Kind) (deck loaded : List Card) : Type 0 where
  pub is_deck : IsDeck deck
  pub card : 0 < length deck
  pub faultless : kind ≡ Autocoder → IsFaultless (source_of deck)
  pub loaded_is : loaded ≡ loaded_of kind deck
  pub is_loaded : IsDeck loaded

-- between two stretches a machine that began so is at a halt
abbrev pub HaltsBetween : State → List Stretch → Type 0
HaltsBetween begun stretches = (n : ℕ) → 0 < n → n < length stretches
    → (resumed begun (take n stretches)).standing ≡ Halted

-- a machine that began so and went through these stretches, which a job may have
pub record HasResumed (begun : State) (stretches : List Stretch) (m : State) : Type 0 where
  pub allowed : AreStretches stretches
  pub halts : HaltsBetween begun stretches
  pub machine : m ≡ resumed begun stretches

-- these are the cards that the machine of these contents loads, and a job has them if they are
-- decks
pub record LoadsAs (contents : Contents) (loaded : List Card) : Type 0 where
  pub loaded_is : loaded ≡ loaded_of contents.kind contents.deck
  pub is_loading : IsDeck contents.deck → IsDeck loaded
      → IsLoading contents.kind contents.deck loaded

-- a machine that goes through these stretches is at a halt before each
abbrev pub StartsAtHalts : State → List Stretch → Type 0
StartsAtHalts m stretches = (n : ℕ) → n < length stretches
    → (resumed m (take n stretches)).standing ≡ Halted

-- a machine went through these stretches, and was at a halt before each
pub record GoesThrough (old new : State) (stretches : List Stretch) : Type 0 where
  pub machine : new ≡ resumed old stretches
  pub halts : StartsAtHalts old stretches
