-- a source that was assembled and run
use Rattle.std.specs.Prelude.{◌≡◌, ◌<◌, ◌≤◌, List, length}
use Rattle.cards.specs.declared.Card.{Card}
use Rattle.cards.specs.Decks.{largest_deck}
use Rattle.core_store.specs.declared.sizes.Size.{Size}
use Rattle.units.specs.declared.switches.Switches.{Switches}
use Rattle.units.specs.declared.profiles.Profile.TheVariants.{Selecting}
use Rattle.machine.specs.Run.{State, after, loaded, most_instructions}
use Rattle.autocoder_layout.specs.Source.{source_of}
use Rattle.autocoder.specs.Programs.{IsFaultless}
use Rattle.autocoder_listings.specs.Listing.{listing_with_code_for}
use Rattle.loader.specs.Decks.{runnable_deck}
use Rattle.job_pages.specs.declared.jobs.Job.{Job}
use Rattle.job_pages.specs.declared.pages.JobPageError.{JobPageError}
use Rattle.job_pages.specs.declared.pages.JobPageError.TheVariants.{Faults, NoMemory, TooManyCards}

-- the machine that has run the program of a source on its data
abbrev pub ran : List Card → Size → Switches → State
ran source size switches =
    after (loaded (runnable_deck source) size switches Selecting) most_instructions

-- a source without faults, whose loading cards and data fit in a deck, with what was made of it
pub record IsJobOf (source : List Card) (size : Size) (switches : Switches) (job : Job) : Type 0
  where
    pub faultless : IsFaultless (source_of source)
    pub fits : length (runnable_deck source) ≤ largest_deck
    pub code : job.code.items ≡ listing_with_code_for source
    pub deck : job.deck ≡ runnable_deck source
    pub machine : job.machine ≡ ran source size switches

-- why a source is not run: it has faults, its deck would have too many cards, or there is no memory
abbrev pub Hinders : List Card → JobPageError → Type 0
Hinders source Faults = ¬ IsFaultless (source_of source)
Hinders source TooManyCards =
    IsFaultless (source_of source) × (largest_deck < length (runnable_deck source))
Hinders source NoMemory = Unit {0}
