-- the job of a submission's contents, or why it is refused
use Rattle.std.specs.Prelude.{◌≡◌, ◌<◌, nat_lt, if◌then◌else◌, List, [], ◌∷◌, length, false, Option, Some, None, IsSome, Result, Ok, Err}
use Rattle.cards.specs.declared.decks.Card.{Card}
use Rattle.core_store.specs.declared.sizes.Size.{Size}
use Rattle.core_store.specs.Storage.{size_numbered}
use Rattle.autocoder_layout.specs.Source.{has_end, source_of}
use Rattle.autocoder.specs.Programs.{layout_for}
use Rattle.autocoder_layout.specs.CardFaults.{faults_of}
use Rattle.autocoder_layout.specs.declared.card_faults.CardFault.{CardFault}
use Rattle.units.specs.Switches.{seven}
use Rattle.units.specs.declared.profiles.Profile.TheVariants.{Selecting}
use Rattle.office.specs.Limits.{most_loaded}
use Rattle.office.specs.Jobs.{Job, loaded_of, one_more}
use Rattle.office.specs.Kept.{Kept, kept_of}
use Rattle.office.specs.declared.commands.Contents.{Contents}
use Rattle.office.specs.declared.commands.Kind.{Kind}
use Rattle.office.specs.declared.commands.Kind.TheVariants.{Object, Autocoder}
use Rattle.office.specs.declared.refusals.Refusal.{Refusal}
use Rattle.office.specs.declared.refusals.Refusal.TheVariants as refusal
use Rattle.office.specs.declared.making.NewFault.{NewFault}
use Rattle.office.specs.declared.making.NewFault.TheVariants.{Refused, NoMemory}

-- the faults of a deck by its kind: of a source its faults, of an object deck none
abbrev pub faults_in : Kind → List Card → List CardFault
faults_in Object deck = []
faults_in Autocoder deck = faults_of (has_end (source_of deck)) (layout_for (source_of deck))

-- the refusal for these faults, or the other one if there are no faults
abbrev pub refusal_for : List CardFault → Option Refusal → Option Refusal
refusal_for [] rest = rest
refusal_for (fault ∷ faults) rest = Some (refusal.Assembly (fault ∷ faults))

-- why a deck is refused: it has no card, its source has faults, or too many cards would be loaded
abbrev pub deck_refusal : Kind → List Card → Option Refusal
deck_refusal kind [] = Some refusal.Deck
deck_refusal kind (card ∷ cards) =
    refusal_for (faults_in kind (card ∷ cards)) (
    if nat_lt most_loaded (length (loaded_of kind (card ∷ cards))) then Some refusal.Deck else
    None)

-- why there is no deck to load: the deck is refused, or has a card and memory ran out
abbrev pub IsWhyNotLoaded : Kind → List Card → NewFault → Type 0
IsWhyNotLoaded kind deck (Refused reason) = deck_refusal kind deck ≡ Some reason
IsWhyNotLoaded kind deck NoMemory = 0 < length deck

-- why these cards are not loaded: they are more than a machine may load, or memory ran out
abbrev pub IsTooLong : NewFault → List Card → Type 0
IsTooLong (Refused reason) loaded = (reason ≡ refusal.Deck) × (most_loaded < length loaded)
IsTooLong NoMemory loaded = Unit {0}

-- the job of these contents with this size, its first stretch begun with nothing granted in it yet
abbrev pub new_job : Size → Contents → Job
new_job size contents = record {
  kind = contents.kind;
  size = size;
  deck = contents.deck;
  profile = Selecting;
  stretches = one_more (seven contents.switches) [];
  held = false;
  collected = false;
}

-- the job of these contents with this size, or the reason why its deck is refused
abbrev pub job_unless_refused : Size → Contents → Option Refusal → Result Job Refusal
job_unless_refused size contents (Some reason) = Err reason
job_unless_refused size contents None = Ok (new_job size contents)

-- the job of these contents, or why it is refused, for the size that the contents name, if any
abbrev pub job_of_size : Contents → Option Size → Result Job Refusal
job_of_size contents None = Err refusal.Size
job_of_size contents (Some size) =
    job_unless_refused size contents (deck_refusal contents.kind contents.deck)

-- the job of these contents, or the refusal of the first test that fails
abbrev pub job_or_refusal : Contents → Result Job Refusal
job_or_refusal contents = job_of_size contents (size_numbered contents.size)

-- the contents are not refused, and this is their job with its machine
pub record IsJobOf (contents : Contents) (kept : Kept) : Type 0 where
  pub job : Job
  pub taken : job_or_refusal contents ≡ Ok job
  pub kept_is : kept ≡ kept_of job

-- the making of this job may run out of memory: there is such a size, and the deck has a card
pub record MayWantMemory (contents : Contents) : Type 0 where
  pub sized : IsSome (size_numbered contents.size)
  pub card : 0 < length contents.deck

-- why these contents have no job: the refusal of the first test that fails, or memory ran out
abbrev pub IsWhyNot : Contents → NewFault → Type 0
IsWhyNot contents (Refused reason) = job_or_refusal contents ≡ Err reason
IsWhyNot contents NoMemory = MayWantMemory contents
