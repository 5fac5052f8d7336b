-- jobs, and the states of their machines
use Rattle.std.specs.Prelude.{◌≡◌, ℕ, ◌+◌, ◌<◌, ◌≤◌, Bool, List, [], ◌∷◌, ◌++◌, length, map, take}
use Rattle.std.specs.List.{All, sum_by}
use Rattle.cards.specs.declared.decks.Card.{Card}
use Rattle.cards.specs.Decks.{IsDeck}
use Rattle.core_store.specs.Storage.{positions_of}
use Rattle.core_store.specs.declared.sizes.Size.{Size}
use Rattle.autocoder_layout.specs.Source.{source_of}
use Rattle.autocoder.specs.Programs.{image_for, size_for, start_for, IsFaultless}
use Rattle.loader.specs.Decks.{data_of, runnable_deck}
use Rattle.loader.specs.Loading.{at_the_start}
use Rattle.machine.specs.Run.{State, loaded, started, after, lines_of}
use Rattle.machine.specs.declared.standings.Standing.TheVariants.{Halted}
use Rattle.units.specs.Switches.{AreSeven}
use Rattle.units.specs.declared.printer.Line.{Line}
use Rattle.units.specs.declared.profiles.Profile.{Profile}
use Rattle.units.specs.declared.punch.Punched.{Punched}
use Rattle.units.specs.declared.switches.Switches.{Switches}
use Rattle.office.specs.Limits.{most_granted}
use Rattle.office.specs.Whole.{Whole}
use Rattle.office.specs.declared.commands.Kind.{Kind}
use Rattle.office.specs.declared.commands.Kind.TheVariants.{Object, Autocoder}
use Rattle.office.specs.declared.stretches.Stretch.{Stretch}

-- a job: what the customer handed in, its stretches, and its two flags
pub record Job : Type 0 where
  pub kind : Kind
  pub size : Size
  -- as it was handed in
  pub deck : List Card
  -- whether its machine selects stackers
  pub profile : Profile
  -- the operator's starts, the first of them at the submission
  pub stretches : List Stretch
  pub held : Bool
  pub collected : Bool

-- ---- the deck in the card reader

-- the cards that are loaded for a deck: an object deck itself, or for a source its loading cards
-- and then its data
abbrev pub loaded_of : Kind → List Card → List Card
loaded_of Object deck = deck
loaded_of Autocoder deck = runnable_deck deck

-- the cards that a job's machine reads
abbrev pub loaded_deck : Job → List Card
loaded_deck job = loaded_of job.kind job.deck

-- ---- the state of a job's machine

-- a machine after these stretches: in each it is started with the stretch's switches, and then runs
-- for as many instructions as were granted
unfoldable pub resumed : State → List Stretch → State
resumed m [] = m
resumed m (s ∷ stretches) = resumed (after (started m s.switches) s.granted) stretches

-- the seven sense switches, all off
abbrev pub all_off : Switches
all_off = record { 0 = 0 }

-- a job's machine after the load button, before its first start
abbrev pub beginning : Job → State
beginning job = loaded (loaded_deck job) job.size all_off job.profile

-- the state of a job's machine, which follows from the job's contents and stretches alone
abbrev pub picture : Job → State
picture job = resumed (beginning job) job.stretches

-- a job's machine is at a halt
abbrev pub IsAtHalt : Job → Type 0
IsAtHalt job = (picture job).standing ≡ Halted

-- ---- what a job is

-- the number of instructions granted in these stretches together
abbrev pub granted : List Stretch → ℕ
granted = sum_by (λ s. s.granted)

-- the switches of a stretch are among the seven
abbrev pub HasSwitches : Stretch → Type 0
HasSwitches s = AreSeven s.switches

-- the stretches that a job may have: at least one, all with switches that exist, and in all at most
-- 1,000,000,000 instructions granted
pub record AreStretches (stretches : List Stretch) : Type 0 where
  pub begun : 0 < length stretches
  pub switches : All HasSwitches stretches
  pub most : granted stretches ≤ most_granted

-- the job as it was with its first n stretches alone
abbrev pub up_to : ℕ → Job → Job
up_to n job = record job { stretches = take n job.stretches }

-- after each stretch but the last, the job's machine is at a halt
abbrev pub HaltsBetween : Job → Type 0
HaltsBetween job = (n : ℕ) → 0 < n → n < length job.stretches → IsAtHalt (up_to n job)

-- what holds of each job in an office: its deck, its source and its stretches are ones it may have
pub record IsJob (job : Job) : Type 0 where
  pub deck : IsDeck job.deck
  pub card : 0 < length job.deck
  pub faultless : job.kind ≡ Autocoder → IsFaultless (source_of job.deck)
  pub loaded : IsDeck (loaded_deck job)
  pub stretches : AreStretches job.stretches
  pub halts : HaltsBetween job

-- ---- what changes a job's stretches

-- these stretches, with so many instructions more granted in the last
abbrev pub granted_more : ℕ → List Stretch → List Stretch
granted_more limit [] = []
granted_more limit (s ∷ []) = (record s { granted = s.granted + limit }) ∷ []
granted_more limit (s ∷ t ∷ stretches) = s ∷ granted_more limit (t ∷ stretches)

-- these stretches and after them another, with these switches and nothing granted yet
abbrev pub one_more : Switches → List Stretch → List Stretch
one_more switches stretches = stretches ++ (record { switches = switches; granted = 0 }) ∷ []

-- the job, with so many instructions more granted in its last stretch
abbrev pub sliced_job : ℕ → Job → Job
sliced_job limit job = record job { stretches = granted_more limit job.stretches }

-- the job after another start with these switches
abbrev pub started_job : Switches → Job → Job
started_job switches job = record job { stretches = one_more switches job.stretches }

-- ---- what a job has made

-- the switches of each start of a job, in order
abbrev pub switches_of : Job → List Switches
switches_of job = map (λ s. s.switches) job.stretches

-- the cards that a job has punched, each with its pocket
abbrev pub cards_by : Job → List Punched
cards_by job = (picture job).works.units.punch.cards

-- the lines that a job has printed
abbrev pub lines_by : Job → List Line
lines_by job = lines_of (picture job)

-- a job has made the cards and lines of the whole run from this beginning with the job's starts,
-- and that run makes no others
pub record HasRunWhole (begin : Switches → State) (job : Job) : Type 0 where
  pub holds : Whole begin (switches_of job) (cards_by job) (lines_by job)
  pub only : (cards : List Punched) (lines : List Line) → Whole begin (switches_of job) cards lines →
      (cards ≡ cards_by job) × (lines ≡ lines_by job)

-- a job's source has no faults, and its machine is as large as the source says, or larger
pub record CanRunItsSource (job : Job) : Type 0 where
  pub kind : job.kind ≡ Autocoder
  pub faultless : IsFaultless (source_of job.deck)
  pub large : size_for (source_of job.deck) ≤ positions_of job.size

-- the machine at the start of the program of a deck's source, with the data after the source unread
abbrev pub program_begun : List Card → Size → Profile → Switches → State
program_begun deck size profile switches =
    let source : List Card = source_of deck in
    at_the_start (image_for source) (start_for source) (data_of deck) size switches profile

-- the machine of a job, started with these switches by the load button
abbrev pub deck_begun : Job → Switches → State
deck_begun job switches = loaded (loaded_deck job) job.size switches job.profile

-- a job has made what the whole run of its deck makes, begun by the load button
abbrev pub HasRunFromItsDeck : Job → Type 0
HasRunFromItsDeck job = HasRunWhole (deck_begun job) job

-- a job has made what the whole run of its source makes, begun at the program's start
abbrev pub HasRunFromItsSource : Job → Type 0
HasRunFromItsSource job = HasRunWhole (program_begun job.deck job.size job.profile) job

-- what holds of each job of an office: at a halt it has run whole from the load button, and from
-- the start of its program if it can run its source
abbrev pub RunsWhole : Job → Type 0
RunsWhole job =
    IsAtHalt job → HasRunFromItsDeck job × (CanRunItsSource job → HasRunFromItsSource job)
