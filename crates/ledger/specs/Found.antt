-- what is read from the tables about a job
use Rattle.std.specs.Prelude.{◌≡◌, ◌≤◌, ℕ, List, ◌∷◌, Option, Some, None, IsSome}
use Rattle.cards.specs.Decks.{deck_bytes, IsDeck}
use Rattle.cards.specs.declared.decks.Card.{Card}
use Rattle.core_store.specs.Storage.{positions_of, size_numbered}
use Rattle.machine.specs.Earlier.{without_outputs}
use Rattle.machine.specs.Run.{State, lines_of}
use Rattle.units.specs.Printed.{Printed}
use Rattle.units.specs.declared.carriage.Carriage.{Carriage}
use Rattle.units.specs.Stacked.{Stacked}
use Rattle.units.specs.declared.printer.Line.{Line}
use Rattle.units.specs.declared.punch.Punched.{Punched}
use Rattle.units.specs.declared.switches.Switches.{Switches}
use Rattle.ledger_rows.specs.declared.parts.Media.{Media}
use Rattle.office.specs.Jobs.{Job, picture, granted}
use Rattle.machine.specs.Standings.{standing_of}
use Rattle.office.specs.Kept.{Kept, kept_of, summary_of}
use Rattle.machine.specs.declared.standings.StandingAt.{StandingAt}
use Rattle.office.specs.declared.summaries.Summary.{Summary}
use Rattle.office.specs.declared.stretches.Stretch.{Stretch}
use Rattle.ledger_rows.specs.Progress.{progress_of}
use Rattle.ledger_rows.specs.declared.progress.Progress.{Progress}
use Rattle.ledger_tables.specs.Cells.{JobCells, LoadedCells}
use Rattle.ledger_tables.specs.Listed.{loaded_row}
use Rattle.ledger.specs.declared.reading.Handed.{Handed}
use Rattle.ledger.specs.Earlier.{kept_alone}
use Rattle.office_tables.specs.Standing.{job_cells}

-- these are the deck, the switches, the punch and the lines of this machine
pub record IsMediaOf (media : Media) (m : State) : Type 0 where
  pub deck : media.deck ≡ m.works.units.hopper.deck
  pub switches : media.switches ≡ m.works.units.switches
  pub punch : media.punch ≡ m.works.units.punch
  pub lines : media.lines.items ≡ m.works.units.printer.lines

-- what was read is this job, its machine without the cards and lines, or nothing if there is no job
abbrev pub IsFoundAs : Option Kept → Option Job → Type 0
IsFoundAs None job = job ≡ None
IsFoundAs (Some kept) job = (it : Job) × (job ≡ Some it) × (kept ≡ kept_alone it)

-- these are the switches of the first stretch
abbrev pub IsFirst : Switches → List Stretch → Type 0
IsFirst switches stretches =
    (first : Stretch) × (more : List Stretch) × (stretches ≡ first ∷ more)
    × (switches ≡ first.switches)

-- what was read is the job's row and the switches of its first stretch, or nothing if there is no
-- job
abbrev pub IsHandedAs : Option Handed → Option Job → Type 0
IsHandedAs None job = job ≡ None
IsHandedAs (Some handed) job = (it : Job) × (job ≡ Some it) × (handed.row ≡ job_cells it)
    × IsFirst handed.switches it.stretches

-- these are the bytes of a deck
abbrev pub HoldsDeck : List ℕ → Type 0
HoldsDeck bytes = (deck : List Card) × (deck_bytes deck ≡ bytes) × IsDeck deck

-- a row that can be a job's: its kind is 0 or 1, its size is a size, and its decks are decks
pub record CanBeOfJob (row : JobCells) : Type 0 where
  pub kind : row.kind ≤ 1
  pub size : IsSome (size_numbered row.size)
  pub deck : HoldsDeck row.deck
  pub loaded : HoldsDeck row.loaded

-- ---- what is read about a job, if there is one

-- if there is the job, these are its stretches
abbrev pub HasStretches : Option Job → List Stretch → Type 0
HasStretches here found = (job : Job) → here ≡ Some job → found ≡ job.stretches

-- if there is the job, these are the switches of its first stretch
abbrev pub BeganWith : Option Job → Switches → Type 0
BeganWith here found = (job : Job) → here ≡ Some job → IsFirst found job.stretches

-- if there is the job, these are the cards that it has punched, each with its pocket
abbrev pub HasCards : Option Job → List Punched → Type 0
HasCards here found =
    (job : Job) → here ≡ Some job → found ≡ (picture job).works.units.punch.cards

-- if there is the job, this is its machine's punch without the cards
abbrev pub HasPunch : Option Job → Stacked → Type 0
HasPunch here found =
    (job : Job) → here ≡ Some job → found ≡ (without_outputs (picture job)).works.units.punch

-- if there is the job, these are the lines that it has printed
abbrev pub HasLines : Option Job → List Line → Type 0
HasLines here found = (job : Job) → here ≡ Some job → found ≡ lines_of (picture job)

-- if there is the job, its machine's carriage is this one
abbrev pub HasCarriageAt : Option Job → Carriage → Type 0
HasCarriageAt here found =
    (job : Job) → here ≡ Some job → found ≡ (picture job).works.units.printer.carriage

-- a printer with this carriage that has printed these lines
abbrev pub printed_with : Carriage → List Line → Printed
printed_with carriage lines = record { lines = lines; carriage = carriage }

-- if there is the job, and these are its machine's number of positions, deck and switches, without
-- cards and lines, this is the state of its machine without them
abbrev pub HasMachineWith : Option Job → ℕ → Media → State → Type 0
HasMachineWith here size media found =
    (job : Job) → here ≡ Some job → size ≡ positions_of job.size
    → IsMediaOf media (without_outputs (picture job)) → found ≡ without_outputs (picture job)

-- if there is the job, and these are the columns that its machine needs and the machine's switches,
-- this is the state of its machine without the cards and lines
abbrev pub HasMachine : Option Job → LoadedCells → Switches → State → Type 0
HasMachine here row switches found =
    (job : Job) → here ≡ Some job → row ≡ loaded_row (job_cells job)
    → switches ≡ (picture job).works.units.switches → found ≡ without_outputs (picture job)

-- if there is the job, and these are the columns that its machine needs, this is the job, its
-- machine without the cards and lines
abbrev pub HasKept : Option Job → LoadedCells → Kept → Type 0
HasKept here row found =
    (job : Job) → here ≡ Some job → row ≡ loaded_row (job_cells job) → found ≡ kept_alone job

-- if there is the job, this is its machine's standing, I register, and counts of cards and lines
abbrev pub HasProgress : Option Job → Progress → Type 0
HasProgress here found = (job : Job) → here ≡ Some job → found ≡ progress_of (picture job)

-- if there is the job, this is its standing
abbrev pub HasStanding : Option Job → StandingAt → Type 0
HasStanding here found = (job : Job) → here ≡ Some job → found ≡ standing_of (picture job)

-- if there is the job, this is how many instructions were granted to it
abbrev pub HasGranted : Option Job → ℕ → Type 0
HasGranted here found = (job : Job) → here ≡ Some job → found ≡ granted job.stretches

-- if there is the job, and this is its row, this is its summary
abbrev pub HasSummary : Option Job → JobCells → Summary → Type 0
HasSummary here row found =
    (job : Job) → here ≡ Some job → row ≡ job_cells job → found ≡ summary_of (kept_of job)
