-- what is written to the tables about a job
use Rattle.std.specs.Prelude.{◌≡◌, ℕ, Bool, false, List, [], ◌∷◌, ◌++◌, map, length, Option, Some, None, Ok}
use Rattle.std.specs.Option.{option_map}
use Rattle.cards.specs.Decks.{deck_bytes}
use Rattle.cards.specs.declared.decks.Card.{Card}
use Rattle.machine.specs.Run.{State}
use Rattle.office.specs.Jobs.{Job, granted_more, picture, IsJob}
use Rattle.office.specs.Kept.{Kept, kept_of, changed, changed_job}
use Rattle.office.specs.New.{job_or_refusal}
use Rattle.office.specs.Office.{Office, job_of, with_job, and_job}
use Rattle.office.specs.declared.commands.Contents.{Contents}
use Rattle.office.specs.declared.commands.JobCommand.{JobCommand}
use Rattle.office.specs.declared.stretches.Stretch.{Stretch}
use Rattle.core_store.specs.Pages.{cells_of}
use Rattle.core_store.specs.Storage.{Storage}
use Rattle.ledger_rows.specs.Columns.{line_cells, profile_row, state_row, truth}
use Rattle.ledger_rows.specs.Pages.{rows_of}
use Rattle.ledger_rows.specs.Pockets.{pocket_cell, pocket_rows_of, punched_bytes}
use Rattle.ledger_tables.specs.Cells.{JobCells, no_pages, unless_blank}
use Rattle.ledger_tables.specs.Named.{of_job, with_chosen_of, with_new_job, with_profile_of, with_state_of, HasNoProfile, HasNoState, HasState}
use Rattle.ledger_tables.specs.Tables.{Tables, with_stretches, with_pages, with_cards, with_lines, with_pocket, with_pockets}
use Rattle.texts.specs.declared.names.JobName.{JobName}
use Rattle.units.specs.Pockets.{pocket_number}
use Rattle.units.specs.declared.printer.Line.{Line}
use Rattle.units.specs.declared.pockets.Pocket.{Pocket}
use Rattle.units.specs.declared.punch.Punched.{Punched}
use Rattle.units.specs.declared.units.Units.{Units}
use Rattle.ledger.specs.Earlier.{kept_alone, with_outputs_of, HasCounted}
use Rattle.ledger.specs.declared.earlier_machine.EarlierMachine.{EarlierMachine}
use Rattle.office_tables.specs.Standing.{stretch_row}
use Rattle.office.specs.Numbers.{kind_number}

-- the job's card rows are those of these cards, as many as were made before
pub record HasCardRows (name : JobName) (before : ℕ) (earlier : List Punched) (t : Tables)
    : Type 0 where
  pub are : of_job name t.cards ≡ map punched_bytes earlier
  pub count : before ≡ length earlier

-- the tables with these cards as the job's card rows
abbrev pub with_all_cards : JobName → List Punched → Tables → Tables
with_all_cards name cards = with_cards name.customer.now name.number (map punched_bytes cards)

-- the job's pocket rows are those of these cards, as many as were made before
pub record HasPocketRows (name : JobName) (before : ℕ) (earlier : List Punched) (t : Tables)
    : Type 0 where
  pub are : of_job name t.pockets ≡ pocket_rows_of earlier
  pub count : before ≡ length earlier

-- the tables with the row, or none, of the pocket of the job's card at a place
abbrev pub with_card_pocket : JobName → ℕ → Pocket → Tables → Tables
with_card_pocket name place pocket =
    with_pocket name.customer.now name.number place (pocket_cell pocket)

-- the tables with the pocket rows of these cards as the job's
abbrev pub with_all_pockets : JobName → List Punched → Tables → Tables
with_all_pockets name cards =
    with_pockets name.customer.now name.number (pocket_rows_of cards)

-- the job's line rows are those of these lines, as many as were made before
pub record HasLineRows (name : JobName) (before : ℕ) (earlier : List Line) (t : Tables)
    : Type 0 where
  pub are : of_job name t.lines ≡ map line_cells earlier
  pub count : before ≡ length earlier

-- the tables with these lines as the job's line rows
abbrev pub with_all_lines : JobName → List Line → Tables → Tables
with_all_lines name lines = with_lines name.customer.now name.number (map line_cells lines)

-- the job's rows are those of these cards and lines, as many as were made before those of the units
pub record HasEarlier (name : JobName) (punched : List Punched) (printed : List Line)
    (units : Units) (t : Tables) : Type 0 where
  pub cards : HasCardRows name units.before.cards punched t
  pub pockets : HasPocketRows name units.before.cards punched t
  pub lines : HasLineRows name units.before.lines printed t

-- the tables with these cards and lines, and then those of the units, as the job's rows
abbrev pub with_made : JobName → List Punched → List Line → Units → Tables → Tables
with_made name cards lines units t = with_all_lines name (lines ++ units.printer.lines)
    (with_all_pockets name (cards ++ units.punch.cards)
    (with_all_cards name (cards ++ units.punch.cards) t))

-- the tables with these stretches as the job's stretch rows
abbrev pub with_all_stretches : JobName → List Stretch → Tables → Tables
with_all_stretches name stretches =
    with_stretches name.customer.now name.number (map stretch_row stretches)

-- the job's stretch rows are these stretches, but for instructions that were granted since in the
-- last
abbrev pub HasFewerGranted : JobName → List Stretch → Tables → Type 0
HasFewerGranted name stretches t =
    (before : List Stretch) × (limit : ℕ) × (stretches ≡ granted_more limit before)
    × (of_job name t.stretches ≡ map stretch_row before)

-- the job has no page rows
abbrev pub HasNoPages : JobName → Tables → Type 0
HasNoPages name t = of_job name t.pages ≡ no_pages

-- the job's page rows are those of this storage
abbrev pub HasPages : JobName → Storage → Tables → Type 0
HasPages name s t = of_job name t.pages ≡ rows_of s

-- the page's row is that of these bytes, or there is none if they are blank
abbrev pub HasPageOf : JobName → ℕ → List ℕ → Tables → Type 0
HasPageOf name page bytes t = of_job name t.pages page ≡ unless_blank (Some bytes)

-- the tables with the rows of this storage's pages as the job's
abbrev pub with_storage : JobName → Storage → Tables → Tables
with_storage name s = with_pages name.customer.now name.number (rows_of s)

-- the job's page rows are those of this storage, and it has a state
pub record HasRows (name : JobName) (s : Storage) (t : Tables) : Type 0 where
  pub pages : HasPages name s t
  pub state : HasState name t

-- the job's profile row has the pocket of this number as the one chosen for the next card
abbrev pub HasChosen : JobName → ℕ → Tables → Type 0
HasChosen name number t = option_map (λ p. p.chosen) (of_job name t.profiles) ≡ Some number

-- the job's rows are those of a machine that had this storage and this choice, and it has a state
pub record HasEarlierRows (name : JobName) (earlier : EarlierMachine) (t : Tables) : Type 0 where
  pub rows : HasRows name (cells_of earlier.storage) t
  pub chosen : HasChosen name (pocket_number earlier.chosen) t

-- the tables with this machine as the job's, but for its storage
abbrev pub with_running : JobName → State → Tables → Tables
with_running name m = with_state_of name (state_row m)

-- the tables with this machine as the job's: its state and its pages
abbrev pub with_machine : JobName → State → Tables → Tables
with_machine name m t = with_running name m (with_storage name m.works.storage t)

-- the job's stretch rows are these stretches without the last
abbrev pub HasOneLess : JobName → List Stretch → Tables → Type 0
HasOneLess name stretches t =
    (before : List Stretch) × (last : Stretch) × (stretches ≡ before ++ last ∷ [])
    × (of_job name t.stretches ≡ map stretch_row before)

-- the tables with the pocket that this machine has chosen for its next card as the job's
abbrev pub with_choice : JobName → State → Tables → Tables
with_choice name m = with_chosen_of name (pocket_number m.works.units.punch.chosen)

-- the tables with this job's machine and stretches, as a slice leaves them
abbrev pub with_progress : JobName → Kept → Tables → Tables
with_progress name kept t = with_all_stretches name kept.stretches
    (with_choice name kept.machine (with_machine name kept.machine t))

-- the tables with this machine's profile as the job's
abbrev pub with_selection : JobName → State → Tables → Tables
with_selection name m = with_profile_of name (profile_row m.works.units.punch)

-- the tables with the stretches and the machine of a new job
abbrev pub with_begun : JobName → Kept → Tables → Tables
with_begun name kept t = with_selection name kept.machine
    (with_machine name kept.machine (with_all_stretches name kept.stretches t))

-- the job has no state, no page rows and no profile row
pub record HasNoMachine (name : JobName) (t : Tables) : Type 0 where
  pub state : HasNoState name t
  pub pages : HasNoPages name t
  pub profile : HasNoProfile name t

-- the job's stretch rows are these stretches without the last, and it has no machine
pub record HasNotStarted (name : JobName) (kept : Kept) (t : Tables) : Type 0 where
  pub stretches : HasOneLess name kept.stretches t
  pub machine : HasNoMachine name t

-- the columns of a new job of these contents, with the deck that its machine loads
abbrev pub new_cells : Contents → List Card → JobCells
new_cells contents loaded = record {
  kind = kind_number contents.kind;
  size = contents.size;
  deck = deck_bytes contents.deck;
  loaded = deck_bytes loaded;
  held = truth false;
  collected = truth false;
}

-- the tables with the row of a new job of these contents
abbrev pub with_handed : JobName → Contents → List Card → Tables → Tables
with_handed name contents loaded = with_new_job name (new_cells contents loaded)

-- ---- the office

-- the job of this name, if there is one
abbrev pub job_in : JobName → Office → Option Job
job_in name = job_of name.customer.now name.number

-- the office has this job; the job with its machine is what the command makes of it without its
-- cards and lines, and with them it is what the command makes of it
pub record IsAfter (name : JobName) (kept : Kept) (c : JobCommand) (old : Job) (office : Office)
    : Type 0 where
  pub found : job_in name office ≡ Some old
  pub made : kept ≡ changed c (kept_alone old)
  pub counted : HasCounted old kept
  pub is : with_outputs_of old kept ≡ kept_of (changed_job c old)
  pub job : IsJob (changed_job c old)

-- this is what the machine has
pub record IsEarlier (earlier : EarlierMachine) (m : State) : Type 0 where
  pub storage : cells_of earlier.storage ≡ m.works.storage
  pub chosen : earlier.chosen ≡ m.works.units.punch.chosen

-- the job is after the command, and this is what its machine had before
pub record IsAfterMachine (name : JobName) (earlier : EarlierMachine) (kept : Kept) (c : JobCommand)
    (old : Job) (office : Office) : Type 0 where
  pub after : IsAfter name kept c old office
  pub earlier_is : IsEarlier earlier (picture old)

-- the office with the job as a command that is not refused makes it
abbrev pub with_after : JobName → JobCommand → Job → Office → Office
with_after name c old = with_job name.customer.now name.number (changed_job c old)

-- the job with these flags
abbrev pub flagged_job : Bool → Bool → Job → Job
flagged_job held collected job = record job { held = held; collected = collected }

-- the office with these flags of the job
abbrev pub with_flagged : JobName → Bool → Bool → Job → Office → Office
with_flagged name held collected old =
    with_job name.customer.now name.number (flagged_job held collected old)

-- no job of the office has this name
abbrev pub IsFreeName : JobName → Office → Type 0
IsFreeName name office = job_in name office ≡ None

-- the contents are not refused, and these are their job and the job with its machine
pub record IsTakenAs (contents : Contents) (kept : Kept) (job : Job) : Type 0 where
  pub taken : job_or_refusal contents ≡ Ok job
  pub kept_is : kept ≡ kept_of job

-- the office with one job more, after the others
abbrev pub with_new : JobName → Job → Office → Office
with_new name = and_job name.customer.now name.number
