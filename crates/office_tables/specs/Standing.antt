-- the tables represent an office
use Rattle.std.specs.Prelude.{◌≡◌, ℕ, false, List, [], map, All, Option, Some, None, IsTrue}
use Rattle.std.specs.List.{AllByRecursion}
use Rattle.cards.specs.Decks.{deck_bytes}
use Rattle.core_store.specs.Storage.{positions_of}
use Rattle.machine.specs.Run.{lines_of as printed_by}
use Rattle.office.specs.Jobs.{Job, loaded_deck, picture, IsJob}
use Rattle.office.specs.Office.{Entry, Office, job_of}
use Rattle.office.specs.Numbers.{kind_number}
use Rattle.office.specs.declared.replies.Reply.{Reply}
use Rattle.office.specs.declared.stretches.Stretch.{Stretch}
use Rattle.ledger_rows.specs.Columns.{truth, state_row, profile_row, line_cells, HoldsCharacters, IsLine}
use Rattle.ledger_rows.specs.Pages.{rows_of}
use Rattle.ledger_rows.specs.Pockets.{pocket_rows_of, punched_bytes, IsPunched}
use Rattle.sqlite.specs.Effect.{Database}
use Rattle.sqlite.specs.Tree.{Trees}
use Rattle.sqlite.specs.State as store
use Rattle.ledger_tables.specs.Cells.{JobCells, LineCells, Pages, Pockets, no_pages, no_pockets}
use Rattle.ledger_tables.specs.Schema.{bureau_schema}
use Rattle.ledger_tables.specs.Tables.{NamedJob, Tables, Holds}
use Rattle.ledger_tables.specs.declared.rows.ProfileRow.{ProfileRow}
use Rattle.ledger_tables.specs.declared.rows.StateRow.{StateRow}
use Rattle.ledger_tables.specs.declared.rows.StretchRow.{StretchRow}

-- the columns of a job's row
abbrev pub job_cells : Job → JobCells
job_cells job = record {
  kind = kind_number job.kind;
  size = positions_of job.size;
  deck = deck_bytes job.deck;
  loaded = deck_bytes (loaded_deck job);
  held = truth job.held;
  collected = truth job.collected;
}

-- a job's row, with its name
abbrev pub named : Entry → NamedJob
named e = record { customer = e.customer; number = e.number; cells = job_cells e.job }

-- the columns of a stretch's row
abbrev pub stretch_row : Stretch → StretchRow
stretch_row s = record { switches = s.switches.0; granted = s.granted }

-- the stretch rows of a job, none if there is no job
abbrev pub stretches_of : Option Job → List StretchRow
stretches_of None = []
stretches_of (Some job) = map stretch_row job.stretches

-- the state row of a job's machine, none if there is no job
abbrev pub state_of : Option Job → Option StateRow
state_of None = None
state_of (Some job) = Some (state_row (picture job))

-- the rows of the pages of a job's storage, none if there is no job
abbrev pub pages_of : Option Job → Pages
pages_of None = no_pages
pages_of (Some job) = rows_of (picture job).works.storage

-- the card rows of a job, each the card's bytes, none if there is no job
abbrev pub cards_of : Option Job → List (List ℕ)
cards_of None = []
cards_of (Some job) = map punched_bytes (picture job).works.units.punch.cards

-- the profile row of a job's machine, none if there is no job
abbrev pub profile_of : Option Job → Option ProfileRow
profile_of None = None
profile_of (Some job) = Some (profile_row (picture job).works.units.punch)

-- the rows of the pockets of a job's cards, none if there is no job
abbrev pub pockets_of : Option Job → Pockets
pockets_of None = no_pockets
pockets_of (Some job) = pocket_rows_of (picture job).works.units.punch.cards

-- the line rows of a job, none if there is no job
abbrev pub lines_of : Option Job → List LineCells
lines_of None = []
lines_of (Some job) = map line_cells (printed_by (picture job))

-- the rows of all tables that represent an office
abbrev pub tables_of : Office → Tables
tables_of office = record {
  jobs = map named office;
  stretches = λ customer number. stretches_of (job_of customer number office);
  states = λ customer number. state_of (job_of customer number office);
  pages = λ customer number. pages_of (job_of customer number office);
  cards = λ customer number. cards_of (job_of customer number office);
  lines = λ customer number. lines_of (job_of customer number office);
  profiles = λ customer number. profile_of (job_of customer number office);
  pockets = λ customer number. pockets_of (job_of customer number office);
}

-- a job that the tables can hold: what is in its machine's storage, on its cards and in its lines
-- are characters
pub record CanBeKept (it : Job) : Type 0 where
  pub job : IsJob it
  pub storage : HoldsCharacters (picture it).works.storage
  pub cards : All IsPunched (picture it).works.units.punch.cards
  pub lines : All IsLine (printed_by (picture it))

-- the rows of the tables are those of the office, and no others
pub record Rows (db : Database) (office : Office) : Type 0 where
  pub tables : Holds db (tables_of office)
  pub jobs : AllByRecursion (λ e. CanBeKept e.job) office

-- the tables that a connection sees represent this office
abbrev pub StandsIn : store.State → Office → Type 0
StandsIn s office = Rows s.now office

-- inside the transaction, the reply is the change's, and the tables represent the office after it
pub record Served (new : store.State) (change : Office → Office × Reply) (office : Office)
    (reply : Reply) : Type 0 where
  pub reply_is : reply ≡ (change office).1
  pub stands : StandsIn new (change office).0

-- a bureau's tables with these trees, as a crash may leave them, represent this office
abbrev pub LeftAs : Trees → Office → Type 0
LeftAs db office = Rows (record { schema = bureau_schema; trees = db }) office

-- between commands: the tables represent this office, and so does all that a crash may leave
pub record Stands (s : store.State) (office : Office) : Type 0 where
  pub outside : s.in_transaction ≡ false
  pub now : IsTrue s.is_open → StandsIn s office
  pub left : (db : Trees) → s.may_leave db → LeftAs db office

-- a call that changed nothing: a crash leaves nothing that it might not have left before, and an
-- open connection sees what it saw before
pub record IsAsBefore (old new : store.State) : Type 0 where
  pub outside : new.in_transaction ≡ false
  pub now : IsTrue new.is_open → new.now ≡ old.now
  pub left : (db : Trees) → new.may_leave db → old.may_leave db
