-- the rows of a job are those of an entry of an office
use Rattle.std.specs.Prelude.{◌≡◌, ℕ, pos, true, List, [], ◌∷◌, map, Contains, Some}
use Rattle.std.specs.List.{AllByRecursion}
use Rattle.core_store.specs.Pages.{page_count}
use Rattle.core_store.specs.Storage.{Storage}
use Rattle.machine.specs.Run.{State, lines_of}
use Rattle.units.specs.Stacked.{Stacked}
use Rattle.units.specs.declared.printer.Line.{Line}
use Rattle.units.specs.declared.punch.Punched.{Punched}
use Rattle.office.specs.Jobs.{picture}
use Rattle.texts.specs.Names.{is_customer, is_number}
use Rattle.office.specs.Office.{Entry, Office, AreDistinct}
use Rattle.office.specs.declared.stretches.Stretch.{Stretch}
use Rattle.ledger_rows.specs.Columns.{line_cells, profile_row, state_row}
use Rattle.ledger_rows.specs.Pockets.{pocket_cell, punched_bytes}
use Rattle.sqlite.specs.Order.{Row, column}
use Rattle.sqlite.specs.Tree.{IsAscending}
use Rattle.sqlite.specs.declared.types.Value.TheVariants.{Int}
use Rattle.ledger_tables.specs.Schema.{own_version}
use Rattle.ledger_tables.specs.Cells.{unless_blank}
use Rattle.ledger_tables.specs.Tables as row
use Rattle.ledger_tables.specs.Tables.{job_row, placed}
use Rattle.office_tables.specs.Standing.{named, stretch_row, CanBeKept}
use Rattle.job_checks.specs.Tables.{TableRows, WholeTables, pages_from, placed_some, rows_of}

module _ (customer : List ℕ) (number : ℕ) where
  -- the rows of stretches
  abbrev pub rows_of_stretches : List Stretch → List Row
  rows_of_stretches stretches =
      placed (row.stretch_row customer number) 0 (map stretch_row stretches)

  -- the rows of punched cards
  abbrev pub rows_of_cards : List Punched → List Row
  rows_of_cards cards = placed (row.card_row customer number) 1 (map punched_bytes cards)

  -- the rows of the pockets of punched cards, in the order of the cards
  abbrev pub rows_of_pockets : List Punched → List Row
  rows_of_pockets =
      placed_some (λ c. pocket_cell c.pocket) (row.pocket_row customer number) 1

  -- the rows of printed lines
  abbrev pub rows_of_lines : List Line → List Row
  rows_of_lines lines = placed (row.line_row customer number) 1 (map line_cells lines)

  -- the row of a state
  abbrev pub rows_of_state : State → List Row
  rows_of_state m = row.state_row customer number (state_row m) ∷ []

  -- the row of a punch's profile
  abbrev pub rows_of_profile : Stacked → List Row
  rows_of_profile punch = row.profile_row customer number (profile_row punch) ∷ []

  -- the rows of the pages of a storage that are not blank, in their order
  abbrev pub rows_of_pages : Storage → List Row
  rows_of_pages s = placed_some (λ bytes. unless_blank (Some bytes))
      (row.page_row customer number) 0 (pages_from s 0 (page_count s))

  -- the rows of a machine are in the tables, and the job of this name has no others there
  pub record HasMachine (rows : TableRows) (m : State) : Type 0 where
    pub states : rows_of customer number rows.states ≡ rows_of_state m
    pub pages : rows_of customer number rows.pages ≡ rows_of_pages m.works.storage
    pub cards : rows_of customer number rows.cards
        ≡ rows_of_cards m.works.units.punch.cards
    pub lines : rows_of customer number rows.lines ≡ rows_of_lines (lines_of m)
    pub profiles : rows_of customer number rows.profiles
        ≡ rows_of_profile m.works.units.punch
    pub pockets : rows_of customer number rows.pockets
        ≡ rows_of_pockets m.works.units.punch.cards

-- the entry's name is one that a job may have
pub record IsNamed (e : Entry) : Type 0 where
  pub customer : is_customer e.customer ≡ true
  pub number : is_number e.number ≡ true

-- the rows of the entry's job, other than that in `jobs`, are in the tables, and no others of it
pub record IsKept (rows : TableRows) (e : Entry) : Type 0 where
  pub can : CanBeKept e.job
  pub stretches : rows_of e.customer e.number rows.stretches
      ≡ rows_of_stretches e.customer e.number e.job.stretches
  pub machine : HasMachine e.customer e.number rows (picture e.job)

-- a row names a job that one of these rows names too
abbrev pub IsOwned : List Row → Row → Type 0
IsOwned jobs it = (job : Row) × Contains jobs job
    × (column job 0 ≡ column it 0) × (column job 1 ≡ column it 1)

-- no two of these rows begin with the same customer and the same number
abbrev pub AreNamedApart : List Row → Type 0
AreNamedApart = IsAscending (λ a b. ¬ ((column a 0 ≡ column b 0) × (column a 1 ≡ column b 1)))

-- each row of the other tables names a job
pub record AreOwned (all : WholeTables) : Type 0 where
  pub stretches : AllByRecursion (IsOwned all.jobs) all.rows.stretches
  pub states : AllByRecursion (IsOwned all.jobs) all.rows.states
  pub pages : AllByRecursion (IsOwned all.jobs) all.rows.pages
  pub cards : AllByRecursion (IsOwned all.jobs) all.rows.cards
  pub lines : AllByRecursion (IsOwned all.jobs) all.rows.lines
  pub profiles : AllByRecursion (IsOwned all.jobs) all.rows.profiles
  pub pockets : AllByRecursion (IsOwned all.jobs) all.rows.pockets

-- the row of `bureau` with this program's version
abbrev pub version_row : List Row
version_row = (Int (pos 1) ∷ Int (pos own_version) ∷ []) ∷ []

-- the rows of all tables are those of this office
pub record AreKept (all : WholeTables) (office : Office) : Type 0 where
  pub version : all.version ≡ version_row
  pub jobs : all.jobs ≡ map (λ e. job_row (named e)) office
  pub distinct : AreDistinct office
  pub kept : AllByRecursion (IsKept all.rows) office
  pub owned : AreOwned all
