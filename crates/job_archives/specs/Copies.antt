-- what the comparison of a database with another finds
use Rattle.std.specs.Prelude.{◌≡◌, ◌↔◌, ℕ, pos, List, [], filter, length, map, Option, Some, None, Result, IfOk, IsPermutation, IsTrue}
use Rattle.std.specs.List.{AllByRecursion}
use Rattle.office.specs.Office.{Office}
use Rattle.sqlite.specs.Effect.{Database, IsDatabase}
use Rattle.sqlite.specs.Held.{Held, state}
use Rattle.sqlite.specs.Order.{Row, column}
use Rattle.sqlite.specs.State.{HasCleanDisk, IsUnchanged}
use Rattle.sqlite.specs.Tree.{Trees}
use Rattle.sqlite.specs.View.{IsClean}
use Rattle.sqlite.specs.declared.types.Value.TheVariants.{Int, Text}
use Rattle.sqlite_trees.specs.declared.store.Store.{Ghosts}
use Rattle.office_tables.specs.Standing.{Rows}
use Rattle.ledger_tables.specs.Schema.{bureau_schema}
use Rattle.ledger_tables.specs.Tables.{cells}
use Rattle.ledger_tables.specs.declared.faults.Fault.{Fault}
use Rattle.job_checks.specs.Tables.{AreRowsOfJob, IsBureaus, TableRows, version_columns}
use Rattle.job_checks.specs.declared.reports.Table.{Table}
use Rattle.job_checks.specs.declared.reports.Table.TheVariants as table
use Rattle.job_archives.specs.Parts.{is_theirs, part_of}
use Rattle.job_archives.specs.declared.comparing.Compared.{Compared}
use Rattle.job_archives.specs.declared.customers.Customers.{Customers}
use Rattle.job_archives.specs.declared.customers.Customers.TheVariants.{All}

-- the second stands for these customers' part of each office for which the first stands; of all
-- customers, both stand for the same offices
pub record StandsForPart (customers : Customers) (first second : Database) : Type 0 where
  pub part : (office : Office) → Rows first office → Rows second (part_of customers office)
  pub whole : customers ≡ All → (office : Office) → Rows first office ↔ Rows second office

-- the rows of this table among these of one job
abbrev pub rows_in : TableRows → Table → List Row
rows_in rows table.Bureau = []
rows_in rows table.Jobs = []
rows_in rows table.Stretches = rows.stretches
rows_in rows table.States = rows.states
rows_in rows table.Pages = rows.pages
rows_in rows table.Cards = rows.cards
rows_in rows table.Lines = rows.lines
rows_in rows table.Profiles = rows.profiles
rows_in rows table.Pockets = rows.pockets

-- no table is told where this holds, and else one that differs
abbrev pub Tells : Type 0 → (Table → Type 0) → Option Table → Type 0
Tells Same Differs None = Same
Tells Same Differs (Some it) = Differs it

module _ (first second : Trees) where
  -- both have the same rows of this job
  abbrev pub HaveSameJob : List ℕ → ℕ → Type 0
  HaveSameJob customer number = (rows : TableRows) × AreRowsOfJob first customer number rows
      × AreRowsOfJob second customer number rows

  -- the row names a job of which both have the same rows
  abbrev pub IsSameJob : Row → Type 0
  IsSameJob it = (customer : List ℕ) × (number : ℕ) × (column it 0 ≡ Text customer)
      × (column it 1 ≡ Int (pos number)) × HaveSameJob customer number

  -- the rows of a job in both differ in this table
  abbrev pub JobDiffers : Table → Type 0
  JobDiffers it = (customer : List ℕ) × (number : ℕ) × (one : TableRows) × (other : TableRows)
      × AreRowsOfJob first customer number one × AreRowsOfJob second customer number other
      × ¬ (rows_in one it ≡ rows_in other it)

  -- the rows of `bureau` in both, as they were read, differ
  abbrev pub VersionsDiffer : Type 0
  VersionsDiffer = (one : List Row) × (other : List Row)
      × IsPermutation (map version_columns (first 0)) one
      × IsPermutation (map version_columns (second 0)) other × ¬ (one ≡ other)

  -- both differ in this table, where this says that they have the jobs that they are to have
  abbrev pub DiffersIn : Type 0 → Table → Type 0
  DiffersIn HaveJobs table.Bureau = VersionsDiffer
  DiffersIn HaveJobs table.Jobs = ¬ HaveJobs
  DiffersIn HaveJobs table.Stretches = JobDiffers table.Stretches
  DiffersIn HaveJobs table.States = JobDiffers table.States
  DiffersIn HaveJobs table.Pages = JobDiffers table.Pages
  DiffersIn HaveJobs table.Cards = JobDiffers table.Cards
  DiffersIn HaveJobs table.Lines = JobDiffers table.Lines
  DiffersIn HaveJobs table.Profiles = JobDiffers table.Profiles
  DiffersIn HaveJobs table.Pockets = JobDiffers table.Pockets

  module _ (customers : Customers) where
    -- the second has of `jobs` the rows of these customers, in the order of the first
    abbrev pub HasTheirJobs : Type 0
    HasTheirJobs = cells (second 1) ≡ filter (is_theirs customers) (cells (first 1))

    -- both have the same rows of `bureau`, and the second has of `jobs` the rows of these
    -- customers, and of each of their jobs the same rows
    pub record HasPart : Type 0 where
      pub version : List Row
      pub read : IsPermutation (map version_columns (first 0)) version
      pub again : IsPermutation (map version_columns (second 0)) version
      pub jobs : HasTheirJobs
      pub each : AllByRecursion IsSameJob (cells (second 1))

    -- this tells how many jobs the second has, and a table in which it is not the customers' part
    -- of the first, if there is one
    pub record Compares (told : Compared) : Type 0 where
      pub jobs : told.jobs ≡ length (cells (second 1))
      pub other : Tells HasPart (DiffersIn HasTheirJobs) told.other

module _ {S T : Type 0} (g : Ghosts S) (h : Ghosts T) (old new : Held S) (was is : Held T) where
  -- on Ok, if both databases have a bureau's schema, they are unchanged, and if they are bureaus',
  -- this holds of their trees and of what was read
  abbrev pub ReadsBoth : {X : Type 0} → Result X Fault → (Trees → Trees → X → Type 0) → Type 0
  ReadsBoth result Are = HasCleanDisk (state g new) → HasCleanDisk (state h is)
      → IfOk result (λ read. (state g old).now.schema ≡ bureau_schema
      → (state h was).now.schema ≡ bureau_schema → IsUnchanged (state g old) (state g new)
      × IsUnchanged (state h was) (state h is)
      × (IsBureaus (state g old).now → IsBureaus (state h was).now
      → Are (state g old).now.trees (state h was).now.trees read))

  -- the same of connections that were open
  abbrev pub ReadsBothOn : {X : Type 0} → Result X Fault → (Trees → Trees → X → Type 0) → Type 0
  ReadsBothOn result Are = IsTrue (state g old).is_open → IsTrue (state h was).is_open
      → ReadsBoth result Are

  -- on Ok, if both databases have a bureau's schema, they are what is committed still, their trees
  -- obey their schemas, and if they are bureaus', this holds of their trees and of what was read
  abbrev pub ReadsBothSettled : {X : Type 0} → Result X Fault → (Trees → Trees → X → Type 0)
      → Type 0
  ReadsBothSettled result Are = HasCleanDisk (state g new) → HasCleanDisk (state h is)
      → IfOk result (λ read. (state g old).now.schema ≡ bureau_schema
      → (state h was).now.schema ≡ bureau_schema
      → (IsTrue (state g new).is_open → (state g new).committed ≡ (state g old).now)
      × IsDatabase (state g old).now
      × (IsTrue (state h is).is_open → (state h is).committed ≡ (state h was).now)
      × IsDatabase (state h was).now
      × (IsBureaus (state g old).now → IsBureaus (state h was).now
      → Are (state g old).now.trees (state h was).now.trees read))

module _ {S T : Type 0} (g : Ghosts S) (h : Ghosts T) where
  -- on Ok, if both connections saw a bureau's schema, it is told how many jobs the copy has, and if
  -- no table is told, the copy stands for these customers' part of the file's offices; a table that
  -- is told differs
  abbrev pub ComparesFiles : Customers → Held S → Held T → S → T → Result Compared Fault → Type 0
  ComparesFiles customers file copy store other result =
      let first : Database = (state g file).now in
      let second : Database = (state h copy).now in
      IsClean (g.view store) → IsClean (h.view other) → IfOk result (λ told.
      first.schema ≡ bureau_schema → second.schema ≡ bureau_schema
      → (told.jobs ≡ length (cells (second.trees 1)))
      × Tells (StandsForPart customers first second) (DiffersIn first.trees second.trees
      (HasTheirJobs first.trees second.trees customers)) told.other)
