-- offices in the tables of earlier versions, which a migration alone reads
use Rattle.std.specs.Prelude.{◌≡◌, ◌⊎◌, ◌==◌, ℕ, false, if◌then◌else◌, List, [], take, Option, Some, None, IsTrue}
use Rattle.std.specs.List.{AllByRecursion}
use Rattle.core_store.specs.Storage.{Storage}
use Rattle.office.specs.Jobs.{Job, picture}
use Rattle.office.specs.Office.{Office, job_of}
use Rattle.ledger_rows.specs.Columns.{storage_bytes}
use Rattle.ledger_rows.specs.Pages.{all_rows_of}
use Rattle.sqlite.specs.Effect.{Database}
use Rattle.sqlite.specs.Schema.{Schema}
use Rattle.sqlite.specs.State as store
use Rattle.sqlite.specs.Tree.{Trees}
use Rattle.ledger_tables.specs.Cells.{Pages, no_pages}
use Rattle.ledger_tables.specs.Named.{of_job, HasState}
use Rattle.ledger_tables.specs.Schema.{bureau_schema, first_schema, paged_schema, own_version}
use Rattle.ledger_tables.specs.Tables.{ByJob, Tables, HoldsAs, HoldsFirst}
use Rattle.ledger_tables.specs.Tables.{paged}
use Rattle.units.specs.declared.profiles.Profile.TheVariants.{Plain}
use Rattle.texts.specs.declared.names.JobName.{JobName}
use Rattle.ledger.specs.Saving.{HasNoPages}
use Rattle.office_tables.specs.Standing.{CanBeKept, Rows, tables_of, pages_of}

-- the job's machine has no stacker selection, as before version 4
abbrev pub IsPlainJob : Job → Type 0
IsPlainJob job = job.profile ≡ Plain

-- the jobs of an office from before version 4: each can be kept, and its machine has no stacker
-- selection
pub record AreEarlierJobs (office : Office) : Type 0 where
  pub kept : AllByRecursion (λ e. CanBeKept e.job) office
  pub plain : AllByRecursion (λ e. IsPlainJob e.job) office

-- ---- version 1: a job's row in `pictures` has its whole storage

-- the bytes of a job's storage, none if there is no job
abbrev pub storage_of : Option Job → List ℕ
storage_of None = []
storage_of (Some job) = storage_bytes (picture job).works.storage

-- the bytes of the storage of each job
abbrev pub storages_of : Office → ByJob (List ℕ)
storages_of office customer number = storage_of (job_of customer number office)

-- the rows of the tables of version 1 are those of the office, and no others
pub record FirstRows (db : Database) (office : Office) : Type 0 where
  pub tables : HoldsFirst db (tables_of office) (storages_of office)
  pub jobs : AreEarlierJobs office

-- ---- version 2: each page of a job's storage has a row

-- the rows of all pages of a job's storage, none if there is no job
abbrev pub all_pages_of : Option Job → Pages
all_pages_of None = no_pages
all_pages_of (Some job) = all_rows_of (picture job).works.storage

-- the rows of all tables that represent an office in version 2
abbrev pub second_tables_of : Office → Tables
second_tables_of office = record (tables_of office) {
  pages = λ customer number. all_pages_of (job_of customer number office);
}

-- the rows of the tables of version 2 are those of the office, and no others
pub record SecondRows (db : Database) (office : Office) : Type 0 where
  pub tables : HoldsAs paged 2 db (second_tables_of office)
  pub jobs : AreEarlierJobs office

-- ---- version 3: a blank page has no row

-- the rows of the tables of version 3 are those of the office, and no others
pub record ThirdRows (db : Database) (office : Office) : Type 0 where
  pub tables : HoldsAs paged 3 db (tables_of office)
  pub jobs : AreEarlierJobs office

-- ---- any version

-- the rows of the tables of this version are those of the office, and no others
abbrev pub RowsOf : ℕ → Database → Office → Type 0
RowsOf version db office = ((version ≡ 1) × FirstRows db office)
    ⊎ (((version ≡ 2) × SecondRows db office)
    ⊎ (((version ≡ 3) × ThirdRows db office)
    ⊎ ((version ≡ own_version) × Rows db office)))

-- the schema of this version
abbrev pub schema_of : ℕ → Schema
schema_of version =
    if version == 1 then first_schema else if version == own_version then bureau_schema else
    paged_schema

-- a bureau's tables of this version with these trees, as a crash may leave them, represent this
-- office
abbrev pub LeftOf : ℕ → Trees → Office → Type 0
LeftOf version db = RowsOf version (record { schema = schema_of version; trees = db })

-- between commands: the tables, of this version, represent this office, and so does all that a
-- crash may leave
pub record StandsOf (version : ℕ) (s : store.State) (office : Office) : Type 0 where
  pub outside : s.in_transaction ≡ false
  pub now : IsTrue s.is_open → RowsOf version s.now office
  pub left : (db : Trees) → s.may_leave db → LeftOf version db office

-- ---- while the pages of version 1's storages are made

-- what the tables hold of an office, the pages only of so many of its first jobs
abbrev pub with_first_pages : ℕ → Office → Tables
with_first_pages count office = record (tables_of office) {
  pages = λ customer number. pages_of (job_of customer number (take count office));
}

-- the job has this storage as a whole, and no pages of it
pub record HasWhole (name : JobName) (s : Storage) (storages : ByJob (List ℕ)) (t : Tables)
    : Type 0 where
  pub storage : of_job name storages ≡ storage_bytes s
  pub state : HasState name t
  pub pages : HasNoPages name t
