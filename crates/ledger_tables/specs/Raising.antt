-- tables of an earlier version that are made those of this one
use Rattle.std.specs.Prelude.{◌≡◌, ℕ, List, [], map, Option}
use Rattle.std.specs.Option.{option_map}
use Rattle.sqlite.specs.Effect.{Database}
use Rattle.ledger_tables.specs.Cells.{QueuedName, unless_blank}
use Rattle.ledger_tables.specs.Listed.{queued_name}
use Rattle.ledger_tables.specs.Named.{of_job}
use Rattle.ledger_tables.specs.Schema.{raising_schema, up_to_states}
use Rattle.ledger_tables.specs.Tables.{ByJob, Tables, HoldsFirstIn, job_named, without_profiles}
use Rattle.texts.specs.declared.names.JobName.{JobName}
use Rattle.ledger_tables.specs.declared.rows.ProfileRow.{ProfileRow}

-- the tables of version 1 hold this, and beside them is a table of states without a row
pub record HasNewStates (db : Database) (t : Tables) (storages : ByJob (List ℕ)) : Type 0 where
  pub first : HoldsFirstIn up_to_states db t storages
  pub states : db.trees 11 ≡ []

-- the tables of version 1 hold this, and beside them are tables of states and of pages without a
-- row
pub record HasNewTables (db : Database) (t : Tables) (storages : ByJob (List ℕ)) : Type 0 where
  pub first : HoldsFirstIn raising_schema db t storages
  pub states : db.trees 11 ≡ []
  pub pages : db.trees 13 ≡ []

-- the names of all jobs, in the order in which they were taken
abbrev pub all_names : Tables → List QueuedName
all_names t = map queued_name t.jobs

-- the bytes of the storage of the job of this name, if it has a state
abbrev pub storage_of : JobName → ByJob (List ℕ) → Tables → Option (List ℕ)
storage_of name storages t = option_map (λ state. of_job name storages) (of_job name t.states)

-- the tables without the rows of blank pages
abbrev pub without_blank_pages : Tables → Tables
without_blank_pages t =
    record t { pages = λ customer number page. unless_blank (t.pages customer number page) }

-- the profile of a job of an earlier version: 1, with no pocket chosen
abbrev pub plain_profile : ProfileRow
plain_profile = record { profile = 1; chosen = 0 }

-- the tables with that profile of each job, and no pockets
abbrev pub with_plain_profiles : Tables → Tables
with_plain_profiles t = record (without_profiles t) {
  profiles = λ customer number.
      option_map (λ job. plain_profile) (job_named customer number t.jobs);
}
