-- the contracts of a migration and of its steps
use Rattle.std.specs.Prelude.{◌≡◌, ◌≢◌, ◌⊎◌, ◌+◌, ◌++◌, ◌==◌, ◌∷◌, [], pos, ℕ, if◌then◌else◌, List, length, map, take, IsTrue, Result, Ok, Err, IfErr, IfOk, IsErrAnd, OnOk, ⊤}
use Rattle.std.specs.List.{AllByRecursion}
use Rattle.core_store.specs.Storage.{Storage}
use Rattle.machine.specs.Ranges.{HasSize}
use Rattle.office.specs.Office.{Entry, Office}
use Rattle.ledger_rows.specs.Columns.{HoldsCharacters}
use Rattle.sqlite.specs.Effect.{Database}
use Rattle.sqlite.specs.Held.{Held, state}
use Rattle.sqlite.specs.State.{State, HasCleanDisk, IsUnchanged}
use Rattle.sqlite.specs.Tree.{Trees}
use Rattle.sqlite.specs.declared.types.Value.TheVariants.{Int}
use Rattle.sqlite_trees.specs.declared.store.Store.{Ghosts}
use Rattle.ledger_tables.specs.Cells.{QueuedName}
use Rattle.ledger_tables.specs.Listed.{queued_name}
use Rattle.ledger_tables.specs.Schema.{own_version}
use Rattle.ledger_tables.specs.Steps.{Inside}
use Rattle.ledger_tables.specs.Raising.{with_plain_profiles}
use Rattle.ledger_tables.specs.Tables.{ByJob, Tables, Holds, HoldsAs, pictured, paged}
use Rattle.ledger_tables.specs.Versions.{HasVersions, versions_in, IsAnswer, IsBureaus, IsFoundVersion, IsKnown}
use Rattle.ledger_tables.specs.declared.faults.Fault.{Fault}
use Rattle.texts.specs.declared.names.JobName.{JobName}
use Rattle.ledger_tables.specs.declared.open_tables.OpenTables.{OpenTables}
use Rattle.ledger_tables.specs.declared.openings.OpenFault.{OpenFault}
use Rattle.ledger_tables.specs.declared.openings.OpenFault.TheVariants.{NoMemory, Store, NotABureau, Old}
use Rattle.ledger.specs.Adopting.{IsUntouched, begun}
use Rattle.ledger.specs.Listed.{IsIts}
use Rattle.ledger.specs.Older.{storages_of, with_first_pages, HasWhole, LeftOf, RowsOf, StandsOf}
use Rattle.ledger.specs.Saving.{with_storage}
use Rattle.office_tables.specs.Standing.{CanBeKept, LeftAs, Rows, Stands, named}

-- the connection was open and its tables can be asked for their version; and if their schema is a
-- bureau's, they hold this one alone, and were only read
pub record IsVersionOf (before after : State) (found : ℕ) : Type 0 where
  pub opened : IsTrue before.is_open
  pub asked : HasVersions before.now
  pub only : IsBureaus before.now.schema → versions_in before.now ≡ Int (pos found) ∷ []
  pub unchanged : IsBureaus before.now.schema → IsUnchanged before after

-- the connection was open and its tables can be asked for their version; if their schema is a
-- bureau's, they held this one alone; and if they represented an office in any version, that is
-- this one, and they now represent the office in this program's version
pub record IsRaisedFrom (before after : State) (found : ℕ) : Type 0 where
  pub opened : IsTrue before.is_open
  pub asked : HasVersions before.now
  pub only : IsBureaus before.now.schema → versions_in before.now ≡ Int (pos found) ∷ []
  pub raised : (version : ℕ) (office : Office) → RowsOf version before.now office
      → (found ≡ version) × Rows after.now office

-- what an opening would have answered where a migration answers this: an earlier version that it
-- found is an old file's
abbrev pub as_opened : Result ℕ OpenFault → Result ⊤ OpenFault
as_opened (Ok version) = if version == own_version then Ok tt else Err (Old version)
as_opened (Err fault) = Err fault

module _ {S : Type 0} (g : Ghosts S) where
  -- on Ok, if the job had its whole storage and no pages of it, it now has its pages too
  abbrev pub AddsPages : {X : Type 0} → OpenTables S → OpenTables S → Result X Fault → JobName
      → Type 0
  AddsPages old new result name =
      Inside g old new (λ before after. OnOk result ((storages : ByJob (List ℕ)) (version : ℕ)
      (t : Tables) (s : Storage) → HoldsAs (pictured storages) version before.now t → HasSize s
      → HoldsCharacters s → HasWhole name s storages t
      → HoldsAs (pictured storages) version after.now (with_storage name s t)))

  -- on Ok, if the jobs of an office had their whole storages, and so many first ones their pages,
  -- and the row names the next one, that one has its pages too
  abbrev pub AddsNext : {X : Type 0} → OpenTables S → OpenTables S → Result X Fault → QueuedName
      → Type 0
  AddsNext old new result row =
      Inside g old new (λ before after. OnOk result ((office : Office) (count : ℕ) (next : Entry)
      → AllByRecursion (λ e. CanBeKept e.job) office
      → take (count + 1) office ≡ take count office ++ next ∷ [] → IsIts office next
      → row ≡ queued_name (named next)
      → HoldsAs (pictured (storages_of office)) 1 before.now (with_first_pages count office)
      → HoldsAs (pictured (storages_of office)) 1 after.now (with_first_pages (count + 1) office)))

  -- on Ok, if the jobs of an office had their whole storages and no pages, and the rows name them,
  -- they now have their pages too
  abbrev pub AddsPagesOf : {X : Type 0} → OpenTables S → OpenTables S → Result X Fault
      → List QueuedName → Type 0
  AddsPagesOf old new result rows =
      Inside g old new (λ before after. OnOk result ((office : Office)
      → AllByRecursion (λ e. CanBeKept e.job) office
      → rows ≡ map (λ e. queued_name (named e)) office
      → HoldsAs (pictured (storages_of office)) 1 before.now (with_first_pages 0 office)
      → HoldsAs (pictured (storages_of office)) 1 after.now
      (with_first_pages (length office) office)))

  -- on Ok, if the jobs of an office had their whole storages and no pages, they now have their
  -- pages too
  abbrev pub AddsAllPages : {X : Type 0} → OpenTables S → OpenTables S → Result X Fault → Type 0
  AddsAllPages old new result =
      Inside g old new (λ before after. OnOk result ((office : Office)
      → AllByRecursion (λ e. CanBeKept e.job) office
      → HoldsAs (pictured (storages_of office)) 1 before.now (with_first_pages 0 office)
      → HoldsAs (pictured (storages_of office)) 1 after.now
      (with_first_pages (length office) office)))

  -- on Ok, the tables of version 3 hold what they held in this program's version, and each job has
  -- the profile of one from before version 4
  abbrev pub EndsThird : {X : Type 0} → OpenTables S → OpenTables S → Result X Fault → Type 0
  EndsThird old new result =
      Inside g old new (λ before after. OnOk result ((version : ℕ) (t : Tables)
      → (IsTrue before.is_open → HoldsAs paged version before.now t)
      → Holds after.now (with_plain_profiles t)))

  -- on Ok, the tables hold what they held, without the whole storages, in this program's version,
  -- and each job has the profile of one from before version 4
  abbrev pub EndsFirst : {X : Type 0} → OpenTables S → OpenTables S → Result X Fault → Type 0
  EndsFirst old new result =
      Inside g old new (λ before after. OnOk result ((storages : ByJob (List ℕ)) (version : ℕ)
      (t : Tables) → HoldsAs (pictured storages) version before.now t
      → Holds after.now (with_plain_profiles t)))

  -- on Ok, if the tables represented an office by this rule, they now represent it in this
  -- program's version
  abbrev pub RaisesFrom : {X : Type 0} → (Database → Office → Type 0) → OpenTables S
      → OpenTables S → Result X Fault → Type 0
  RaisesFrom RowsBefore old new result =
      Inside g old new (λ before after. OnOk result ((office : Office)
      → RowsBefore before.now office → Rows after.now office))

  -- on Ok this version was found
  abbrev pub FindsVersion : OpenTables S → OpenTables S → Result ℕ OpenFault → Type 0
  FindsVersion old new result =
      Inside g old new (λ before after. IfOk result (IsVersionOf before after))

  -- on Ok the tables were raised from this version
  abbrev pub RaisesFound : OpenTables S → OpenTables S → Result ℕ OpenFault → Type 0
  RaisesFound old new result =
      Inside g old new (λ before after. IfOk result (IsRaisedFrom before after))

  -- the tables were asked for their version, and the answer is that of the versions found, or of
  -- the error by which the query failed; or an earlier version was found, and the answer is fault 1
  -- or 2, since the tables of that version could not be raised
  abbrev pub IsToldFrom : Held S → Result ℕ OpenFault → Type 0
  IsToldFrom before result = (asked : Held S)
      × (IsFoundVersion (state g before) (state g asked) (as_opened result)
      ⊎ (IsErrAnd result IsKnown
      × ((version : ℕ)
      × IsFoundVersion {X = ⊤} (state g before) (state g asked) (Err (Old version)))))

  -- the answer is told right of the version that the tables were found to have
  abbrev pub TellsVersion : OpenTables S → OpenTables S → Result ℕ OpenFault → Type 0
  TellsVersion old new result =
      Inside g old new (λ before after. IsToldFrom old.tx.now.conn.now result)

  -- a fault is not that the tables are no bureau's, if they represented an office in any version
  abbrev pub KnowsFault : {X : Type 0} → OpenTables S → OpenTables S → Result X OpenFault
      → Type 0
  KnowsFault old new result =
      Inside g old new (λ before after. IfErr result (λ fault. (version : ℕ) (office : Office)
      → (IsTrue before.is_open → RowsOf version before.now office) → fault ≢ NotABureau))

module _ {S : Type 0} (g : Ghosts S) (old new : Held S) where
  -- if the tables of any version represented an office, that is the version that was found, and
  -- they represent the same office in this program's version
  abbrev pub IsRaised : ℕ → Type 0
  IsRaised found = HasCleanDisk (state g new) → (version : ℕ) (office : Office)
      → StandsOf version (state g old) office
      → (found ≡ version) × Stands (state g new) office

  -- if the tables of any version represented an office, they represent it still, in that version
  abbrev pub IsKeptOf : Type 0
  IsKeptOf = HasCleanDisk (state g new) → (version : ℕ) (office : Office)
      → StandsOf version (state g old) office → StandsOf version (state g new) office

  -- if the tables of any version represented an office, a crash leaves that office in that version
  -- or in this program's
  abbrev pub LeavesEitherVersion : Type 0
  LeavesEitherVersion = HasCleanDisk (state g new) → (version : ℕ) (office : Office)
      → StandsOf version (state g old) office → (db : Trees) → (state g new).may_leave db
      → LeftOf version db office ⊎ LeftAs db office

  -- if the tables were this program's already, or the fault is that there is no memory or that they
  -- are no bureau's, all is left as it was
  abbrev pub LeavesUntouched : Result ℕ OpenFault → Type 0
  LeavesUntouched result = HasCleanDisk (state g new)
      → (result ≡ Ok own_version) ⊎ ((result ≡ Err NoMemory) ⊎ (result ≡ Err NotABureau))
      → IsUntouched (state g old) (state g new)

  -- the tables can be asked for their version; and if their schema is a bureau's, they hold this
  -- one alone
  abbrev pub HasVersion : ℕ → Type 0
  HasVersion found = HasCleanDisk (state g new) → HasVersions (state g old).now
      × (IsBureaus (state g old).now.schema
      → versions_in (state g old).now ≡ Int (pos found) ∷ [])

  -- an opening that answered so, an earlier version being an old file's, would have answered right
  -- for these tables
  abbrev pub IsAnswerOf : Result ℕ OpenFault → Type 0
  IsAnswerOf result =
      HasCleanDisk (state g new) → IsAnswer (state g old).now (as_opened result)

  -- the answer is told right of the version that the tables were found to have; or it is fault 2,
  -- since a transaction was open
  abbrev pub IsToldOfVersion : Result ℕ OpenFault → Type 0
  IsToldOfVersion result = HasCleanDisk (state g new)
      → ((result ≡ Err Store) × IsTrue (state g old).in_transaction)
      ⊎ IsToldFrom g (begun old) result

  -- the fault is not that the tables are of an earlier version; and if the tables of any version
  -- represented an office, it is not that they are no bureau's
  abbrev pub IsNoFaultOfVersion : OpenFault → Type 0
  IsNoFaultOfVersion fault = ((version : ℕ) → fault ≢ Old version)
      × (HasCleanDisk (state g new) → (version : ℕ) (office : Office)
      → StandsOf version (state g old) office → fault ≢ NotABureau)
