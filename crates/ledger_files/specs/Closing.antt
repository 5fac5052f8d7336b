-- a bureau's file that was closed
use Rattle.std.specs.Prelude.{◌≡◌, ◌⊎◌, Bool, [], IsTrue}
use Rattle.sqlite_disk.specs.declared.Disk.{Ghosts}
use Rattle.sqlite_store.specs.declared.store.FileStore.{FileStore}
use Rattle.sqlite_disk.specs.declared.Files.{Files}
use Rattle.sqlite.specs.Closing.{HoldsAlone}
use Rattle.sqlite.specs.Files.{FailsToClose, HoldsDatabase}
use Rattle.sqlite.specs.Held.{Held}
use Rattle.sqlite.specs.Recovery.{Image}
use Rattle.sqlite.specs.Tree.{Trees}
use Rattle.sqlite.specs.WalFiles.{outcomes}
use Rattle.sqlite.specs.declared.error.Error.{Error}
use Rattle.sqlite_wal.specs.Reads.{AreClean}
use Rattle.office.specs.Office.{Office}
use Rattle.office_tables.specs.Standing.{LeftAs}
use Rattle.ledger_tables.specs.declared.openings.OpenFault.{OpenFault}
use Rattle.ledger_tables.specs.declared.openings.OpenFault.TheVariants.{Store}
use Rattle.ledger_files.specs.Opening.{store_fault}

-- the database file holds a bureau's database that represents this office, with its log and with
-- no log
abbrev pub StandsAlone : Image → Office → Type 0
StandsAlone image office = ∥ ((db : Trees) × HoldsDatabase image db
    × HoldsDatabase (record image { log = [] }) db × LeftAs db office) ∥₁

-- whatever a crash leaves of the two files, they hold one database, and so does the database file
-- with no log: so the log may be removed
abbrev pub StandWithoutLog : {D : Type 0} → Ghosts D → Files D → Type 0
StandWithoutLog g files = AreClean g files.log files.db → ∥ ((db : Trees)
    × ((image : Image) → outcomes g files.log files.db image → HoldsAlone image db)) ∥₁

-- why a connection could not be closed: by an error that the store excuses, of memory, of a fault
-- that had shut the store before, or of files that failed now; and the fault is told right of it
abbrev pub HindersClosing : {D : Type 0} {g : Ghosts D} → Held (FileStore D g) → FileStore D g
    → OpenFault → Type 0
HindersClosing conn left fault =
    (error : Error) × FailsToClose conn left error × (fault ≡ store_fault error)

-- why the work with a bureau could not end with closing its file: the bureau is broken, and its
-- file has to be opened again; or something hindered the closing
abbrev pub HindersEnding : {D : Type 0} {g : Ghosts D} → Bool → Held (FileStore D g)
    → FileStore D g → OpenFault → Type 0
HindersEnding is_broken conn left fault =
    (IsTrue is_broken × (fault ≡ Store)) ⊎ HindersClosing conn left fault
