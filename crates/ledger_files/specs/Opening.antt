-- files that hold a bureau's database
use Rattle.std.specs.Prelude.{◌≡◌, ◌⊎◌, Bool, IsTrue, Option, Some, None, Result, Err, ⊤}
use Rattle.sqlite_disk.specs.declared.Disk.{Ghosts}
use Rattle.sqlite_disk.specs.declared.Files.{Files}
use Rattle.sqlite_pool.specs.Stored.{is_summed}
use Rattle.sqlite_store.specs.Unopened.{state_of}
use Rattle.sqlite.specs.Tree.{Trees}
use Rattle.sqlite.specs.Recovery.{Image}
use Rattle.sqlite.specs.WalFiles.{outcomes}
use Rattle.sqlite.specs.FileStore.{recovers}
use Rattle.sqlite.specs.State.{State, HasCleanDisk}
use Rattle.sqlite.specs.Effect.{Database, IsDatabase}
use Rattle.sqlite.specs.Files.{HoldsDatabase, IsOpened, file_state, image_of, over_files, IsCleanLeft}
use Rattle.sqlite.specs.Held.{Held}
use Rattle.sqlite.specs.Start.{FindsIn}
use Rattle.sqlite.specs.declared.error.Error.{Error}
use Rattle.sqlite.specs.declared.error.Error.TheVariants.{SqliteFailure}
use Rattle.sqlite.specs.declared.error.ErrorCode.TheVariants.{OutOfMemory}
use Rattle.sqlite_store.specs.declared.store.FileStore.{FileStore}
use Rattle.ledger_tables.specs.Versions.{IsAnswer, IsKnown}
use Rattle.ledger_tables.specs.declared.openings.OpenFault.{OpenFault}
use Rattle.ledger_tables.specs.declared.openings.OpenFault.TheVariants.{NoMemory, Store}
use Rattle.ledger.specs.Adopting.{IsTold}
use Rattle.sqlite.specs.declared.file.Leftover.{Leftover}
use Rattle.sqlite.specs.declared.file.Leftover.TheVariants as left
use Rattle.office.specs.Office.{Office}
use Rattle.office_tables.specs.Standing.{LeftAs, Stands}
use Rattle.database_files.specs.Connecting.{FailsToConnect, IsOutOfReach}
use Rattle.ledger_files.specs.declared.kept.Kept.{Kept}
use Rattle.ledger_files.specs.declared.kept.Kept.TheVariants as kept

-- the two files hold a bureau's database that represents this office
abbrev pub AreOf : Image → Office → Type 0
AreOf image office = ∥ ((db : Trees) × HoldsDatabase image db × LeftAs db office) ∥₁

-- the two files hold a bureau's database for which this holds, and its pages end in sums or do not
abbrev pub AreStoredWith : Bool → Image → (Trees → Type 0) → Type 0
AreStoredWith has_sums image Here =
    ∥ ((db : Trees) × (held : HoldsDatabase image db) × (is_summed held.0 ≡ has_sums)
    × Here db) ∥₁

-- the two files hold a bureau's database that represents this office, and its pages end in sums or
-- do not
abbrev pub AreStoredAs : Bool → Image → Office → Type 0
AreStoredAs has_sums image office = AreStoredWith has_sums image (λ db. LeftAs db office)

module _ {D : Type 0} {g : Ghosts D} where
  -- what an open that failed leaves, files or trees, is a database for which this holds; nothing is
  -- said of files with sums that are handed back unopened as files without
  abbrev pub LeftHolds : Bool → Leftover D g → (Trees → Type 0) → Type 0
  LeftHolds has_sums (left.Files files) Here = (image : Image) →
      outcomes g files.log files.db image → AreStoredWith has_sums image Here
  LeftHolds has_sums (left.Unopened files) Here =
      (IsTrue has_sums → IsTrue (is_summed (state_of files).page_size)) → (image : Image) →
      (state_of files).may_leave image → AreStoredWith has_sums image Here
  LeftHolds has_sums (left.Store store) Here =
      ∥ ((db : Trees) → recovers store db → Here db) ∥₁

  -- what an open that failed leaves represents the office
  abbrev pub LeftStands : Bool → Leftover D g → Office → Type 0
  LeftStands has_sums rest office = LeftHolds has_sums rest (λ db. LeftAs db office)

  -- what is handed back of an open represents the office: its connection, or what a failed open
  -- leaves
  abbrev pub KeptStands : Bool → Kept D g → Office → Type 0
  KeptStands has_sums (kept.Connection conn) office = ∥ Stands (file_state conn) office ∥₁
  KeptStands has_sums (kept.Left rest) office = LeftStands has_sums rest office
  KeptStands has_sums kept.Nothing office = ⊤

  -- so far the disks of what is handed back have returned what was written to them
  abbrev pub IsCleanKept : Kept D g → Type 0
  IsCleanKept (kept.Connection conn) = HasCleanDisk (file_state conn)
  IsCleanKept (kept.Left rest) = IsCleanLeft rest
  IsCleanKept kept.Nothing = ⊤

-- the fault that is told of an error by which files could not be opened: 1 for want of memory, or
-- else 2
abbrev pub store_fault : Error → OpenFault
store_fault (SqliteFailure OutOfMemory) = NoMemory
store_fault _ = Store

-- the answer is right for whatever database the two files hold
abbrev pub IsAnswerFor : Image → Result ⊤ OpenFault → Type 0
IsAnswerFor image answer =
    (db : Database) → HoldsDatabase image db.trees → IsDatabase db → IsAnswer db answer

-- the connection, if it is open, sees these trees, and a crash leaves no others
pub record HoldsOnly (s : State) (db : Trees) : Type 0 where
  pub now : IsTrue s.is_open → s.now.trees ≡ db
  pub left : (after : Trees) → s.may_leave after → after ≡ db

module _ {D : Type 0} {g : Ghosts D} where
  -- what is handed back of files that could not be opened: all that is left of them
  abbrev pub kept_of : Option (Leftover D g) → Kept D g
  kept_of (Some left) = kept.Left left
  kept_of None = kept.Nothing

  -- the files were opened, and what is handed back still holds this database alone; or they were
  -- not, and the fault is not that they are no bureau's or an old one's
  abbrev pub KeptHolds : OpenFault → Kept D g → Trees → Type 0
  KeptHolds fault (kept.Connection conn) db = HoldsOnly (file_state conn) db
  KeptHolds fault (kept.Left rest) db = IsKnown fault
  KeptHolds fault kept.Nothing db = IsKnown fault

  -- what is handed back still holds this database, whose pages end in sums or do not, and a crash
  -- leaves it no other
  abbrev pub KeptIs : Bool → Kept D g → Trees → Type 0
  KeptIs has_sums (kept.Connection conn) db = HoldsOnly (file_state conn) db
  KeptIs has_sums (kept.Left rest) db = LeftHolds has_sums rest (λ d. d ≡ db)
  KeptIs has_sums kept.Nothing db = ⊤

  -- the files of this image were opened, and the answer is told right of the connection to them
  abbrev pub IsToldOpen : Image → Held (FileStore D g) → Result ⊤ OpenFault → Type 0
  IsToldOpen image conn answer = (first : Held (FileStore D g)) × IsOpened first
      × FindsIn image (file_state first) × IsTold over_files first conn answer

  -- the fault is told right, by what is handed back: of an open connection, or of the error by
  -- which the files of this image could not be opened, or not be reached
  abbrev pub IsToldOf : Image → OpenFault → Kept D g → Type 0
  IsToldOf image fault (kept.Connection conn) = IsToldOpen image conn (Err fault)
  IsToldOf image fault (kept.Left rest) = (error : Error) × (files : Files D)
      × (image_of g files ≡ image) × FailsToConnect files rest error
      × (fault ≡ store_fault error)
  IsToldOf image fault kept.Nothing =
      (error : Error) × IsOutOfReach error × (fault ≡ store_fault error)

  -- the files of this image were not opened as a bureau's, for this fault, and this is handed back
  pub record AreRefused (image : Image) (fault : OpenFault) (rest : Kept D g) : Type 0 where
    -- files of an office are refused by faults 1 and 2 alone, and the rest represents that office
    pub known : (office : Office) → AreOf image office → IsKnown fault
    pub stands : (has_sums : Bool) → (office : Office) → AreStoredAs has_sums image office
        → KeptStands has_sums rest office
    -- the fault is right for what the files hold, and by what is handed back
    pub answer : IsAnswerFor image (Err fault)
    pub told : IsToldOf image fault rest
    -- what the files hold is not changed
    pub untouched : (db : Trees) → HoldsDatabase image db → KeptHolds fault rest db
    pub same : (db : Trees) (held : HoldsDatabase image db) → KeptIs (is_summed held.0) rest db
