-- files that could not be opened as a database
use Rattle.std.specs.Prelude.{◌≡◌, ◌⊎◌, ℕ, List}
use Rattle.sqlite_disk.specs.Disk.{MoreFaults}
use Rattle.sqlite_disk.specs.declared.Disk.{Ghosts}
use Rattle.sqlite_disk.specs.declared.Files.{Files}
use Rattle.sqlite.specs.Files.{FailsToOpenFiles, IsCleanLeft, LeavesFiles, faults_left, faults_of, image_of}
use Rattle.sqlite.specs.Recovery.{Image}
use Rattle.sqlite.specs.declared.error.Error.{Error}
use Rattle.sqlite.specs.declared.error.Error.TheVariants.{SqliteFailure}
use Rattle.sqlite.specs.declared.error.ErrorCode.TheVariants.{CannotOpen, DatabaseBusy, DatabaseCorrupt, DiskFull, OutOfMemory, SystemIoFailure}
use Rattle.sqlite.specs.declared.file.Leftover.{Leftover}
use Rattle.sqlite_wal.specs.declared.error.Error.{Error as LogError}
use Rattle.sqlite_wal.specs.declared.error.Error.TheVariants as wal
use Rattle.database_files.specs.Damage.{IsDamaged}

-- the error that is told where a log could not be looked at
abbrev pub look_error : LogError → Error
look_error wal.OutOfMemory = SqliteFailure OutOfMemory
look_error wal.Full = SqliteFailure DiskFull
look_error _ = SqliteFailure SystemIoFailure

-- there was no file to open, no memory, or another program has the files: these errors come of
-- files that could not be reached
abbrev pub IsOutOfReach : Error → Type 0
IsOutOfReach error = (error ≡ SqliteFailure CannotOpen)
    ⊎ ((error ≡ SqliteFailure OutOfMemory) ⊎ (error ≡ SqliteFailure DatabaseBusy))

-- the files hold what this image says, and a crash leaves them so
pub record AreAsFound {D : Type 0} (g : Ghosts D) (image : Image) (files : Files D) : Type 0 where
  pub seen : image_of g files ≡ image
  pub log : (c : List ℕ) → g.may_leave files.log c → c ≡ image.log
  pub db : (c : List ℕ) → g.may_leave files.db c → c ≡ image.db

module _ {D : Type 0} {g : Ghosts D} where
  -- why the files could not be opened: the kit tells an error; or their log is damaged; or a read of
  -- the log failed
  abbrev pub FailsToConnect : Files D → Leftover D g → Error → Type 0
  FailsToConnect files rest error = FailsToOpenFiles files rest error
      ⊎ ((IsDamaged (image_of g files).log × (error ≡ SqliteFailure DatabaseCorrupt))
      ⊎ (MoreFaults (faults_of g files) (faults_left rest)
      × (error ≡ SqliteFailure SystemIoFailure)))

  -- files that held what this image says could not be opened, for this error, and this is left of
  -- them: it stands for what they stood for
  abbrev pub IsUnconnected : Image → Error → Leftover D g → Type 0
  IsUnconnected image error rest = (files : Files D) × AreAsFound g image files
      × (IsCleanLeft rest → FailsToConnect files rest error × LeavesFiles files rest)
