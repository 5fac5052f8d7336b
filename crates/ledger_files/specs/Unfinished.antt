-- files of a bureau that were not closed: what a crash may leave of them, and of which office it is
use Rattle.std.specs.Prelude.{◌≡◌, ◌⊎◌, ◌≤◌, ◌+◌, ℕ, List, length, take as beginning_of, Option, Some, None, Err, IsTrue, ⊤}
use Rattle.sqlite_disk.specs.declared.Disk.{Ghosts}
use Rattle.sqlite_pool.specs.Stored.{is_summed}
use Rattle.sqlite_store.specs.Unopened.{state_of}
use Rattle.sqlite_store.specs.declared.store.FileStore.{FileStore}
use Rattle.sqlite_store.specs.declared.store.open.Unopened.{Unopened}
use Rattle.sqlite.specs.FileStore.{recovers, view}
use Rattle.sqlite.specs.Files.{HoldsDatabase, IsCleanLeft}
use Rattle.sqlite.specs.Held.{AreDatabases}
use Rattle.sqlite.specs.Recovery.{Image}
use Rattle.sqlite.specs.Tree.{Trees}
use Rattle.sqlite.specs.View.{IsClean}
use Rattle.sqlite.specs.WalFiles.{outcomes}
use Rattle.sqlite.specs.declared.file.Leftover.{Leftover}
use Rattle.sqlite.specs.declared.file.Leftover.TheVariants as left
use Rattle.sqlite_wal.specs.Reads.{AreClean}
use Rattle.office.specs.Office.{Office, fold}
use Rattle.office.specs.declared.commands.Command.{Command}
use Rattle.office.specs.declared.replies.Reply.{Reply}
use Rattle.ledger.specs.Older.{LeftOf}
use Rattle.ledger.specs.Shifting.{LeavesWhole}
use Rattle.office_tables.specs.Standing.{LeftAs}
use Rattle.ledger_tables.specs.Versions.{IsKnown, IsNotOld}
use Rattle.ledger_tables.specs.declared.openings.OpenFault.{OpenFault}
use Rattle.ledger_tables.specs.declared.openings.OpenFault.TheVariants.{Store}
use Rattle.ledger_files.specs.Migrating.{AreOfVersion, IsMigration, IsVersionOf}
use Rattle.ledger_files.specs.Opening.{AreOf, IsAnswerFor}
use Rattle.ledger_files.specs.Rounds.{IsLink, MayLeave}
use Rattle.ledger_files.specs.declared.migrating.Migrated.{Migrated}
use Rattle.ledger_files.specs.declared.unfinished.Unfinished.{Unfinished}
use Rattle.ledger_files.specs.declared.unfinished.Unfinished.TheVariants as unfinished

-- from files to files: whatever database the first hold, the second hold it too
abbrev pub HoldSame : Image → Image → Type 0
HoldSame before after = (db : Trees) → HoldsDatabase before db → ∥ HoldsDatabase after db ∥₁

-- an open that failed, from these files to those that may be left
abbrev pub IsRefusal : Image → (Image → Type 0) → Type 0
IsRefusal files may_leave = (image : Image) → may_leave image → HoldSame files image

module _ {D : Type 0} {g : Ghosts D} where
  -- if these files hold a database whose pages end in sums, it was not put among those without
  abbrev pub TakesSums : Image → Unopened D g → Type 0
  TakesSums files now = (db : Trees) (held : HoldsDatabase files db)
      → IsTrue (is_summed held.0) → IsTrue (is_summed (state_of now).page_size)

  -- this is what a crash may leave of these files after an open that failed, by what is left of
  -- them: none were reached, so that they are as they were; or this, if its disk has returned what
  -- was written to it. Of a store it is also said what the kit says of one that was open
  abbrev pub MayLeaveRest : Image → Option (Leftover D g) → Image → Type 0
  MayLeaveRest files None image = image ≡ files
  MayLeaveRest files (Some (left.Files now)) image =
      AreClean g now.log now.db × outcomes g now.log now.db image
  MayLeaveRest files (Some (left.Unopened now)) image =
      IsTrue (state_of now).is_clean × TakesSums files now × (state_of now).may_leave image
  MayLeaveRest files (Some (left.Store now)) image =
      MayLeave now image × IsTrue (view now).is_numbered × AreDatabases (recovers now)

  -- so far the disk of what is left has returned what was written to it
  abbrev pub IsCleanRest : Option (Leftover D g) → Type 0
  IsCleanRest None = ⊤
  IsCleanRest (Some left) = IsCleanLeft left

  -- these commands were carried out by a bureau that was opened on these files, and replied to so;
  -- the files were not closed, for this fault, and so much is left of them
  pub record IsUnclosed (files : Image) (fault : OpenFault) (rest : FileStore D g)
      (commands : List Command) (replies : List Reply) : Type 0 where
    -- all commands, or all but the last, were replied to
    pub all : length commands ≤ length replies + 1
    -- whatever database a crash leaves is of the office after a beginning of the commands that
    -- holds every one that was replied to
    pub leads : IsClean (view rest) → (office : Office) → AreOf files office
        → ∥ ((replies ≡ (fold (beginning_of (length replies) commands) office).1)
        × ((db : Trees) → recovers rest db
        → LeavesWhole db office commands (length replies))) ∥₁
    -- the bureau was broken, and then it is a link to whatever files a crash leaves; or every
    -- command was replied to, and closing the files failed
    pub ended : ((fault ≡ Store) × IsLink files (MayLeave rest) commands replies)
        ⊎ (length replies ≡ length commands)

  -- the files were refused, for this fault, and this is left of them: it holds what they held, and
  -- the fault is right for what they hold
  pub record AreLeft (files : Image) (fault : OpenFault) (rest : Option (Leftover D g))
      : Type 0 where
    pub refusal : IsRefusal files (MayLeaveRest files rest)
    pub answer : IsCleanRest rest → IsAnswerFor files (Err fault)
    pub known : IsCleanRest rest → (office : Office) → AreOf files office → IsKnown fault

  -- these commands were carried out by a bureau that was opened on these files, which were not
  -- closed then
  abbrev pub IsLeftBy : Image → Unfinished D g → List Command → List Reply → Type 0
  IsLeftBy files (unfinished.Unclosed fault rest) commands replies =
      IsUnclosed files fault rest commands replies
  IsLeftBy files other commands replies = ⊥

  -- the work with the bureau of these files ended without closing them: none was done; or this is
  -- told of the commands that were carried out and of the replies to them
  abbrev pub IsUnfinished : Image → Type 0 → (List Command → List Reply → Type 0)
      → Unfinished D g → Type 0
  IsUnfinished files Idle Tells (unfinished.Unfound fault) = Idle × IsNotOld fault
  IsUnfinished files Idle Tells (unfinished.Refused fault rest) = Idle × AreLeft files fault rest
  IsUnfinished files Idle Tells (unfinished.Unclosed fault rest) = (commands : List Command)
      × (replies : List Reply) × Tells commands replies
      × IsUnclosed files fault rest commands replies

  -- these files were not migrated, or not closed after it: what is left of them is of the same
  -- office, in the version that they had or in this program's
  abbrev pub IsUnmigrated : Image → Unfinished D g → Type 0
  IsUnmigrated files (unfinished.Unfound fault) = IsNotOld fault
  IsUnmigrated files (unfinished.Refused fault rest) = IsNotOld fault
      × IsMigration files (MayLeaveRest files rest)
      × (IsCleanRest rest → IsAnswerFor files (Err fault))
  IsUnmigrated files (unfinished.Unclosed fault rest) = IsNotOld fault × (IsClean (view rest)
      → (version : ℕ) (office : Office) → AreOfVersion version files office
      → ∥ ((db : Trees) → recovers rest db → LeftOf version db office ⊎ LeftAs db office) ∥₁)

  -- if their disk has returned what was written to it, the version that was found is that of
  -- whatever database these files hold
  abbrev pub IsFoundAs : Image → Migrated D g → Type 0
  IsFoundAs files done = AreClean g done.closed.files.log done.closed.files.db
      → IsVersionOf files done.version

  -- the fault for which the files were not closed
  abbrev pub fault_in : Unfinished D g → OpenFault
  fault_in (unfinished.Unfound fault) = fault
  fault_in (unfinished.Refused fault rest) = fault
  fault_in (unfinished.Unclosed fault rest) = fault
