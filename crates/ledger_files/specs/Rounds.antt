-- rounds of work on a bureau's files: what they tell, and what a crash leaves of them
use Rattle.std.specs.Prelude.{◌≡◌, ◌≤◌, ◌⊎◌, ◌+◌, Bool, List, [], length, take as beginning_of, Ok, IsTrue}
use Rattle.sqlite_disk.specs.declared.Disk.{Ghosts}
use Rattle.sqlite_disk.specs.declared.Files.{Files}
use Rattle.sqlite_pool.specs.Stored.{is_summed}
use Rattle.sqlite_store.specs.declared.store.FileStore.{FileStore}
use Rattle.sqlite.specs.FileStore as store
use Rattle.sqlite.specs.FileStore.{view}
use Rattle.sqlite.specs.Files.{HoldsDatabase, file_state}
use Rattle.sqlite.specs.Held.{Held}
use Rattle.sqlite.specs.Recovery.{Image}
use Rattle.sqlite.specs.State.{HasCleanDisk}
use Rattle.sqlite.specs.Tree.{Trees}
use Rattle.sqlite.specs.View.{IsClean}
use Rattle.sqlite.specs.WalFiles.{outcomes}
use Rattle.sqlite_wal.specs.Reads.{AreClean}
use Rattle.office.specs.Office.{Office, fold, IsLeft}
use Rattle.office.specs.declared.commands.Command.{Command}
use Rattle.office.specs.declared.replies.Reply.{Reply}
use Rattle.ledger.specs.Shifting.{LeavesWhole}
use Rattle.office_tables.specs.Standing.{Stands}
use Rattle.ledger_files.specs.Opening.{AreOf, IsAnswerFor}
use Rattle.ledger_files.specs.declared.closed.Closed.{Closed}

-- the two files hold one of the databases that a crash may leave, with or without sums on its pages
abbrev pub HoldsOneOf : Bool → Image → (Trees → Type 0) → Type 0
HoldsOneOf has_sums image may_leave =
    ∥ ((db : Trees) × may_leave db × (held : HoldsDatabase image db)
    × (is_summed held.0 ≡ has_sums)) ∥₁

-- if the first files represent an office, the replies are that office's to the first of the
-- commands, and the second files represent the office after a beginning of the commands that holds
-- every one that was replied to
abbrev pub LeadsBy : List Command → List Reply → Image → Image → Type 0
LeadsBy commands replies before after = (office : Office) → AreOf before office
    → ∥ ((replies ≡ (fold (beginning_of (length replies) commands) office).1)
    × ((left : Office) × IsLeft office commands (length replies) left
    × AreOf after left)) ∥₁

-- this is what a crash may leave of two files that were closed, whose disk has returned what was
-- written to it: of both, or of the database file alone, since their log is removed
abbrev pub MayLeaveFiles : {D : Type 0} → Ghosts D → Files D → Image → Type 0
MayLeaveFiles g files image = AreClean g files.log files.db
    × ((left : Image) × outcomes g files.log files.db left
    × ((image ≡ left) ⊎ (image ≡ record left { log = [] })))

module _ {D : Type 0} {g : Ghosts D} where
  -- after the commands were carried out for this office: the replies are the office's, whatever a
  -- crash leaves is of the office after a beginning of the commands that holds every one that was
  -- replied to, and where all were, the tables represent the office after them
  pub record IsAfter (now : Held (FileStore D g)) (commands : List Command) (replies : List Reply)
      (office : Office) : Type 0 where
    pub replied : replies ≡ (fold (beginning_of (length replies) commands) office).1
    pub left : (db : Trees) → (file_state now).may_leave db
        → LeavesWhole db office commands (length replies)
    pub stands : length replies ≡ length commands → Stands (file_state now) (fold commands office).0

  -- a bureau that was opened on these files, which were found to be of this program's version, has
  -- carried out these commands and replied so, to all of them or to all but the last, of which the
  -- bureau is broken
  pub record HasDone (files : Image) (now : Held (FileStore D g)) (is_broken : Bool)
      (commands : List Command) (replies : List Reply) : Type 0 where
    pub opened : HasCleanDisk (file_state now) → IsAnswerFor files (Ok tt)
    pub all : (length replies ≡ length commands)
        ⊎ (IsTrue is_broken × (length commands ≡ length replies + 1))
    pub after : HasCleanDisk (file_state now) → (office : Office) → AreOf files office
        → ∥ IsAfter now commands replies office ∥₁

  -- a bureau that was opened on these files has carried out commands, and this is told of them and
  -- of the replies
  pub record HasWorkedFrom (files : Image) (now : Held (FileStore D g)) (is_broken : Bool)
      (Tells : List Command → List Reply → Type 0) : Type 0 where
    pub commands : List Command
    pub replies : List Reply
    pub told : Tells commands replies
    pub done : HasDone files now is_broken commands replies

  -- this is what a crash may leave of the store, whose disk has returned what was written to it
  abbrev pub MayLeave : FileStore D g → Image → Type 0
  MayLeave left image = IsClean (view left) × (store.state left).may_leave image

  -- this is what a crash may leave of the closed files
  abbrev pub MayLeaveClosed : Closed D g → Image → Type 0
  MayLeaveClosed closed = MayLeaveFiles g closed.files

-- a link from these files, which were found to be of this program's version, to those that may be
-- left: all of the commands, or all but the last, were replied to, and each of the files that may
-- be left is led to by them
pub record IsLink (files : Image) (may_leave : Image → Type 0) (commands : List Command)
    (replies : List Reply) : Type 0 where
  pub opened : (image : Image) → may_leave image → IsAnswerFor files (Ok tt)
  pub all : length commands ≤ length replies + 1
  pub leads : (image : Image) → may_leave image → LeadsBy commands replies files image

-- a round from these files to those that may be left: commands that are a link, the replies to
-- them, and what is told of both
pub record IsRound (files : Image) (may_leave : Image → Type 0)
    (Tells : List Command → List Reply → Type 0) : Type 0 where
  pub commands : List Command
  pub replies : List Reply
  pub told : Tells commands replies
  pub link : IsLink files may_leave commands replies
