-- A migration that was closed, and one that stopped.
use Rattle.std.proofs.Common.{◌⊎◌, inl, inr, ◌≤◌, ℕ, arith}
use Rattle.std.proofs.Math.Logic.{∥∥₁_elim, ∥∥₁_map}
use Rattle.sqlite_disk.specs.declared.Disk.{Ghosts}
use Rattle.sqlite_disk.specs.declared.Files.{Files}
use Rattle.sqlite_store.specs.declared.store.FileStore.{FileStore}
use Rattle.sqlite.specs.FileStore as store
use Rattle.sqlite.specs.FileStore.{view}
use Rattle.sqlite.specs.Files.{HoldsDatabase, file_state}
use Rattle.sqlite.specs.Held.{Held}
use Rattle.sqlite.specs.Recovery.{Image}
use Rattle.sqlite.specs.State.{HasCleanDisk}
use Rattle.sqlite.specs.Tree.{Trees}
use Rattle.sqlite.specs.View.{IsClean, doubt}
use Rattle.sqlite.specs.WalFiles.{outcomes}
use Rattle.sqlite_wal.specs.Reads.{AreClean}
use Rattle.office.specs.Office.{Office}
use Rattle.ledger.specs.Older.{LeftOf}
use Rattle.office_tables.specs.Standing.{LeftAs, Stands}
use Rattle.ledger_files.specs.Closing.{StandsAlone}
use Rattle.ledger_files.specs.Migrating.{AreOfVersion, IsMidway, IsMigrated, IsMigration}
use Rattle.ledger_files.specs.Opening.{AreOf}
use Rattle.ledger_files.specs.Rounds.{HoldsOneOf, MayLeave, MayLeaveFiles}
use Rattle.ledger_files.proofs.ClosingLemmas.{closed_are_of}

module _ {D : Type 0} {g : Ghosts D} (conn : Held (FileStore D g)) where
  -- the files that were closed are of the same office
  pub closed_migration : (files : Files D) → (AreClean g files.log files.db → HasCleanDisk (file_state conn))
      → (AreClean g files.log files.db → (o : Office) → Stands (file_state conn) o → (left : Image) → outcomes g files.log files.db left → StandsAlone left o)
      → (first : Image) (found : ℕ) → IsMigrated first found conn → IsMigration first (MayLeaveFiles g files)
  closed_migration files cleaned alone first found it image may version o are =
      ∥∥₁_map (it (cleaned may.0) version o are) (λ is.
      let r : AreOfVersion version image o ⊎ AreOf image o = inr (closed_are_of image may.1.0 o may.1.2 (alone may.0 o is.1 may.1.0 may.1.1)) in r)

  -- what a stop leaves is of the same office
  pub left_migration : (left : FileStore D g) → doubt (file_state conn).is_clean ≤ doubt (view left).is_clean
      → (IsClean (view left) → (image : Image) → (store.state left).may_leave image → HoldsOneOf (view left).has_sums image (file_state conn).may_leave)
      → (first : Image) → IsMidway first conn → IsMigration first (MayLeave left)
  left_migration left late holds first it image may version o are =
      let was : HasCleanDisk (file_state conn) = omega (arith, late, may.0) in
      ∥∥₁_elim (it was version o are) squash₁ (λ all.
      ∥∥₁_map (holds may.0 image may.1) (λ one.
      let r : AreOfVersion version image o ⊎ AreOf image o = elim (all one.0 one.1) [
        | inl same ↦ inl ∣ (let f : (db : Trees) × HoldsDatabase image db × LeftOf version db o = (one.0, one.2, same) in f) ∣₁
        | inr own ↦ inr ∣ (let f : (db : Trees) × HoldsDatabase image db × LeftAs db o = (one.0, one.2, own) in f) ∣₁
      ] in r))
