-- files that hold a bureau's database of any version, and what a migration makes of them
use Rattle.std.specs.Prelude.{◌≡◌, ◌≢◌, ◌⊎◌, ◌∷◌, [], pos, ℕ, Bool, Err, ⊤}
use Rattle.sqlite_disk.specs.declared.Disk.{Ghosts}
use Rattle.sqlite_store.specs.declared.store.FileStore.{FileStore}
use Rattle.sqlite.specs.Effect.{Database, IsDatabase}
use Rattle.sqlite.specs.Files.{HoldsDatabase, file_state}
use Rattle.sqlite.specs.Held.{Held}
use Rattle.sqlite.specs.Recovery.{Image}
use Rattle.sqlite.specs.State.{HasCleanDisk}
use Rattle.sqlite.specs.Tree.{Trees}
use Rattle.sqlite.specs.declared.types.Value.TheVariants.{Int}
use Rattle.ledger_tables.specs.Versions.{HasVersions, IsBureaus, IsNotOld, versions_in}
use Rattle.ledger_tables.specs.declared.openings.OpenFault.{OpenFault}
use Rattle.ledger_tables.specs.declared.openings.OpenFault.TheVariants.{NoMemory, NotABureau}
use Rattle.office.specs.Office.{Office}
use Rattle.ledger.specs.Older.{LeftOf, StandsOf}
use Rattle.office_tables.specs.Standing.{LeftAs, Stands}
use Rattle.ledger_files.specs.Opening.{AreOf, AreStoredWith, HoldsOnly, IsAnswerFor, IsToldOf, LeftHolds}
use Rattle.ledger_files.specs.declared.kept.Kept.{Kept}
use Rattle.ledger_files.specs.declared.kept.Kept.TheVariants as kept

-- the two files hold a bureau's database of this version that represents this office
abbrev pub AreOfVersion : ℕ → Image → Office → Type 0
AreOfVersion version image office =
    ∥ ((db : Trees) × HoldsDatabase image db × LeftOf version db office) ∥₁

-- from files to files: of whatever version the first are, the second represent the same office, in
-- that version or in this program's
abbrev pub MigratesTo : Image → Image → Type 0
MigratesTo before after = (version : ℕ) (office : Office) → AreOfVersion version before office
    → ∥ (AreOfVersion version after office ⊎ AreOf after office) ∥₁

-- a migration from these files to those that may be left
abbrev pub IsMigration : Image → (Image → Type 0) → Type 0
IsMigration files may_leave = (image : Image) → may_leave image → MigratesTo files image

-- the database can be asked for its version; and if its schema is a bureau's, it holds this one
-- alone
abbrev pub IsVersionIn : Database → ℕ → Type 0
IsVersionIn db found = HasVersions db
    × (IsBureaus db.schema → versions_in db ≡ Int (pos found) ∷ [])

-- this is the version of whatever database the two files hold
abbrev pub IsVersionOf : Image → ℕ → Type 0
IsVersionOf image found =
    (db : Database) → HoldsDatabase image db.trees → IsDatabase db → IsVersionIn db found

module _ {D : Type 0} {g : Ghosts D} where
  -- if the files were of an office, in any version, that is the version that was found, and the
  -- connection now represents the office in this program's version
  abbrev pub IsMigrated : Image → ℕ → Held (FileStore D g) → Type 0
  IsMigrated files found conn = HasCleanDisk (file_state conn) → (version : ℕ) (office : Office)
      → AreOfVersion version files office
      → ∥ ((found ≡ version) × Stands (file_state conn) office) ∥₁

  -- if the files were of an office, in any version, a crash leaves that office, in that version or
  -- in this program's
  abbrev pub IsMidway : Image → Held (FileStore D g) → Type 0
  IsMidway files conn = HasCleanDisk (file_state conn) → (version : ℕ) (office : Office)
      → AreOfVersion version files office
      → ∥ ((db : Trees) → (file_state conn).may_leave db
      → LeftOf version db office ⊎ LeftAs db office) ∥₁

  -- what is handed back of a migration that failed still represents the office, in its version, but
  -- after fault 2 a crash may leave it in this program's
  abbrev pub KeptKeeps : Bool → ℕ → OpenFault → Kept D g → Office → Type 0
  KeptKeeps has_sums version fault (kept.Connection conn) office =
      ∥ ((fault ≡ NoMemory → StandsOf version (file_state conn) office)
      × ((db : Trees) → (file_state conn).may_leave db
      → LeftOf version db office ⊎ LeftAs db office)) ∥₁
  KeptKeeps has_sums version fault (kept.Left rest) office =
      LeftHolds has_sums rest (λ db. LeftOf version db office)
  KeptKeeps has_sums version fault kept.Nothing office = ⊤

  -- what is handed back of files that are no bureau's still holds this database alone
  abbrev pub KeptAlone : Kept D g → Trees → Type 0
  KeptAlone (kept.Connection conn) db = HoldsOnly (file_state conn) db
  KeptAlone rest db = ⊤

  -- where files could not be opened, or not be reached, the fault is told right of the error
  abbrev pub IsToldUnopened : Image → OpenFault → Kept D g → Type 0
  IsToldUnopened image fault (kept.Connection conn) = ⊤
  IsToldUnopened image fault rest = IsToldOf image fault rest

  -- the files of this image were not migrated, for this fault, and this is handed back
  pub record AreNotMigrated (image : Image) (fault : OpenFault) (rest : Kept D g) : Type 0 where
    -- the fault is never that the files are of an old version, and files of an office, in any
    -- version, are no others
    pub not_old : IsNotOld fault
    pub known : (version : ℕ) (office : Office) → AreOfVersion version image office
        → fault ≢ NotABureau
    pub keeps : (has_sums : Bool) (version : ℕ) (office : Office)
        → AreStoredWith has_sums image (λ db. LeftOf version db office)
        → KeptKeeps has_sums version fault rest office
    pub told : IsToldUnopened image fault rest
    -- the fault is right for whatever the files hold
    pub answer : IsAnswerFor image (Err fault)
    -- what the files hold is not changed by fault 50
    pub untouched : fault ≡ NotABureau → (db : Trees) → HoldsDatabase image db
        → KeptAlone rest db
