-- Files that were closed, and why a close fails.
use Rattle.std.proofs.Common.{◌≡◌, ◌⊎◌, inl, inr, [], Bool, Result, Ok, Err, sym, subst}
use Rattle.std.specs.Prelude.{IfErr}
use Rattle.std.proofs.Math.Logic.{∥∥₁_map}
use Rattle.sqlite_disk.specs.declared.Disk.{Ghosts}
use Rattle.sqlite_store.specs.declared.store.FileStore.{FileStore}
use Rattle.sqlite.specs.FileStore.{view}
use Rattle.sqlite.specs.Files.{HoldsDatabase}
use Rattle.sqlite.specs.Held.{Held}
use Rattle.sqlite.specs.Recovery.{Image}
use Rattle.sqlite.specs.Tree.{Trees}
use Rattle.sqlite.specs.View.{IsClean}
use Rattle.office.specs.Office.{Office}
use Rattle.office_tables.specs.Standing.{LeftAs}
use Rattle.ledger_tables.specs.declared.openings.OpenFault.{OpenFault}
use Rattle.ledger_files.specs.Closing.{HindersClosing, HindersEnding, StandsAlone}
use Rattle.ledger_files.specs.Opening.{AreOf}

-- with their log or without it, files that were closed are of the office
pub closed_are_of : (image left : Image) (office : Office) → (image ≡ left) ⊎ (image ≡ record left { log = [] }) → StandsAlone left office → AreOf image office
closed_are_of image left office is stands = ∥∥₁_map stands (λ it. let r : (db : Trees) × HoldsDatabase image db × LeftAs db office = (
  it.0,
  elim is [
    | inl same ↦ subst (λ i. HoldsDatabase i it.0) (sym same) it.1
    | inr alone ↦ subst (λ i. HoldsDatabase i it.0) (sym alone) it.2
  ],
  it.3,
) in r)

-- what hinders the closing hinders the end of the work
pub ends_hindered : {X D : Type 0} {g : Ghosts D} (is_broken : Bool) (conn : Held (FileStore D g)) (result : Result X (OpenFault × FileStore D g))
    → IfErr result (λ e. IsClean (view e.1) → HindersClosing conn e.1 e.0) → IfErr result (λ e. IsClean (view e.1) → HindersEnding is_broken conn e.1 e.0)
ends_hindered is_broken conn (Ok files) cause = tt
ends_hindered is_broken conn (Err left) cause = λ clean. inr (cause clean)
