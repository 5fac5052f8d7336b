-- a new bureau's file, the first link of every chain
use Rattle.std.specs.Prelude.{◌≡◌, []}
use Rattle.sqlite_disk.specs.declared.Disk.{Ghosts}
use Rattle.sqlite.specs.Recovery.{Image}
use Rattle.sqlite.specs.Tree.{Trees}
use Rattle.sqlite_trees.specs.Objects.{catalog_tree}
use Rattle.ledger_files.specs.Opening.{AreOf}
use Rattle.ledger_files.specs.Rounds.{MayLeaveClosed}
use Rattle.ledger_files.specs.declared.closed.Closed.{Closed}

-- neither of the two files has a byte
abbrev pub AreEmpty : Image → Type 0
AreEmpty files = files ≡ record { log = []; db = [] }

-- the database's list of its tables is empty
abbrev pub IsWithoutTables : Trees → Type 0
IsWithoutTables db = db catalog_tree ≡ []

-- if these files were empty, whatever a crash leaves of the closed ones represents the office
-- without jobs
abbrev pub IsFirst : {D : Type 0} {g : Ghosts D} → Image → Closed D g → Type 0
IsFirst files closed = AreEmpty files → (image : Image) → MayLeaveClosed closed image
    → AreOf image []
