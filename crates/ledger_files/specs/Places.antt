-- what the program does by itself to a bureau's file and to names beside it
use Rattle.std.specs.Prelude.{◌≡◌, ◌≢◌, ℕ, List, codes, Result, Ok, Err, ⊤}
use Rattle.std.specs.declared.io.ErrorKind.{ErrorKind}
use Rattle.std.specs.declared.io.ErrorKind.TheVariants.{OutOfMemory, UnexpectedEof}
use Rattle.sqlite_disk.specs.declared.Disk.{Ghosts}
use Rattle.ledger_tables.specs.declared.openings.OpenFault.{OpenFault}
use Rattle.ledger_tables.specs.declared.openings.OpenFault.TheVariants.{NoMemory, NotABureau, Store}
use Rattle.ledger_files.specs.declared.kept.Kept.{Kept}
use Rattle.ledger_files.specs.declared.kept.Kept.TheVariants as kept

-- the files were reached, so that they are locked as long as this is kept
abbrev pub AreLocked : {D : Type 0} {g : Ghosts D} → Kept D g → Type 0
AreLocked (kept.Connection conn) = ⊤
AreLocked (kept.Left rest) = ⊤
AreLocked kept.Nothing = ⊥

-- the fault where a path or a file cannot be used, by the kind of the error
abbrev pub path_fault : ErrorKind → OpenFault
path_fault OutOfMemory = NoMemory
path_fault _ = Store

-- the first sixteen bytes of a database's file
abbrev pub beginning : List ℕ
beginning = codes "SQLite format 3\0"

-- the answer by the first sixteen bytes of a file, or by the kind of the error by which they could
-- not be read: a file that begins otherwise, or ends before, is no bureau's
abbrev pub BeginsAs : Result (List ℕ) ErrorKind → Result ⊤ OpenFault → Type 0
BeginsAs (Ok bytes) (Ok done) = bytes ≡ beginning
BeginsAs (Ok bytes) (Err fault) = (bytes ≢ beginning) × (fault ≡ NotABureau)
BeginsAs (Err UnexpectedEof) answer = answer ≡ Err NotABureau
BeginsAs (Err kind) answer = answer ≡ Err Store
