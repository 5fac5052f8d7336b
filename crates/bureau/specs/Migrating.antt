-- what is printed of a bureau's file that was migrated
use Rattle.std.specs.Prelude.{◌≡◌, ◌⊎◌, ◌==◌, ◌++◌, if◌then◌else◌, ℕ, List, codes, decimal, Result, Ok, Err}
use Rattle.sqlite_disk.specs.declared.Disk.{Ghosts}
use Rattle.ledger_files.specs.Unfinished.{fault_in}
use Rattle.ledger_files.specs.declared.migrating.Migrated.{Migrated}
use Rattle.ledger_files.specs.declared.unfinished.Unfinished.{Unfinished}
use Rattle.ledger_tables.specs.Schema.{own_version}
use Rattle.ledger_tables.specs.Versions.{IsNotOld}
use Rattle.ledger_tables.specs.declared.openings.OpenFault.{OpenFault}
use Rattle.bureau_work.specs.Outcomes.{IsLine}
use Rattle.bureau_work.specs.Work.{Bytes}
use Rattle.bureau_work.specs.declared.outcomes.Outcome.{Outcome}
use Rattle.bureau_work.specs.declared.outcomes.Outcome.TheVariants as outcome

-- the words for a file that was found to be of this version: from which version to which it was
-- raised, or which it is of
abbrev pub version_words : ℕ → List ℕ
version_words found = if found == own_version then codes "version " ++ decimal found
    else codes "version " ++ decimal found ++ codes " to " ++ decimal own_version

-- the outcome and the bytes on the output by what came of the migration: the line for the version
-- that was found, unless the output failed; or the fault, and then nothing is on the output
abbrev pub TellsMigrated : {D : Type 0} {g : Ghosts D} → Result (Migrated D g) (Unfinished D g)
    → Outcome → Bytes → Bytes → Type 0
TellsMigrated (Ok done) it old new =
    ((it ≡ outcome.Done) × IsLine (version_words done.version) old new) ⊎ (it ≡ outcome.Device)
TellsMigrated (Err left) it old new = (it ≡ outcome.Fault (fault_in left)) × (new ≡ old)

-- a file was migrated, to this outcome: the line for the version is on the output, or the output
-- failed; or a fault came, which is never that the file is of an earlier version
abbrev pub HasMigrated : Outcome → Bytes → Bytes → Type 0
HasMigrated it old new = ((found : ℕ) × (((it ≡ outcome.Done)
    × IsLine (version_words found) old new) ⊎ (it ≡ outcome.Device)))
    ⊎ ((fault : OpenFault) × IsNotOld fault × (it ≡ outcome.Fault fault) × (new ≡ old))
