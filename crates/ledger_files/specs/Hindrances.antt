-- what hinders the use of a bureau's file
use Rattle.std.specs.Prelude.{◌≡◌, ⊤}
use Rattle.ledger_tables.specs.declared.openings.OpenFault.{OpenFault}
use Rattle.ledger_tables.specs.declared.openings.OpenFault.TheVariants as opening
use Rattle.ledger_files.specs.declared.hindrances.Hindrance.{Hindrance}
use Rattle.ledger_files.specs.declared.hindrances.Hindrance.TheVariants as hindrance

-- it hinders where a file cannot be reached, is damaged, or fails
abbrev pub IsOfUnusedFile : Hindrance → Type 0
IsOfUnusedFile hindrance.NoMemory = ⊥
IsOfUnusedFile hindrance.Empty = ⊥
IsOfUnusedFile hindrance.NoDatabase = ⊥
IsOfUnusedFile hindrance.Foreign = ⊥
IsOfUnusedFile (hindrance.Old version) = ⊥
IsOfUnusedFile other = ⊤

-- it hinders where a file is none of a bureau's
abbrev pub IsOfForeignFile : Hindrance → Type 0
IsOfForeignFile hindrance.Empty = ⊤
IsOfForeignFile hindrance.NoDatabase = ⊤
IsOfForeignFile hindrance.Foreign = ⊤
IsOfForeignFile other = ⊥

-- it hinders where a file failed with this fault
abbrev pub IsHindranceOf : OpenFault → Hindrance → Type 0
IsHindranceOf opening.NoMemory found = found ≡ hindrance.NoMemory
IsHindranceOf opening.Store found = IsOfUnusedFile found
IsHindranceOf opening.NotABureau found = IsOfForeignFile found
IsHindranceOf (opening.Old version) found = found ≡ hindrance.Old version
