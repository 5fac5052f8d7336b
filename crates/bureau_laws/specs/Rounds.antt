-- what is left in the files after rounds of work on them and migrations of them
use Rattle.std.specs.Prelude.{◌≡◌, ℕ, List, [], ◌∷◌}
use Rattle.sqlite.specs.Files.{HoldsDatabase}
use Rattle.sqlite.specs.Recovery.{Image}
use Rattle.sqlite.specs.Tree.{Trees}
use Rattle.office.specs.Office.{Office, fold}
use Rattle.office.specs.declared.commands.Command.{Command}
use Rattle.ledger_tables.specs.Schema.{bureau_schema}
use Rattle.office_tables.specs.Standing.{LeftAs}
use Rattle.ledger.specs.WholeRows.{HaveWholeRows}
use Rattle.ledger_files.specs.Migrating.{AreOfVersion}
use Rattle.bureau_laws.specs.Headline.{Link, worked, migrated, refused, rounds_of, AreKept}

-- the two files hold a bureau's database of this office, and the rows of its jobs at a halt are
-- whole
abbrev pub AreWholeOf : Image → Office → Type 0
AreWholeOf files office = ∥ ((db : Trees) × HoldsDatabase files db × LeftAs db office
    × HaveWholeRows (record { schema = bureau_schema; trees = db }) office) ∥₁

-- the files after the last link, or the first files if there is no link
abbrev pub files_after : Image → List Link → Image
files_after first [] = first
files_after first (worked round ∷ links) = files_after round.files links
files_after first (migrated files ∷ links) = files_after files links
files_after first (refused files ∷ links) = files_after files links

-- the last files represent the office after a beginning of each round's commands, which holds every
-- one that was replied to, with the replies that the office gave; and the rows of its jobs at a
-- halt are whole
abbrev pub AreLeftWhole : Image → List Link → Office → Type 0
AreLeftWhole first links office =
    ∥ ((commands : List Command) × AreKept office (rounds_of links) commands
    × AreWholeOf (files_after first links) (fold commands office).0) ∥₁

-- no work was done, and the last files still represent the office, in this version
abbrev pub AreStillOf : ℕ → Image → List Link → Office → Type 0
AreStillOf version first links office =
    (rounds_of links ≡ []) × AreOfVersion version (files_after first links) office
