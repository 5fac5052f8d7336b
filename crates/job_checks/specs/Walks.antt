-- all jobs of a bureau, taken one after the other
use Rattle.std.specs.Prelude.{List, Result, IsPermutation, map}
use Rattle.std.specs.List.{FoldsTo}
use Rattle.office.specs.Office.{Entry}
use Rattle.sqlite.specs.Order.{Row}
use Rattle.sqlite.specs.Tree.{Trees}
use Rattle.ledger_tables.specs.Tables.{cells}
use Rattle.job_checks.specs.Jobs.{IsFound}
use Rattle.job_checks.specs.Tables.{version_columns}
use Rattle.job_checks.specs.declared.reports.JobReport.{JobReport}
use Rattle.job_checks.specs.declared.walks.Walked.{Walked}

module _ {E : Type 0} (takes : E → E → Result Entry JobReport → Type 0) (db : Trees) where
  -- what came of the job of a row was taken
  abbrev pub TakesOne : E → Row → E → Type 0
  TakesOne old it new = (found : Result Entry JobReport) × IsFound db it found
      × takes old new found

  -- what came of the jobs of these rows was taken, in their order
  abbrev pub HasTaken : List Row → E → E → Type 0
  HasTaken rows old new = FoldsTo TakesOne old rows new

  -- what came of each job was taken, and the rows of `bureau` were read
  pub record HasWalked (old new : E) (walked : Walked) : Type 0 where
    pub version : IsPermutation (map version_columns (db 0)) walked.version.items
    pub taken : HasTaken (cells (db 1)) old new
