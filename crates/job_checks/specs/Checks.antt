-- what the check of all tables finds
use Rattle.std.specs.Prelude.{◌≡◌, Result, Ok, Err, IfOk}
use Rattle.office.specs.Office.{Entry, Office}
use Rattle.sqlite.specs.Effect.{Database}
use Rattle.sqlite.specs.Held.{Held, state}
use Rattle.sqlite.specs.View.{IsClean}
use Rattle.sqlite_trees.specs.declared.store.Store.{Ghosts}
use Rattle.std.specs.List.{AllZip}
use Rattle.office_tables.specs.Standing.{Rows}
use Rattle.ledger_tables.specs.declared.faults.Fault.{Fault}
use Rattle.job_checks.specs.Kept.{AreKept}
use Rattle.job_checks.specs.Reports.{AreNamed, HasNoDifference, StandsFor, Tells}
use Rattle.job_checks.specs.Tables.{WholeTables}
use Rattle.job_checks.specs.declared.reports.JobReport.{JobReport}
use Rattle.job_checks.specs.declared.reports.Report.{Report}

-- the rows of all tables are those of an office whose jobs have names that jobs may have, and the
-- report tells of each of its jobs
pub record KeepsTold (all : WholeTables) (report : Report) : Type 0 where
  pub office : Office
  pub named : AreNamed office
  pub kept : AreKept all office
  pub tells : AllZip Tells report.jobs.items office

-- the report tells of the job that came of a run, or is what was told of it
abbrev pub HasReported : Result Entry JobReport → JobReport → Type 0
HasReported (Ok e) report = Tells report e
HasReported (Err told) report = report ≡ told

-- the report tells no difference exactly where the tables stand for an office whose jobs have names
-- that jobs may have, and then it tells of each of its jobs
pub record IsExact (db : Database) (report : Report) : Type 0 where
  pub sound : HasNoDifference report → StandsFor db report
  pub complete : (office : Office) → AreNamed office → Rows db office → HasNoDifference report

module _ {S : Type 0} (g : Ghosts S) where
  -- on Ok, the report is exact for the schema and the tables that the connection saw
  abbrev pub FindsAlone : Held S → S → Result Report Fault → Type 0
  FindsAlone conn store result = IsClean (g.view store)
      → IfOk result (IsExact (state g conn).now)
