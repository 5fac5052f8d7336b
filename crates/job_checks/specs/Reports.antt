-- what a report tells
use Rattle.std.specs.Prelude.{◌≡◌, pos, All, [], IsNone}
use Rattle.std.specs.List.{AllByRecursion, AllZip}
use Rattle.office.specs.Kept.{kept_of, summary_of}
use Rattle.office.specs.Office.{Entry, Office}
use Rattle.sqlite.specs.Effect.{Database}
use Rattle.sqlite.specs.Order.{Row}
use Rattle.sqlite.specs.Tree.{Trees}
use Rattle.office_tables.specs.Standing.{Rows}
use Rattle.job_checks.specs.Jobs.{RunsIn}
use Rattle.job_checks.specs.Kept.{IsNamed}
use Rattle.job_checks.specs.Outcomes.{IsAsItRan}
use Rattle.job_checks.specs.declared.reports.JobReport.{JobReport}
use Rattle.job_checks.specs.declared.reports.Outcome.TheVariants.{AsItRan}
use Rattle.job_checks.specs.declared.reports.Report.{Report}

-- no row differs
pub record HasNoOtherRows (report : Report) : Type 0 where
  pub jobs : All (λ it. IsAsItRan it.outcome) report.jobs.items
  pub orphans : report.orphans.items ≡ []

-- nothing differs: neither the schema nor a row
pub record HasNoDifference (report : Report) : Type 0 where
  pub schema : IsNone report.schema
  pub rows : HasNoOtherRows report

-- the report tells this entry's name and the summary of its job
pub record Tells (report : JobReport) (e : Entry) : Type 0 where
  pub customer : report.customer.items ≡ e.customer
  pub number : report.number ≡ pos e.number
  pub summary : report.outcome ≡ AsItRan (summary_of (kept_of e.job))

-- the row is that of the job of an entry that the report tells
pub record IsRun (db : Trees) (it : Row) (report : JobReport) : Type 0 where
  pub entry : Entry
  pub run : RunsIn db it entry
  pub tells : Tells report entry

-- a row is reported as it ran exactly if it is that of a job, and then the report tells of this job
pub record IsReported (db : Trees) (it : Row) (report : JobReport) : Type 0 where
  pub ran : IsAsItRan report.outcome → IsRun db it report
  pub each : (e : Entry) → RunsIn db it e → IsAsItRan report.outcome

-- each job of an office has a name that a job may have
abbrev pub AreNamed : Office → Type 0
AreNamed = AllByRecursion IsNamed

-- the tables stand for an office whose jobs have names that jobs may have, and the report tells of
-- each of its jobs
pub record StandsFor (db : Database) (report : Report) : Type 0 where
  pub office : Office
  pub named : AreNamed office
  pub rows : Rows db office
  pub tells : AllZip Tells report.jobs.items office
