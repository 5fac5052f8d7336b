-- What came of a job by the rows that were read of it.
use Rattle.std.proofs.Common.{◌≡◌, ℕ, List, Result, Ok, Err, IfOk, IfErr, ap, subst}
use Rattle.office.specs.Office.{Entry}
use Rattle.sqlite.specs.Order.{Row, column}
use Rattle.sqlite.specs.Tree.{Trees}
use Rattle.ledger_tables.specs.Tables.{job_row}
use Rattle.office_tables.specs.Standing.{named}
use Rattle.job_checks.specs.Jobs.{HasRun, IsFound, IsNameOf, RunsIn}
use Rattle.job_checks.specs.Outcomes.{IsAsItRan}
use Rattle.job_checks.specs.Tables.{AreRowsOfJob, TableRows}
use Rattle.job_checks.specs.declared.reports.JobReport.{JobReport}
use Rattle.job_checks.proofs.JobLemmas.{named_by}
use Rattle.job_checks.proofs.OneJob.{kept_again}

module _ (db : Trees) (it : Row) (customer : List ℕ) (number : ℕ) (is : IsNameOf it customer number) (rows : TableRows) (read : AreRowsOfJob db customer number rows) where
  -- these are the rows of the entry's job
  own : (e : Entry) → (it ≡ job_row (named e)) → AreRowsOfJob db e.customer e.number rows
  own e row =
      let key = named_by it e customer number is row in
      subst (λ (n : ℕ). AreRowsOfJob db e.customer n rows) key.1 (subst (λ (who : List ℕ). AreRowsOfJob db who number rows) key.0 read)

  runs : (e : Entry) → HasRun rows it e → RunsIn db it e
  runs e has = record { named = has.named; row = has.run.row; kept = λ others are. kept_again db e rows others (own e has.run.row) are has.run.kept }

  has_run : (e : Entry) → RunsIn db it e → HasRun rows it e
  has_run e runs = record { named = runs.named; run = record { row = runs.row; kept = runs.kept rows (own e runs.row) } }

  pub found_by : (found : Result Entry JobReport) → IfOk found (HasRun rows it) → IfErr found (λ report. ¬ IsAsItRan report.outcome) → IfErr found (λ report. (e : Entry) → ¬ HasRun rows it e) → IsFound db it found
  found_by (Ok e) run told other = record { run = runs e run; told = tt; other = tt }
  found_by (Err report) run told other = record { run = tt; told = told; other = λ e has. other e (has_run e has) }

-- a row without a name that a job may have is that of no job
pub found_none : (db : Trees) (it : Row) (report : JobReport) → ¬ IsAsItRan report.outcome → ((customer : List ℕ) (number : ℕ) → ¬ IsNameOf it customer number) → IsFound db it (Err report)
found_none db it report told none = record {
  run = tt;
  told = told;
  other = λ e runs. none e.customer e.number (record {
    text = ap (λ (r : Row). column r 0) runs.row;
    int = ap (λ (r : Row). column r 1) runs.row;
    lawful_text = runs.named.customer;
    lawful_int = runs.named.number;
  });
}
