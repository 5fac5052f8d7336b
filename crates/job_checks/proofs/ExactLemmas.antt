-- A report is exact for what a connection saw.
use Rattle.std.proofs.Common.{◌≡◌, ◌↔◌, ◌++◌, List, [], ◌∷◌, drop, get_or, map, suc, All, Option, Result, Ok, Err, IfOk, IsNone, IsOkAnd, refl, sym, ap, subst, ◌∙◌, arith}
use Rattle.std.specs.List.{AllByRecursion, AllZip}
use Rattle.std.specs.List.Sorted.{IsPermutation}
use Rattle.sqlite_trees.proofs.ListLemmas.{all-get_or}
use Rattle.office.specs.Office.{Office}
use Rattle.sqlite.specs.Effect.{Database}
use Rattle.sqlite.specs.Order.{Row}
use Rattle.sqlite.specs.Tree.{Trees}
use Rattle.ledger_tables.specs.Schema.{bureau_schema}
use Rattle.ledger_tables.specs.Tables.{cells}
use Rattle.ledger_tables.proofs.Stepping.{if_ok_then}
use Rattle.ledger_tables.specs.declared.faults.Fault.{Fault}
use Rattle.job_checks.specs.Checks.{IsExact, KeepsTold}
use Rattle.job_checks.specs.Kept.{version_row, AreKept, AreNamedApart, IsKept}
use Rattle.job_checks.specs.Outcomes.{IsAsItRan}
use Rattle.job_checks.specs.Reports.{AreNamed, HasNoOtherRows, IsReported, Tells}
use Rattle.job_checks.specs.Walks.{HasWalked}
use Rattle.job_checks.specs.declared.checks.Reports.{Reports}
use Rattle.job_checks.specs.Tables.{version_columns, AreRowsOf, HasRows, IsBureaus, WholeTables}
use Rattle.job_checks.specs.declared.reports.JobReport.{JobReport}
use Rattle.job_checks.specs.declared.reports.Report.{Report}
use Rattle.job_checks.specs.declared.schemas.SchemaDifference.{SchemaDifference}
use Rattle.job_checks.specs.declared.walks.Walked.{Walked}
use Rattle.job_checks.proofs.KeptRows.{kept_by}
use Rattle.job_checks.proofs.NameLaw.{jobs_apart}
use Rattle.job_checks.proofs.OfficeLemmas.{names_distinct, row_in_jobs}
use Rattle.job_checks.proofs.OneJob.{kept_in_all, kept_in_one}
use Rattle.job_checks.proofs.OwnerLaw.{all_are_owned}
use Rattle.job_checks.proofs.StandingRows.{stands_for}
use Rattle.job_checks.proofs.WalkLemmas.{all_reported, AddsReport}
use Rattle.job_checks.proofs.WholeRows.{whole, whole_has}

-- some rows of `jobs` are those of these entries
record AreOf (all : WholeTables) (rows : List Row) (reports : List JobReport) : Type 0 where
  office : Office
  jobs : rows ≡ map row_in_jobs office
  named : AreNamed office
  kept : AllByRecursion (IsKept all.rows) office
  tells : AllZip Tells reports office

module _ (db : Trees) (all : WholeTables) (read : AreRowsOf db all) where
  are_of : (rows : List Row) (reports : List JobReport) → AllZip (IsReported db) rows reports → All (λ (it : JobReport). IsAsItRan it.outcome) reports → AreOf all rows reports
  are_of [] [] told ran = record { office = []; jobs = refl; named = tt; kept = tt; tells = tt }
  are_of [] (r ∷ reports) told ran = absurd told
  are_of (row ∷ later) [] told ran = absurd told
  are_of (row ∷ later) (r ∷ reports) told ran =
      let it = told.0.ran (ran 0 r (omega arith)) in
      let more = are_of later reports told.1 (λ k d less. ran (suc k) d (omega (arith, less))) in
      record {
        office = it.entry ∷ more.office;
        jobs = ap (λ x. x ∷ later) it.run.row ∙ ap (λ xs. row_in_jobs it.entry ∷ xs) more.jobs;
        named = (it.run.named, more.named);
        kept = (kept_in_all db all read it.entry it.run.kept, more.kept);
        tells = (it.tells, more.tells);
      }

  -- the rows of an office are reported as they ran
  as_they_ran : (rows : List Row) (reports : List JobReport) (office : Office) → AllZip (IsReported db) rows reports → rows ≡ map row_in_jobs office → AreNamed office → AllByRecursion (IsKept all.rows) office
      → AllByRecursion (λ (it : JobReport). IsAsItRan it.outcome) reports
  as_they_ran [] [] office told is named kept = tt
  as_they_ran [] (r ∷ reports) office told is named kept = absurd told
  as_they_ran (row ∷ later) [] office told is named kept = absurd told
  as_they_ran (row ∷ later) (r ∷ reports) [] told is named kept = absurd (let none = is in cc)
  as_they_ran (row ∷ later) (r ∷ reports) (e ∷ office) told is named kept =
      let here : row ≡ row_in_jobs e = ap (λ (xs : List Row). get_or xs 0 []) is in
      let others : later ≡ map row_in_jobs office = ap (drop 1) is in
      (told.0.each e (record { named = named.0; row = here; kept = kept_in_one db all read e kept.0 }), as_they_ran later reports office told.1 others named.1 kept.1)

-- what was read and reported of a bureau's database
record IsSeen (db : Database) (it : Walked) (report : Report) : Type 0 where
  bureaus : IsBureaus db
  version : IsPermutation (map version_columns (db.trees 0)) it.version.items
  told : AllZip (IsReported db.trees) (cells (db.trees 1)) report.jobs.items

module _ (db : Database) (it : Walked) (report : Report) (seen : IsSeen db it report) (orphans : (report.orphans.items ≡ []) ↔ (it.version.items ≡ version_row)) where
  abbrev all : WholeTables
  all = whole db.trees it.version.items

  has : HasRows db all
  has = record { bureaus = seen.bureaus; rows = whole_has db.trees it.version.items seen.version }

  keeps : HasNoOtherRows report → KeepsTold all report
  keeps none =
      let are = are_of db.trees all has.rows all.jobs report.jobs.items seen.told none.jobs in
      record {
        office = are.office;
        named = are.named;
        kept = record {
          version = orphans.0 none.orphans;
          jobs = are.jobs;
          distinct = names_distinct are.office (subst AreNamedApart are.jobs (jobs_apart db all has));
          kept = are.kept;
          owned = all_are_owned db all has;
        };
        tells = are.tells;
      }

  tells_none : (office : Office) → AreNamed office → AreKept all office → HasNoOtherRows report
  tells_none office named kept =
      let ran = as_they_ran db.trees all has.rows all.jobs report.jobs.items office seen.told kept.jobs named kept.kept in
      record {
        jobs = λ k d less. all-get_or (λ (it : JobReport). IsAsItRan it.outcome) report.jobs.items k d ran less;
        orphans = orphans.1 kept.version;
      }

exact : (db : Database) (it : Walked) (other : Option SchemaDifference) (report : Report) → (db.schema ≡ bureau_schema → IsSeen db it report) → IsNone other ↔ (db.schema ≡ bureau_schema)
    → (report.orphans.items ≡ []) ↔ (it.version.items ≡ version_row) → report.schema ≡ other → IsExact db report
exact db it other report seen none orphans same = record {
  sound = λ agrees.
      let saw = seen (none.0 (subst (λ (o : Option SchemaDifference). IsNone o) same agrees.schema)) in
      let has' = has db it report saw orphans in
      stands_for db (all db it report saw orphans) report has'.bureaus has'.rows (keeps db it report saw orphans agrees.rows);
  complete = λ office named rows.
      let saw = seen rows.tables.schema in
      record {
        schema = subst (λ (o : Option SchemaDifference). IsNone o) (sym same) (none.1 rows.tables.schema);
        rows = tells_none db it report saw orphans office named (kept_by db (all db it report saw orphans) office (has db it report saw orphans) rows);
      };
}

pub is_exact : (db : Database) (walked : Result Walked Fault) (schema : Result (Option SchemaDifference) Fault) (report : Report)
    → IfOk walked (λ it. db.schema ≡ bureau_schema → IsBureaus db × IsPermutation (map version_columns (db.trees 0)) it.version.items × AllZip (IsReported db.trees) (cells (db.trees 1)) report.jobs.items)
    → IfOk schema (λ it. IsNone it ↔ (db.schema ≡ bureau_schema))
    → IsOkAnd walked (λ it. (report.orphans.items ≡ []) ↔ (it.version.items ≡ version_row)) → IsOkAnd schema (λ it. report.schema ≡ it) → IsExact db report
is_exact db (Ok it) (Ok other) report saw none orphans same = exact db it other report (λ ours. let it = saw ours in record { bureaus = it.0; version = it.1; told = it.2 }) none orphans same
is_exact db (Ok it) (Err fault) report saw none orphans same = absurd same
is_exact db (Err fault) schema report saw none orphans same = absurd orphans

-- the report of a check is exact
pub checked : (db : Database) (walked : Result Walked Fault) (schema : Result (Option SchemaDifference) Fault) (made : Result Report Fault) (old new : Reports)
    → IfOk walked (λ it. db.schema ≡ bureau_schema → IsBureaus db × HasWalked AddsReport db.trees old new it) → IfOk schema (λ it. IsNone it ↔ (db.schema ≡ bureau_schema)) → old.reports.items ≡ []
    → IfOk made (λ report. IsOkAnd walked (λ it. (report.orphans.items ≡ []) ↔ (it.version.items ≡ version_row))) → IfOk made (λ report. IsOkAnd schema (λ it. report.schema ≡ it)) → IfOk made (λ report. report.jobs.items ≡ new.reports.items)
    → IfOk made (IsExact db)
checked db walked schema (Err e) old new found none empty orphans same jobs = tt
checked db walked schema (Ok report) old new found none empty orphans same jobs =
    is_exact db walked schema report
    (if_ok_then walked _ _ (λ it saw ours.
    let all = saw ours in
    let told = all_reported db.trees (cells (db.trees 1)) old new all.1.taken in
    (all.0, all.1.version, subst (AllZip (IsReported db.trees) (cells (db.trees 1))) (sym (jobs ∙ told.1 ∙ ap (λ xs. xs ++ told.0) empty)) told.2)) found)
    none orphans same
