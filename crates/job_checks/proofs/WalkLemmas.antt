-- Jobs that are taken one after the other, and what is reported of them.
use Rattle.std.proofs.Common.{◌≡◌, ◌++◌, List, [], ◌∷◌, Result, Ok, Err, refl, sym, ap, subst, ◌∙◌}
use Rattle.std.specs.List.{AllZip, FoldsTo}
use Rattle.office.specs.Office.{Entry}
use Rattle.sqlite.specs.Order.{Row}
use Rattle.sqlite.specs.Tree.{Trees}
use Rattle.job_checks.specs.Checks.{HasReported}
use Rattle.job_checks.specs.Jobs.{IsFound}
use Rattle.job_checks.specs.Outcomes.{IsAsItRan}
use Rattle.job_checks.specs.Reports.{IsReported}
use Rattle.job_checks.specs.Walks.{HasTaken}
use Rattle.job_checks.specs.declared.checks.Reports.{Reports}
use Rattle.job_checks.specs.declared.reports.JobReport.{JobReport}
use Rattle.job_checks.proofs.ReportLemmas.{append_assoc, append_none}

-- one thing more
pub folds_next : {P A : Type 0} (R : P → A → P → Type 0) (p q r : P) (xs : List A) (x : A) → FoldsTo R p xs q → R q x r → FoldsTo R p (xs ++ x ∷ []) r
folds_next R p q r [] x did step = (r, subst (λ b. R b x r) (sym did) step, refl)
folds_next R p q r (y ∷ xs) x did step = (did.0, did.1, folds_next R did.0 q r xs x did.2 step)

-- what is reported of a job
reported : (db : Trees) (it : Row) (found : Result Entry JobReport) (report : JobReport) → IsFound db it found → HasReported found report → IsReported db it report
reported db it (Ok e) report is tells = record { ran = λ so. record { entry = e; run = is.run; tells = tells }; each = λ other runs. subst IsAsItRan (sym tells.summary) tt }
reported db it (Err told) report is same = record { ran = λ so. absurd (is.told (subst (λ (r : JobReport). IsAsItRan r.outcome) same so)); each = λ e runs. absurd (is.other e runs) }

-- a job's report is added
abbrev pub AddsReport : Reports → Reports → Result Entry JobReport → Type 0
AddsReport old new found = (report : JobReport) × HasReported found report × (new.reports.items ≡ old.reports.items ++ report ∷ [])

-- so each row is reported, in its order
pub all_reported : (db : Trees) (rows : List Row) (old new : Reports) → HasTaken AddsReport db rows old new
    → (told : List JobReport) × (new.reports.items ≡ old.reports.items ++ told) × AllZip (IsReported db) rows told
all_reported db [] old new did = ([], ap (λ (r : Reports). r.reports.items) (sym did) ∙ sym (append_none old.reports.items), tt)
all_reported db (it ∷ rows) old new did =
    let mid = did.0 in
    let took = did.1 in
    let rest = all_reported db rows mid new did.2 in
    let report = took.2.0 in (
      report ∷ rest.0,
      rest.1 ∙ ap (λ l. l ++ rest.0) took.2.2 ∙ append_assoc old.reports.items report rest.0,
      (reported db it took.0 report took.1 took.2.1, rest.2),
    )
