use Rattle.std.proofs.Common.{◌≡◌, ◌≤◌, count_by, not, take}
use Rattle.job_checks.specs.Outcomes.{is_as_it_ran}
use Rattle.job_checks.specs.declared.reports.JobReport.{JobReport}
use Rattle.job_checks.proofs.reports.count_differing.Given as goal

abbrev pub invariant-loop-job : goal.invariant-loop-job
invariant-loop-job l = (l.count ≡ count_by (λ (it : JobReport). not (is_as_it_ran it.outcome)) (take l.job-index l.jobs)) × (l.count ≤ l.job-index)
