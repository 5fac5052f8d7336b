use Rattle.std.proofs.Common.{All, take}
use Rattle.job_checks.specs.Outcomes.{IsAsItRan}
use Rattle.job_checks.specs.declared.reports.JobReport.{JobReport}
use Rattle.job_checks.proofs.reports.are_as_they_ran.Given as goal

abbrev pub invariant-loop-job : goal.invariant-loop-job
invariant-loop-job l = All (λ (it : JobReport). IsAsItRan it.outcome) (take l.job-index l.jobs)
