use Rattle.std.proofs.Common.{◌≡◌, ◌++◌, flat_map, take}
use Rattle.job_checks.specs.Texts.{job_line}
use Rattle.job_checks.proofs.report_lines.push_jobs.Given as goal

abbrev pub invariant-loop-job : goal.invariant-loop-job
invariant-loop-job l = l.out.items ≡ l.fn.out.items ++ flat_map job_line (take l.job-index l.jobs)
