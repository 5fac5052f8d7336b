use Rattle.job_checks.proofs.HandedRows.{unchanged_still}
use Rattle.job_checks.proofs.jobs.run_job.Goals as goal

pub returns-in_ok-unnamed-in-Err-clause-read : goal.returns-in_ok-unnamed-in-Err-clause-read
returns-in_ok-unnamed-in-Err-clause-read g c clean opened ours = (unchanged_still _ opened, λ bureaus. c.in_ok-unnamed-in-Err.ensures _)
