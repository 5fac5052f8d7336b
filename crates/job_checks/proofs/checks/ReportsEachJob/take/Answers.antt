use Rattle.std.proofs.Common.{rules}
use Rattle.job_checks.proofs.checks.ReportsEachJob.take.Goals as goal

pub returns : goal.returns
returns c = (c.in_ok-report.report, c.in_ok-report.ensures, search rules)
