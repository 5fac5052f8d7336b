use Rattle.std.proofs.Common.{◌≡◌, drop}
use Rattle.job_checks.specs.Tables.{rows_of}
use Rattle.job_checks.proofs.following.next_of.Given as goal

abbrev pub invariant-loop-at : goal.invariant-loop-at
invariant-loop-at l = rows_of l.name.customer.now l.name.number l.rows ≡ rows_of l.name.customer.now l.name.number (drop l.at l.rows)
