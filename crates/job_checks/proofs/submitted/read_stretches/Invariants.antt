use Rattle.std.proofs.Common.{◌≡◌, List}
use Rattle.office.specs.Jobs.{AreStretches}
use Rattle.office.specs.declared.stretches.Stretch.{Stretch}
use Rattle.job_checks.specs.Kept.{rows_of_stretches}
use Rattle.job_checks.specs.Tables.{rows_of}
use Rattle.job_checks.proofs.StretchLemmas.{HasRead}
use Rattle.job_checks.proofs.submitted.read_stretches.Given as goal

abbrev pub invariant-loop-row : goal.invariant-loop-row
invariant-loop-row l = (xs : List Stretch) → AreStretches xs → rows_of l.name.customer.now l.name.number l.rows ≡ rows_of_stretches l.name.customer.now l.name.number xs → HasRead l.name.customer.now l.name.number l.rows xs l.stretches.items l.row-index
