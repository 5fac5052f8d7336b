use Rattle.std.proofs.Common.{refl, arith}
use Rattle.job_checks.proofs.RowLemmas.{same_row}
use Rattle.job_checks.proofs.cells.first_other.Goals as goal

pub returns-then-column_count-wanted-clause-none : goal.returns-then-column_count-wanted-clause-none
returns-then-column_count-wanted-clause-none c = (λ _. same_row c.args.row.now c.args.wanted.now (omega arith) (λ k d less. c.loop-at.invariant k d (omega arith)), λ _. refl)
