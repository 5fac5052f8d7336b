use Rattle.std.proofs.Common.{arith, refl, ext_get_or}
use Rattle.sqlite_value.specs.declared.value.Value.TheVariants.{Null}
use Rattle.job_archives.proofs.rows.is_same_row.Goals as goal

pub returns : goal.returns
returns c = (λ _. ext_get_or Null c.args.first.now c.args.second.now (omega arith) (λ k h. c.loop-at.invariant k (omega arith)), λ _. refl)
