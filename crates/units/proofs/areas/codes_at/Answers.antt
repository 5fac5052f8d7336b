use Rattle.std.proofs.Common.{arith}
use Rattle.units.proofs.AreaLemmas.{read_none, read_step}
use Rattle.units.proofs.areas.codes_at.Goals as goal

pub loop-place-init : goal.loop-place-init
loop-place-init g c = read_none _ _ g.row.N c.blank-codes.result

pub loop-place-preserved : goal.loop-place-preserved
loop-place-preserved g c = read_step _ _ _ _ _ _ (omega arith) (omega arith) c.get.ensures c.loop-place.invariant
