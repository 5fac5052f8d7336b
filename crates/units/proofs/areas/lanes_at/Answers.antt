use Rattle.std.proofs.Common.{arith}
use Rattle.units.proofs.AreaLemmas.{copy_step}
use Rattle.units.proofs.areas.lanes_at.Goals as goal

pub loop-place-preserved : goal.loop-place-preserved
loop-place-preserved c =
    copy_step c.args.codes.now c.loop-place.lanes c.args.first c.loop-place.place c.number.result _ c.loop-place-test.true (omega (arith, c.requires, c.type_inv.codes)) c.number.ensures.same c.number.ensures.below c.loop-place.invariant
