use Rattle.std.proofs.Common.{refl, arith}
use Rattle.disassembly.proofs.StoredLemmas.{copied_none, copied_more, copied_all}
use Rattle.disassembly.proofs.stored.codes_from.Goals as goal

pub loop-place-init : goal.loop-place-init
loop-place-init g c = (refl, copied_none (g.C.Core.cells c.args.core.now) c.args.first)

pub loop-place-preserved : goal.loop-place-preserved
loop-place-preserved g c =
    copied_more (g.C.Core.cells c.args.core.now) c.args.first c.loop-place.place c.get_after.result c.loop-place.codes
    (omega arith) (omega arith) c.get_after.ensures c.loop-place.invariant

pub returns : goal.returns
returns g c =
    copied_all (g.C.Core.cells c.args.core.now) c.args.first c.loop-place.place c.args.count c.loop-place.codes (omega arith) c.loop-place.invariant
