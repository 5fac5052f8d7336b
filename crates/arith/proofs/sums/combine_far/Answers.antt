use Rattle.arith.proofs.SumWholes.{added_is}
use Rattle.arith.proofs.sums.combine_far.Goals as goal

pub returns : goal.returns
returns g c =
    added_is c.args.reversed (g.C.Core.cells c.args.core.now) c.args.registers.now c.in_ok-counts.counts c.in_ok-counts.ensures.counts c.in_ok-counts.ensures.known c.if-not-is_number.ensures
    c.is_minus.result c.is_minus.ensures (g.C.Core.cells c.join_signed-overflows.new.core) c.lower.new.self c.lower.ensures
    c.join_signed-overflows.result c.if-not-is_number-2.ensures c.join_signed-overflows.ensures.codes c.join_signed-overflows.ensures.overflows
