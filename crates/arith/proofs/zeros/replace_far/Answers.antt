use Rattle.arith.proofs.SumWholes.{zero_added_is}
use Rattle.arith.proofs.zeros.replace_far.Goals as goal

pub returns : goal.returns
returns g c =
    zero_added_is c.args.reversed (g.C.Core.cells c.args.core.now) c.args.registers.now c.in_ok-counts.counts c.in_ok-counts.ensures.counts c.in_ok-counts.ensures.known c.if-not-is_number.ensures
    c.is_minus.result c.is_minus.ensures (g.C.Core.cells c.join.new.core) c.lower.new.self c.lower.ensures
    c.sign_zone.result c.sign_zone.ensures c.join.ensures.codes
