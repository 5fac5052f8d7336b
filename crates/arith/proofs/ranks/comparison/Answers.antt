use Rattle.std.proofs.Common.{◌∙◌, sym}
use Rattle.arith.proofs.RankOrders.{comparison_shorter, comparison_same}
use Rattle.arith.proofs.ranks.comparison.Goals as goal

pub returns-then-counts : goal.returns-then-counts
returns-then-counts g c = sym (comparison_shorter (g.C.Core.cells c.args.core.now) c.args.a c.args.b c.args.counts c.requires c.if-counts.true)

pub returns-else-counts : goal.returns-else-counts
returns-else-counts g c = c.order.ensures ∙ comparison_same (g.C.Core.cells c.args.core.now) c.args.a c.args.b c.args.counts c.requires c.if-counts.false
