use Rattle.arith.proofs.RankOrders.{order_is}
use Rattle.arith.proofs.ranks.order_is_by_the_first_difference.Goals as goal

pub returns : goal.returns
returns c = order_is
