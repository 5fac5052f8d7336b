use Rattle.card_tools.proofs.CardNumbers.{in_order}
use Rattle.card_tools.proofs.laws.numbered_is_in_order.Goals as goal

pub returns : goal.returns
returns c = in_order
