use Rattle.bureau_laws.proofs.CustomerLaw.{are_apart, others_change_nothing, replies_alone}
use Rattle.bureau_laws.proofs.customers.customers_are_apart.Goals as goal

pub returns : goal.returns
returns c = record {
  replies = λ customer commands office. (are_apart customer commands office).replies_are;
  own = λ customer commands office. (are_apart customer commands office).own_is;
  others = others_change_nothing;
  alone = replies_alone;
}
