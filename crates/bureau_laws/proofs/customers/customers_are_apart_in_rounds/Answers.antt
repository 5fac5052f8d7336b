use Rattle.bureau_laws.proofs.CustomerRounds.{own_is_kept, own_is_chain, answers_are, own_is_left}
use Rattle.bureau_laws.proofs.customers.customers_are_apart_in_rounds.Goals as goal

pub returns : goal.returns
returns c = record { kept = own_is_kept; chain = own_is_chain; answers = answers_are; own_parts_are_left = own_is_left }
