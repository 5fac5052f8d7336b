use Rattle.std.proofs.Common.{◌≡◌, List, ℕ, ap, sym, ◌∙◌}
use Rattle.office.specs.Office.{Office, fold, own}
use Rattle.office.specs.declared.commands.Command.{Command}
use Rattle.bureau_laws.specs.Customers.{commands_of, replies_to}
use Rattle.bureau_laws.proofs.CustomerLaw.{are_apart}
use Rattle.bureau_laws.proofs.parts.parts_keep_replies.Goals as goal

same_replies : (customer : List ℕ) (commands : List Command) (one other : Office) → own customer one ≡ own customer other → replies_to customer commands (fold commands one).1 ≡ replies_to customer commands (fold commands other).1
same_replies customer commands one other same =
    (are_apart customer commands one).replies_are ∙ ap (λ (office : Office). (fold (commands_of customer commands) office).1) same ∙ sym (are_apart customer commands other).replies_are

pub returns : goal.returns
returns c = record {
  part = λ customers customer commands office here. same_replies customer commands _ office (c.parts_keep_customers.ensures.theirs customers customer office here);
  first = λ customer commands office more none. same_replies customer commands _ office (c.joins_keep_customers.ensures.first customer office more none);
  second = λ customer commands office more none. same_replies customer commands _ more (c.joins_keep_customers.ensures.second customer office more none);
}
