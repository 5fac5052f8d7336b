use Rattle.std.proofs.Common.{rules}
use Rattle.scripts.proofs.meaning.heading.Goals as goal

pub returns : goal.returns
returns c = record {
  name = c.args.words.now.name.now;
  numeral = c.args.words.now.number.now;
  kind = c.args.words.now.kind.now;
  size = c.args.words.now.size.now;
  switches = c.args.words.now.switches.now;
  count = c.args.words.now.cards.now;
  are = search rules;
  customer_is = c.in_ok-customer.ensures;
  number_is = c.number_of.ensures;
  kind_is = c.in-Some.ensures.some;
  size_is = c.number_of-2.ensures;
  switches_are = c.in-Some-switches_of.ensures.some;
  count_is = c.in-Some-count_of.ensures.some;
}
