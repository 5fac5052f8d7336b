use Rattle.console.proofs.TextLemmas.{no_count}
use Rattle.console.proofs.readings.count_of.Goals as goal

pub returns-then-number-gt-MOST_ASKED : goal.returns-then-number-gt-MOST_ASKED
returns-then-number-gt-MOST_ASKED c =
    no_count c.args.text.now c.in-Some.number c.if-number-gt-MOST_ASKED.true c.in-Some.ensures.some.1 c.in-Some.ensures.some.2
