use Rattle.std.proofs.Common.{inl, inr, rules}
use Rattle.scripts.proofs.TextLemmas.{no_count, zero_count}
use Rattle.scripts.proofs.values.count_of.Goals.{then-number-eq0-via-then-number-eq0, then-number-eq0-via-else-number-eq0+then-number-gt-MOST_CARDS}
use Rattle.scripts.proofs.values.count_of.Goals as goal

pub returns-then-eq-clause-some : goal.returns-then-eq-clause-some
returns-then-eq-clause-some c = zero_count c.args.word.now (search rules)

pub returns-then-number-eq0-clause-none : goal.returns-then-number-eq0-clause-none
returns-then-number-eq0-clause-none c =
    no_count c.args.word.now c.number_of-number.result (search rules) c.number_of-number.ensures (elim c.then-number-eq0.branch [
      | then-number-eq0-via-then-number-eq0 w ↦ inl (search rules)
      | then-number-eq0-via-else-number-eq0+then-number-gt-MOST_CARDS w ↦ inr (search rules)
    ])
