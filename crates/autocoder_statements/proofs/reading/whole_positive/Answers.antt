use Rattle.autocoder_statements.specs.Ranges.{IsPositiveInRange}
use Rattle.autocoder_statements.proofs.ReadingLemmas.{whole_keeps}
use Rattle.autocoder_statements.proofs.reading.whole_positive.Goals as goal

pub returns-clause-range : goal.returns-clause-range
returns-clause-range c = rw c.whole.ensures (whole_keeps IsPositiveInRange c.args.field.now c.read_positive.result c.read_positive.ensures.range)
