use Rattle.autocoder_statements.specs.Ranges.{IsConstantInRange}
use Rattle.autocoder_statements.proofs.ReadingLemmas.{whole_keeps}
use Rattle.autocoder_statements.proofs.reading.whole_constant.Goals as goal

pub returns-clause-range : goal.returns-clause-range
returns-clause-range c = rw c.whole.ensures (whole_keeps IsConstantInRange c.args.field.now c.read_constant.result c.read_constant.ensures.range)
