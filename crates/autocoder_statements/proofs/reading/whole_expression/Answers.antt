use Rattle.autocoder_statements.specs.Ranges.{IsExpressionInRange}
use Rattle.autocoder_statements.proofs.ReadingLemmas.{whole_keeps}
use Rattle.autocoder_statements.proofs.reading.whole_expression.Goals as goal

pub returns-clause-range : goal.returns-clause-range
returns-clause-range c = rw c.whole.ensures (whole_keeps IsExpressionInRange c.args.field.now c.read_expression.result c.read_expression.ensures.range)
