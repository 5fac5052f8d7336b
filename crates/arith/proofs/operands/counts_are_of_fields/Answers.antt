use Rattle.arith.proofs.OperandCounts.{are_of_fields}
use Rattle.arith.proofs.operands.counts_are_of_fields.Goals as goal

pub returns : goal.returns
returns c = are_of_fields
