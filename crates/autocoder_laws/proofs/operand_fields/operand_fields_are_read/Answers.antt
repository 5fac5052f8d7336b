use Rattle.autocoder_laws.proofs.OperandTexts.{operands_read, operands_spelled, operands_one}
use Rattle.autocoder_laws.proofs.operand_fields.operand_fields_are_read.Goals as goal

pub returns-clause-read : goal.returns-clause-read
returns-clause-read c = operands_read

pub returns-clause-spelled : goal.returns-clause-spelled
returns-clause-spelled c = λ form o field e. operands_spelled form field o e

pub returns-clause-one : goal.returns-clause-one
returns-clause-one c = operands_one
