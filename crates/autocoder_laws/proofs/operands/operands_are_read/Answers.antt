use Rattle.autocoder_laws.proofs.OperandLaw.{first_law, second_law}
use Rattle.autocoder_laws.proofs.operands.operands_are_read.Goals as goal

pub returns-clause-first : goal.returns-clause-first
returns-clause-first c = first_law

pub returns-clause-second : goal.returns-clause-second
returns-clause-second c = second_law
