use Rattle.autocoder_laws.proofs.Fields.{constant_law, constant_law_back}
use Rattle.autocoder_laws.proofs.constants.constants_are_read.Goals as goal

pub returns-clause-read : goal.returns-clause-read
returns-clause-read c = constant_law

pub returns-clause-spelled : goal.returns-clause-spelled
returns-clause-spelled c = constant_law_back
