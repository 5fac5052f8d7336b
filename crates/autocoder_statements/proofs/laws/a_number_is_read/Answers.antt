use Rattle.autocoder_statements.proofs.NumberLaw.{number_spelled}
use Rattle.autocoder_statements.proofs.laws.a_number_is_read.Goals as goal

pub returns : goal.returns
returns c = number_spelled
