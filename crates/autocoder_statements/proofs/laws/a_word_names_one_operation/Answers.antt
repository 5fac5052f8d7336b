use Rattle.autocoder_statements.proofs.OperationLaw.{one_operation}
use Rattle.autocoder_statements.proofs.laws.a_word_names_one_operation.Goals as goal

pub returns : goal.returns
returns c = one_operation
