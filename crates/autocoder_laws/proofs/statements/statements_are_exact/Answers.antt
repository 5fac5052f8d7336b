use Rattle.autocoder_laws.proofs.StatementLaw.{statement_law}
use Rattle.autocoder_laws.proofs.FoundLaw.{found_law}
use Rattle.autocoder_laws.proofs.statements.statements_are_exact.Goals as goal

pub returns-clause-made : goal.returns-clause-made
returns-clause-made c = statement_law

pub returns-clause-found : goal.returns-clause-found
returns-clause-found c = found_law
