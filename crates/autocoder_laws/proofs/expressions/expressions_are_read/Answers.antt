use Rattle.autocoder_laws.proofs.AddressTexts.{each_expression}
use Rattle.autocoder_laws.proofs.Fields.{expression_law, expression_law_back}
use Rattle.autocoder_laws.proofs.expressions.expressions_are_read.Goals as goal

pub returns-clause-read : goal.returns-clause-read
returns-clause-read c = expression_law

pub returns-clause-spelled : goal.returns-clause-spelled
returns-clause-spelled c = expression_law_back

pub returns-clause-each : goal.returns-clause-each
returns-clause-each c = each_expression
