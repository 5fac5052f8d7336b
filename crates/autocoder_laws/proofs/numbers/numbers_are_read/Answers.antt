use Rattle.autocoder_laws.proofs.NumberTexts.{each_number}
use Rattle.autocoder_laws.proofs.Fields.{positive_law, positive_law_back}
use Rattle.autocoder_laws.proofs.numbers.numbers_are_read.Goals as goal

pub returns-clause-read : goal.returns-clause-read
returns-clause-read c = positive_law

pub returns-clause-spelled : goal.returns-clause-spelled
returns-clause-spelled c = positive_law_back

pub returns-clause-each : goal.returns-clause-each
returns-clause-each c = each_number
