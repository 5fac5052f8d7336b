use Rattle.autocoder_statements.proofs.OperandFormLaw.{none_or_one, none_or_two, one_or_two}
use Rattle.autocoder_statements.proofs.laws.a_field_has_one_form.Goals as goal

pub returns-clause-none_or_one : goal.returns-clause-none_or_one
returns-clause-none_or_one c = none_or_one

pub returns-clause-none_or_two : goal.returns-clause-none_or_two
returns-clause-none_or_two c = none_or_two

pub returns-clause-one_or_two : goal.returns-clause-one_or_two
returns-clause-one_or_two c = one_or_two
