use Rattle.std.proofs.Common.{refl}
use Rattle.job_checks.proofs.NameLemmas.{names_are_texts}
use Rattle.job_checks.proofs.jobs.name_of.Goals as goal

pub returns-in_default-clause-none : goal.returns-in_default-clause-none
returns-in_default-clause-none c = λ customer number is. c.in_default.ensures.none refl customer (names_are_texts customer is.lawful_text) is.text
