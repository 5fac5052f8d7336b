use Rattle.std.proofs.Common.{refl, ap}
use Rattle.sqlite.specs.Order.{column}
use Rattle.job_checks.proofs.NameLemmas.{names_are_texts}
use Rattle.job_archives.proofs.names.name_in.Goals as goal

pub returns-in_default-clause-lawful : goal.returns-in_default-clause-lawful
returns-in_default-clause-lawful c e row customer number = absurd (c.in_default.ensures.none refl e.customer (names_are_texts e.customer customer) (ap (λ r. column r 0) row))
