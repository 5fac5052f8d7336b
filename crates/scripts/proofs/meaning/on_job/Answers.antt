use Rattle.std.proofs.Common.{subst}
use Rattle.scripts.specs.Commands.{AreFound}
use Rattle.scripts.proofs.MeaningLemmas.{job_nothing}
use Rattle.scripts.proofs.meaning.on_job.Goals as goal

pub returns-in_default : goal.returns-in_default
returns-in_default c = λ verb after few found. job_nothing verb _ _ after few (subst (AreFound verb after) c.in_default.is found)
