use Rattle.office.specs.Jobs.{beginning}
use Rattle.office.proofs.GrantLaw.{resumed_more, resumed_started}
use Rattle.office.proofs.laws.pictures_go_on.Goals as goal

pub returns : goal.returns
returns c = record {
  sliced = λ job limit. resumed_more c.runs_add.ensures.machine (beginning job) limit job.stretches;
  started = λ job. resumed_started (beginning job) job.stretches;
}
