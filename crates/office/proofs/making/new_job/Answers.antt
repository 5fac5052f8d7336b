use Rattle.std.proofs.Common.{sym, ◌∙◌}
use Rattle.office.specs.New.{new_job}
use Rattle.office.proofs.KeepingLaw.{taken_as, kept_as}
use Rattle.office.proofs.making.new_job.Goals as goal

pub returns-in-Ok-load-clause-job : goal.returns-in-Ok-load-clause-job
returns-in-Ok-load-clause-job g c = record {
  job = new_job c.in-Some.size c.args.contents.now;
  taken = taken_as c.in-Some.size c.args.contents.now (sym c.of_positions.ensures.size ∙ c.in-Some.is) c.in-Ok.ensures.taken;
  kept_is = c.in-Ok-load.ensures ∙ kept_as c.in-Some.size c.args.contents.now c.in-Ok.deck c.in-Ok.ensures.deck;
}
