use Rattle.office.proofs.KeepingLaw.{new_jobs_are, jobs_stay, jobs_in_range}
use Rattle.office.proofs.laws.commands_keep_jobs.Goals as goal

pub returns : goal.returns
returns c = record {
  new = new_jobs_are;
  kept = jobs_stay;
  in_range = jobs_in_range c.stays_in_range.ensures.loaded c.stays_in_range.ensures.after c.stays_in_range.ensures.started;
}
