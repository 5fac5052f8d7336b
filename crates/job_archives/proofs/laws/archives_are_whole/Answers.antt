use Rattle.job_archives.proofs.ReadingLaw.{same_entry, same_facts}
use Rattle.job_archives.proofs.laws.archives_are_whole.Goals as goal

pub returns : goal.returns
returns c = record {
  facts = same_facts c.commands_keep_jobs.ensures.in_range;
  whole = same_entry c.commands_keep_jobs.ensures.in_range;
}
