use Rattle.job_archives.proofs.ReadingLaw.{is_read_back}
use Rattle.job_archives.proofs.laws.archives_are_read.Goals as goal

pub returns : goal.returns
returns c = is_read_back
