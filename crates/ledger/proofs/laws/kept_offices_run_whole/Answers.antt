use Rattle.ledger.proofs.WholeJobsLaw.{have_whole_rows}
use Rattle.ledger.proofs.laws.kept_offices_run_whole.Goals as goal

pub returns : goal.returns
returns c = have_whole_rows c.offices_run_whole.ensures
