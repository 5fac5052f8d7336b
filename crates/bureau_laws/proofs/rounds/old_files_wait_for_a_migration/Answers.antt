use Rattle.bureau_laws.proofs.RoundLaw.{links_raise}
use Rattle.bureau_laws.proofs.rounds.old_files_wait_for_a_migration.Goals as goal

pub returns : goal.returns
returns c = links_raise c.kept_offices_run_whole.ensures
