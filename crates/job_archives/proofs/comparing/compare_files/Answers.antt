use Rattle.job_archives.proofs.CopyLemmas.{compared}
use Rattle.job_archives.proofs.comparing.compare_files.Goals as goal

pub returns-in-Ok-clause-compared : goal.returns-in-Ok-clause-compared
returns-in-Ok-clause-compared g c =
    compared g.S.Store g.T.Store c.args.customers c.args.file c.compare_settled-told.new.file c.args.copy c.compare_settled-told.new.copy c.hand_back-sound.result.1 c.hand_back-copied.result.1 c.compare_settled-told.result
    c.hand_back-sound.result.0 c.hand_back-copied.result.0 c.both_sound.result c.compare_settled-told.ensures.read c.in-Ok.is c.both_sound.ensures c.hand_back-sound.ensures.sound c.hand_back-copied.ensures.sound
