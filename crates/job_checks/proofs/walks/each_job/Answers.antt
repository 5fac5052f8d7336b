use Rattle.job_checks.specs.Walks.{HasWalked}
use Rattle.job_checks.proofs.HandedRows.{handed_alone}
use Rattle.job_checks.proofs.walks.each_job.Goals as goal

pub returns-in-Ok-clause-read : goal.returns-in-Ok-clause-read
returns-in-Ok-clause-read g c clean =
    handed_alone g.S.Store c.args.conn c.walk_settled-walked.new.conn c.walk_settled-walked.result (λ db walked. HasWalked g.E.EachJob.takes db c.args.each.now c.walk_settled-walked.new.each walked) c.walk_settled-walked.ensures.read c.hand_back-sound.result.0 c.in-Ok.is (c.hand_back-sound.ensures.sound clean)

pub returns-in-Ok-clause-left : goal.returns-in-Ok-clause-left
returns-in-Ok-clause-left g c clean db recovers = (c.walk_settled-walked.ensures.left (c.hand_back-sound.ensures.clean clean)).1 db (c.hand_back-sound.ensures.left clean db recovers)

pub returns-in-Err-clause-left : goal.returns-in-Err-clause-left
returns-in-Err-clause-left g c clean db recovers = (c.walk_settled-walked.ensures.left (c.hand_back-sound.ensures.clean clean)).1 db (c.hand_back-sound.ensures.left clean db recovers)
