use Rattle.job_archives.proofs.BagLemmas.{none_behind}
use Rattle.job_archives.proofs.bags.behind_digest.Goals as goal

pub returns-then-text-lt64 : goal.returns-then-text-lt64
returns-then-text-lt64 c = none_behind 64 c.args.text.now c.if-text-lt64.true
