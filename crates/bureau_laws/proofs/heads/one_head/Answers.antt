use Rattle.bureau_laws.proofs.HeadLaw.{same_head}
use Rattle.bureau_laws.proofs.heads.one_head.Goals as goal

pub returns : goal.returns
returns c = same_head
