use Rattle.check_causes.proofs.SentenceLaw.{is_so}
use Rattle.check_causes.proofs.laws.causes_are_so.Goals as goal

pub returns : goal.returns
returns g = is_so
