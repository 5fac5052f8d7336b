use Rattle.bureau_laws.proofs.AskingLaw.{same_target, same_asking}
use Rattle.bureau_laws.proofs.asking.one_asking.Goals as goal

pub returns : goal.returns
returns c = record { of_target = same_target; of_bytes = same_asking }
