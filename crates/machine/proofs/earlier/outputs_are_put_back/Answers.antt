use Rattle.machine.proofs.EarlierSteps.{put_back, left_behind, without_in_range}
use Rattle.machine.proofs.earlier.outputs_are_put_back.Goals as goal

pub returns : goal.returns
returns c = record { same = put_back; behind = left_behind; in_range = without_in_range }
