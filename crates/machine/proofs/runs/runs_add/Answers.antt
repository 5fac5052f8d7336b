use Rattle.machine.proofs.Steps.{after-after, attempts-add, risen-risen}
use Rattle.machine.proofs.runs.runs_add.Goals as goal

pub returns : goal.returns
returns c = record { machine = after-after; attempts = attempts-add; meter = risen-risen }
