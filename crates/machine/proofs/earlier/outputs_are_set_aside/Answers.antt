use Rattle.machine.proofs.EarlierSteps.{aside_same, aside_behind, report_same}
use Rattle.machine.proofs.earlier.outputs_are_set_aside.Goals as goal

pub returns : goal.returns
returns c = record { same = aside_same; behind = aside_behind; report = report_same }
