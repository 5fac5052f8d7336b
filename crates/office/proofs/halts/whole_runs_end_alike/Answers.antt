use Rattle.office.proofs.HaltLemmas.{end_alike}
use Rattle.office.proofs.halts.whole_runs_end_alike.Goals as goal

pub returns : goal.returns
returns c = end_alike c.stopped_machines_stay.ensures.one_end
