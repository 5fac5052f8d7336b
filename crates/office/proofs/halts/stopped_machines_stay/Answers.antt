use Rattle.office.proofs.HaltLemmas.{stays, one_end, passes}
use Rattle.office.proofs.halts.stopped_machines_stay.Goals as goal

pub returns : goal.returns
returns c = record { stays = stays; one_end = one_end c.runs_add.ensures.machine; passes = passes c.runs_add.ensures.machine }
