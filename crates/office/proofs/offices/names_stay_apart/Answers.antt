use Rattle.office.proofs.OfficeNames.{stay_apart}
use Rattle.office.proofs.offices.names_stay_apart.Goals as goal

pub returns : goal.returns
returns c = stay_apart
