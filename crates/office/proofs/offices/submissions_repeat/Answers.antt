use Rattle.office.proofs.OfficeRepeats.{taken_twice}
use Rattle.office.proofs.offices.submissions_repeat.Goals as goal

pub returns : goal.returns
returns c = taken_twice
