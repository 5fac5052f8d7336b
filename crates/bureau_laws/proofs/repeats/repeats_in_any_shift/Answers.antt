use Rattle.bureau_laws.proofs.RepeatLaw.{kept_repeat, lost_repeat}
use Rattle.bureau_laws.proofs.repeats.repeats_in_any_shift.Goals as goal

pub returns : goal.returns
returns c = record { kept = kept_repeat c.submissions_repeat.ensures; lost = lost_repeat }
