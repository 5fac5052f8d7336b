use Rattle.machine.proofs.InRange.{loaded_in_range, after_in_range, started_in_range}
use Rattle.machine.proofs.runs.stays_in_range.Goals as goal

pub returns : goal.returns
returns c = record { loaded = loaded_in_range; after = after_in_range; started = started_in_range }
