use Rattle.machine.proofs.DecodeLaw.{length_ends, ends_length}
use Rattle.machine.proofs.decode.instructions_end_at_marks.Goals as goal

pub returns : goal.returns
returns c s i count = (length_ends s i count, ends_length s i count)
