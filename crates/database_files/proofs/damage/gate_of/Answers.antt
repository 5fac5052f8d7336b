use Rattle.std.proofs.Common.{arith}
use Rattle.sqlite_wal.specs.Recovery.{frames_len}
use Rattle.database_files.proofs.damage.gate_of.Goals as goal

pub returns : goal.returns
unfolding frames_len
returns c = grind arith
