use Rattle.std.proofs.Common.{arith}
use Rattle.run_traces.proofs.DumpLaw.{read_back}
use Rattle.run_traces.proofs.laws.dump_is_read.Goals as goal

pub returns : goal.returns
returns c = λ s rows whole few below. read_back s rows whole (omega (arith, whole, few)) below
