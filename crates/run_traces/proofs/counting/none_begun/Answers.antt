use Rattle.std.proofs.Common.{arith}
use Rattle.run_traces.proofs.CountLemmas.{counted_none}
use Rattle.run_traces.proofs.counting.none_begun.Goals as goal

pub returns : goal.returns
returns c = λ m. counted_none m c.loop-address.places.items (omega arith) c.loop-address.invariant.none
